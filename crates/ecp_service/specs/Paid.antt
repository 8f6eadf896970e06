-- What the stores of a run say of its history.
use Rattle.std.specs.Prelude.{◌≡◌, ℕ, ◌+◌, ◌-◌, ◌^◌, ◌<◌, ◌≤◌, Bool, false, IsTrue, List, length, slice_index_or, ⊤}
use Rattle.ecp_entry.specs.declared.entry.Entry.{Entry}
use Rattle.ecp_history.specs.Counted.{faults_spent}

-- whether the stores tell what they hold, and whether they paid for the failures that a history tells of
pub record Storage : Type 1 where
  pub tells : Bool
  pub paid : List Entry → Type 0

-- As many stores came back. Each failed as often more as entries tell of failures of its node, or oftener, unless its count stands at its
-- last value; and a faultless one did not fail, nor does an entry tell so
pub record PaidBy {S : Type 0} (faults : S → ℕ) (faultless : S → Bool) (old new : List S) (history : List Entry) : Type 0 where
  pub back : length new ≡ length old
  pub spent : (m : ℕ) (s : S) → faults (slice_index_or new m s) < 2 ^ 64 - 1
      → faults (slice_index_or old m s) + faults_spent m history ≤ faults (slice_index_or new m s)
  pub unfailing : (m : ℕ) (s : S) → m < length old → IsTrue (faultless (slice_index_or old m s))
      → (faults (slice_index_or new m s) ≡ faults (slice_index_or old m s)) × (faults_spent m history ≡ 0)

-- what these stores, which were given and came back, say
abbrev pub storage : {S : Type 0} → Bool → (S → ℕ) → (S → Bool) → List S → List S → Storage
storage tells faults faultless old new = record { tells = tells; paid = PaidBy faults faultless old new }

-- a command that has no store
abbrev pub no_stores : Storage
no_stores = record { tells = false; paid = λ history. ⊤ }
