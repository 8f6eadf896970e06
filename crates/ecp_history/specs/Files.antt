-- The files that a history stores: their stripe numbers, and their bytes.
use Rattle.std.specs.Prelude.{◌≡◌, ℕ, ◌+◌, ◌*◌, ◌≤◌, Bool, true, false, List, sum_by, Contains, ⊤}
use Rattle.ecp_field.specs.Lists.{AreBytes}
use Rattle.ecp_entry.specs.declared.act.Act.{Act}
use Rattle.ecp_entry.specs.declared.act.Act.TheVariants.{Stored}
use Rattle.ecp_entry.specs.declared.entry.Entry.{Entry}
use Rattle.ecp_history.specs.Spans.{losses_in}

-- whether an act stores a file
abbrev pub is_stored : Act → Bool
is_stored (Stored first stripes up) = true
is_stored _ = false

-- a file that the entry stores has bytes
abbrev pub HasBytes : Entry → Type 0
HasBytes e = is_stored e.line.act ≡ true → AreBytes e.bytes

-- each file that the history stores has bytes
abbrev pub StoresBytes : List Entry → Type 0
StoresBytes history = (e : Entry) → Contains history e → HasBytes e

-- a call, and how many stripes it may store
pub record Storing : Type 0 where
  pub caller : ℕ
  pub call : ℕ
  pub stripes : ℕ

-- how many stripe numbers a call may use up: its stripes, once and once more for each loss during it
abbrev pub numbers_of : List Entry → Storing → ℕ
numbers_of history call = call.stripes * (losses_in history call.caller call.call + 1)

-- the stripe numbers of an act are below this one
abbrev pub StripesBelow : ℕ → Act → Type 0
StripesBelow most (Stored first stripes up) = first + stripes ≤ most
StripesBelow most _ = ⊤

-- stripe numbers are used up by these calls alone
abbrev pub StripesBounded : List Storing → List Entry → Type 0
StripesBounded calls history = (e : Entry) → Contains history e → StripesBelow (sum_by (numbers_of history) calls) e.line.act
