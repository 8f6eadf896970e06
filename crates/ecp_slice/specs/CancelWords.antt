-- The rule of a cancel word, and what each kind of step does to a view.
use Rattle.std.specs.Prelude.{◌≡◌, ℕ, ◌≤◌, ◌==◌, ◌⊎◌, Bool, true, if◌then◌else◌, List, [], ◌∷◌, ◌++◌}
use mathlib.Core.Option.{some}
use lib.ListN.{get_elem?}
use Rattle.atomic_table.specs.Seated.{TableId}
use Rattle.atomic_table.specs.Table.{Me}
use Rattle.ecp_slice.specs.declared.reasons.TheConstants.{HELPER_LOST, CALL_ENDED}
use Rattle.ecp_slice.specs.declared.cancel.view.View.{View}
use Rattle.ecp_slice.specs.Cancels.{word_after}

-- what a seat may say: it knows 0 or the word, and if it wrote, then it is the writer, and the word is a reason
pub record Fits (word writer seat : ℕ) (v : View) : Type 0 where
  pub knows : (v.known ≡ 0) ⊎ (v.known ≡ word)
  pub wrote : v.wrote ≡ true → (seat ≡ writer) × (HELPER_LOST ≤ word)

-- the writer's seat says that it wrote
abbrev pub IsWriter : List View → ℕ → Type 0
IsWriter views writer = (v : View) × (get_elem? views writer ≡ some v) × (v.wrote ≡ true)

-- The word is 0, or a reason that one seat wrote, and each seat knows 0 or the word
pub record IsSetOnce (words : List ℕ) (views : List View) : Type 0 where
  pub word : ℕ
  pub writer : ℕ
  pub one : words ≡ word ∷ []
  pub in_range : word ≤ CALL_ENDED
  pub written : HELPER_LOST ≤ word → IsWriter views writer
  pub fits : (seat : ℕ) (v : View) → get_elem? views seat ≡ some v → Fits word writer seat v

-- a seat that knows this, that wrote or did not, and whose steps found these
abbrev pub view_of : ℕ → Bool → List ℕ → View
view_of known wrote looks = record { known = known; wrote = wrote; looks = looks }

-- the seat after a load that found this
abbrev pub loaded : View → ℕ → View
loaded v found = view_of found v.wrote (v.looks ++ found ∷ [])

-- the seat after an exchange of 0 for the reason, which found this
abbrev pub exchanged : View → ℕ → ℕ → View
exchanged v reason found = view_of (word_after reason found) (if found == 0 then true else v.wrote) (v.looks ++ found ∷ [])

-- the seat of a handle that knows this, and that wrote or did not
pub record IsHandle (word table : TableId) (me : Me (Unit {0}) View) (known : ℕ) (wrote : Bool) : Type 0 where
  pub on_word : table ≡ word
  pub one_word : word.words ≡ 1
  pub knows : me ≡ (view_of known wrote me.0.looks, [])
  pub in_range : known ≤ CALL_ENDED
