-- A part of a call that is due: what must stand before its entry stands there, however the history goes on.
use Rattle.std.proofs.Common.{◌≡◌, ℕ, zero, suc, ◌-◌, Bool, true, false, ◌&&◌, ◌||◌, List, [], ◌∷◌, ◌++◌, Some, refl, sym, ◌∙◌, ap, subst, inl, inr}
use Rattle.std.specs.List.{list_any}
use mathlib.Core.List.{IsPrefix}
use Rattle.std.proofs.lemmas.Bool.{false≢true}
use Rattle.ecp_shape.specs.declared.shape.Shape.{Shape}
use Rattle.ecp_book.specs.Logs.{Log}
use Rattle.ecp_entry.specs.declared.act.Act.{Act}
use Rattle.ecp_entry.specs.declared.act.Act.TheVariants.{Data}
use Rattle.ecp_entry.specs.declared.deed.Deed.{Deed}
use Rattle.ecp_entry.specs.declared.deed.Deed.TheVariants as deed
use Rattle.ecp_entry.specs.declared.entry.Entry.{Entry}
use Rattle.ecp_entry.specs.declared.part.Part.{Part}
use Rattle.ecp_entry.specs.declared.part.Part.TheVariants as part
use Rattle.ecp_entry.specs.Entries.{is_part_of}
use Rattle.ecp_entry.specs.Told.{history_of}
use Rattle.ecp_entry.proofs.ToldLaws.{history_of-append}
use Rattle.ecp_history.specs.Calls.{OfBlock, ToCat, AtEnd, AtLater, kind_of, place_of}
use Rattle.ecp_history.specs.Parts.{HasPart, PartFits, refuses}
use Rattle.ecp_sequencer.specs.Passes.{PassState}
use Rattle.ecp_coord.specs.Calls.{closing}
use Rattle.ecp_coord.specs.Plans.{IsDue}
use Rattle.ecp_coord.proofs.EndWithLaws.{entry_by}

any_before : {X : Type 0} (test : X → Bool) (xs ys : List X) → list_any test xs ≡ true → list_any test (xs ++ ys) ≡ true
any_before test [] ys is = absurd (false≢true is)
any_before test (x ∷ xs) ys is = either (test x) is (any_before test xs ys) where
  either : (b : Bool) → (b || list_any test xs) ≡ true → (list_any test xs ≡ true → list_any test (xs ++ ys) ≡ true) → (b || list_any test (xs ++ ys)) ≡ true
  either true h more = refl
  either false h more = more h

-- it is due in another pass of the same call
pub due_by : (shape : Shape) (v w : PassState) (asked : Deed) (at : Part) (front : Log) → w.caller ≡ v.caller → w.calls ≡ v.calls → IsDue shape v asked at front → IsDue shape w asked at front
due_by shape v w asked at front caller calls due =
    subst (λ (e : Entry). PartFits shape (history_of front) e at)
    (ap (λ (k : ℕ). entry_by k (v.calls - 1) at 0 Data (Some asked) []) (sym caller) ∙ ap (λ (n : ℕ). entry_by w.caller (n - 1) at 0 Data (Some asked) []) (sym calls)) due

module _ (shape : Shape) (v : PassState) (asked : Deed) (front history : Log) (begins : IsPrefix front history) where
  whole : history_of history ≡ history_of front ++ history_of begins.0
  whole = ap (λ (xs : Log). history_of xs) (sym begins.1) ∙ history_of-append front begins.0

  has_still : (at : Part) (point : ℕ) (act : Act) (bytes : List ℕ) (j : ℕ) (test : Act → Bool) → HasPart (history_of front) (closing v asked at 0 Data []) j test
      → HasPart (history_of history) (closing v asked at point act bytes) j test
  has_still at point act bytes j test is =
      ap (list_any (λ (x : Entry). is_part_of (closing v asked at point act bytes) j x && test x.line.act)) whole
      ∙ any_before (λ (x : Entry). is_part_of (closing v asked at point act bytes) j x && test x.line.act) (history_of front) (history_of begins.0) is

-- so its entry stands where it must, by a history that the front begins
pub due_goes : (shape : Shape) (v : PassState) (asked : Deed) (at : Part) (front history : Log) → IsPrefix front history → OfBlock (kind_of (Some asked)) (place_of at) → IsDue shape v asked at front
    → (point : ℕ) (act : Act) (bytes : List ℕ) → refuses act ≡ false → PartFits shape (history_of history) (closing v asked at point act bytes) at
due_goes shape v asked part.End front history begins of due point act bytes off = λ yes. absurd (false≢true (sym off ∙ yes))
due_goes shape v asked (part.Part zero) front history begins (inl of) due point act bytes off = absurd (let is : place_of (part.Part zero) ≡ AtEnd = of.1 in cc)
due_goes shape v asked (part.Part zero) front history begins (inr of) due point act bytes off = absurd (let is : place_of (part.Part zero) ≡ AtLater = of.1 in cc)
due_goes shape v asked (part.Part (suc j)) front history begins (inl of) due point act bytes off = absurd (let is : place_of (part.Part (suc j)) ≡ AtEnd = of.1 in cc)
due_goes shape v asked (part.Part (suc j)) front history begins (inr of) due point act bytes off = by_deed asked of.0 due where
  by_index : (name : List ℕ) (i : ℕ) → PartFits shape (history_of front) (closing v (deed.Cat name) (part.Part (suc i)) 0 Data []) (part.Part (suc i))
      → PartFits shape (history_of history) (closing v (deed.Cat name) (part.Part (suc i)) point act bytes) (part.Part (suc i))
  by_index name zero is = has_still shape v (deed.Cat name) front history begins (part.Part 1) point act bytes 0 _ is
  by_index name (suc i) is = has_still shape v (deed.Cat name) front history begins (part.Part (suc (suc i))) point act bytes (suc i) _ is

  by_deed : (d : Deed) → kind_of (Some d) ≡ ToCat → IsDue shape v d (part.Part (suc j)) front → PartFits shape (history_of history) (closing v d (part.Part (suc j)) point act bytes) (part.Part (suc j))
  by_deed (deed.Cat name) kind is = by_index name j is
  by_deed (deed.Put name len) kind is = absurd (cc)
  by_deed (deed.Read name index) kind is = absurd (cc)
  by_deed (deed.Sum name index) kind is = absurd (cc)
  by_deed (deed.Lose node) kind is = absurd (cc)
  by_deed (deed.Join node) kind is = absurd (cc)
  by_deed (deed.Rebuild from to) kind is = absurd (cc)
  by_deed (deed.Stat name) kind is = absurd (cc)
