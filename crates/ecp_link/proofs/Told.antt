-- What the calls tell, from what their steps told.
use Rattle.std.proofs.Common.{◌≡◌, ℕ, ◌<◌, Bool, true, false, List, [], ◌∷◌, ◌++◌, length, refl, sym, subst}
use Rattle.std.specs.Prelude.{Option, Some, None, IfSome, if◌then◌else◌}
use mathlib.Core.List.{IsPrefix}
use Rattle.atomic_table.specs.Seated.{TableId}
use Rattle.atomic_table.specs.Table.{Me}
use Rattle.ecp_link.specs.declared.ring.view.View.{View}
use Rattle.ecp_link.specs.Links.{Taking, TakesOne, IsBeginning}
use Rattle.ecp_link.specs.Rings.{taker_of, ended_in}

-- what is in the place that was taken last
abbrev pub in_hand : {T : Type 0} → List (ℕ × Option T) → Option T
in_hand [] = None
in_hand (x ∷ xs) = x.1

-- a fact of what is there
pub if_some : {A : Type 0} (P : A → Type 0) (o : Option A) (x : A) → o ≡ Some x → P x → IfSome o P
if_some P o x is p = subst (λ (y : _). IfSome y P) (sym is) p

module _ {T : Type 0} where
  ended_is : (s : Bool) (p all : List T) → (if s then Some p else None) ≡ Some all → (s ≡ true) × (p ≡ all)
  ended_is true p all e = (refl, cc)
  ended_is false p all e = absurd (cc)

  -- the taker took an item
  pub took : (table now : TableId) (me after : Me (Option T) (View T)) (found : ℕ) (x : T) (old : Taking T)
      → record { place = table; known = record { taken = me.0.taken; ended = ended_in me.0 }; looks = me.0.looks } ≡ old
      → now ≡ table → length me.0.taken < found
      → after ≡ (taker_of me.0.sends me.0.pushed (me.0.taken ++ x ∷ []) (me.0.looks ++ found ∷ []), [])
      → (me.0.sends ≡ true → IsPrefix (me.0.taken ++ x ∷ []) me.0.pushed)
      → TakesOne old record { place = now; known = record { taken = after.0.taken; ended = ended_in after.0 }; looks = after.0.looks } x
  took table now me after found x old is same lt told begins =
      subst (λ (t : Taking T). TakesOne t record { place = now; known = record { taken = after.0.taken; ended = ended_in after.0 }; looks = after.0.looks } x) is
      record {
        found = found;
        there = lt;
        is = λ i. record { place = same i; known = record { taken = (told i).0.taken; ended = ended_in (told i).0 }; looks = (told i).0.looks };
        begins = subst (λ (m : Me (Option T) (View T)). IsBeginning record { taken = m.0.taken; ended = ended_in m.0 }) (sym told)
            (λ all e. let s = ended_is me.0.sends me.0.pushed all e in subst (IsPrefix (me.0.taken ++ x ∷ [])) s.1 (begins s.0));
      }
