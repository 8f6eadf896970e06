-- A stamp more.
use Rattle.std.proofs.Common.{◌≡◌, ℕ, ◌+◌, ◌<◌, ◌==◌, ◌||◌, Bool, true, false, cond, List, length, map, take, get_or, set, refl, sym, ◌∙◌, ap, subst, inl, inr}
use Rattle.std.specs.Prelude.{slice_index, option_map}
use Rattle.std.specs.List.{list_any}
use Rattle.std.proofs.lemmas.Bool.{cases_eq, eq-eqb, ne_eqb, or_right}
use Rattle.std.proofs.lemmas.List.{get_or-set_same, get_or-set_other}
use Rattle.std.proofs.lemmas.List.Folds.{list_any_more}
use Rattle.std.proofs.lemmas.Option.{slice_get-map, slice_get_read, get_or_from_slice_get}

pub map-read : {X : Type 0} (f : X → ℕ) (xs : List X) (k : ℕ) (x : X) → k < length xs → x ≡ get_or xs k x → get_or (map f xs) k 0 ≡ f x
map-read f xs k x low is = get_or_from_slice_get (map f xs) k (f x) 0 (slice_get-map f xs k ∙ ap (option_map f) (slice_get_read xs (length xs) k x refl low is))

or-false : (b : Bool) → (b || false) ≡ b
or-false true = refl
or-false false = refl

pub stamp-more : (stamps before nodes : List ℕ) (k x m stamp : ℕ) → k < length nodes → get_or nodes k 0 ≡ x → x < length stamps
    → slice_index stamps m ≡ cond (list_any (λ y. y == m) (take k nodes)) stamp (slice_index before m)
    → slice_index (set stamps x stamp) m ≡ cond (list_any (λ y. y == m) (take (k + 1) nodes)) stamp (slice_index before m)
stamp-more stamps before nodes k x m stamp low is there so_far =
    let more : list_any (λ y. y == m) (take (k + 1) nodes) ≡ (list_any (λ y. y == m) (take k nodes) || (x == m)) =
    list_any_more (λ (y : ℕ). y == m) nodes k 0 low ∙ ap (λ (y : ℕ). list_any (λ z. z == m) (take k nodes) || (y == m)) is in
    elim (cases_eq m x) [
      | inl same ↦
          let own : x == m ≡ true = eq-eqb x m (sym same) in
          subst (λ (j : ℕ). slice_index (set stamps x stamp) j ≡ stamp) (sym same) (get_or-set_same stamps x stamp 0 there)
          ∙ sym (ap (λ (b : Bool). cond b stamp (slice_index before m)) (more ∙ or_right (list_any (λ (y : ℕ). y == m) (take k nodes)) (x == m) own))
      | inr other ↦
          let apart : x == m ≡ false = ne_eqb x m (λ same. other (sym same)) in
          get_or-set_other stamps x m stamp 0 other ∙ so_far
          ∙ sym (ap (λ (b : Bool). cond b stamp (slice_index before m)) (more ∙ ap (λ (b : Bool). list_any (λ y. y == m) (take k nodes) || b) apart ∙ or-false (list_any (λ y. y == m) (take k nodes))))
    ]
