-- The bytes that the words of a put give are one list.
use Rattle.std.proofs.Common.{◌≡◌, ℕ, ◌<◌, ◌^◌, List, [], ◌∷◌, ◌++◌, Ok, decimal, inl, inr, sym, ap, subst, ◌∙◌, append_assoc, refl, arith}
use Rattle.std.specs.Prelude.{codes}
use Rattle.std.specs.Str.Parse.{AllDigits}
use Rattle.std.proofs.lemmas.Fmt.{decimal_injective, decimal_is_IsNumeral}
use Rattle.std.proofs.lemmas.List.{append_cancel_left}
use Rattle.std.proofs.lemmas.Str.Parse.{tells_digits}
use Rattle.hex.specs.Hex.{decode_of}
use Rattle.ecp_command.specs.Generated.{generated}
use Rattle.ecp_command.specs.Input.Cuts.{IsClear, IsCut}
use Rattle.ecp_command.specs.Input.Forms.{IsHex, IsRecipe, GiveBytes}
use Rattle.ecp_command.proofs.Decimals.{same_number}
use Rattle.ecp_command.proofs.Inputs.Spelled.{same_cut, begins_other}

same_bytes : (d a b : List ℕ) → IsHex d a → IsHex d b → a ≡ b
same_bytes d a b (inl x) (inl y) = x.1 ∙ sym y.1
same_bytes d a b (inl x) (inr y) =
    let e : decode_of (codes "-") ≡ Ok b = subst (λ (t : List ℕ). decode_of t ≡ Ok b) x.0 y.1 in absurd cc
same_bytes d a b (inr x) (inl y) =
    let e : decode_of (codes "-") ≡ Ok a = subst (λ (t : List ℕ). decode_of t ≡ Ok a) y.0 x.1 in absurd cc
same_bytes d a b (inr x) (inr y) = let e = sym x.1 ∙ y.1 in cc

-- ---- a seed and a length

clear_digits : (ds : List ℕ) → AllDigits 10 ds → IsClear 32 ds
clear_digits [] h = tt
clear_digits (d ∷ ds) h =
    let p = tells_digits.parts d ds h in
    ((λ e. omega (arith, e, p.0)), clear_digits ds p.1)

clear_decimal : (n : ℕ) → n < 2 ^ 64 → IsClear 32 (decimal n)
clear_decimal n lt = clear_digits (decimal n) (decimal_is_IsNumeral n lt).0.1

recipe_is : (text bytes : List ℕ) (h : IsRecipe text bytes) → text ≡ decimal h.seed ++ 32 ∷ decimal h.len
recipe_is text bytes h = h.spelled ∙ append_assoc (decimal h.seed) (codes " ") (decimal h.len)

-- the two texts of a recipe spell its numbers
pub recipe_at : (text seed len bytes : List ℕ) → IsCut 32 text seed len → (h : IsRecipe text bytes) → (seed ≡ decimal h.seed) × (len ≡ decimal h.len)
recipe_at text seed len bytes c h =
    same_cut 32 seed (decimal h.seed) len (decimal h.len) c.clear (clear_decimal h.seed h.seed_fits) (sym c.whole ∙ recipe_is text bytes h)

same_made : (text a b : List ℕ) → IsRecipe text a → IsRecipe text b → a ≡ b
same_made text a b h k =
    let same = same_cut 32 (decimal h.seed) (decimal k.seed) (decimal h.len) (decimal k.len) (clear_decimal h.seed h.seed_fits) (clear_decimal k.seed k.seed_fits)
    (sym (recipe_is text a h) ∙ recipe_is text b k) in
    let seeds : h.seed ≡ k.seed = decimal_injective h.seed k.seed h.seed_fits k.seed_fits same.0 in
    let lens : h.len ≡ k.len = same_number h.len k.len h.len_fits k.len_fits same.1 in
    h.made ∙ ap (λ (s : ℕ). generated s h.len) seeds ∙ ap (λ (n : ℕ). generated k.seed n) lens ∙ sym k.made

-- ---- either

pub one_bytes : (words a b : List ℕ) → GiveBytes words a → GiveBytes words b → a ≡ b
one_bytes words a b (inl x) (inl y) =
    let e : x.0 ≡ y.0 = append_cancel_left (codes "hex ") x.0 y.0 (sym x.2 ∙ y.2) in
    same_bytes y.0 a b (subst (λ (d : List ℕ). IsHex d a) e x.1) y.1
one_bytes words a b (inl x) (inr y) = absurd (begins_other (codes "hex " ++ x.0) (codes "gen " ++ y.0) (sym x.2 ∙ y.2) refl)
one_bytes words a b (inr x) (inl y) = absurd (begins_other (codes "gen " ++ x.0) (codes "hex " ++ y.0) (sym x.2 ∙ y.2) refl)
one_bytes words a b (inr x) (inr y) =
    let e : x.0 ≡ y.0 = append_cancel_left (codes "gen ") x.0 y.0 (sym x.2 ∙ y.2) in
    same_made y.0 a b (subst (λ (d : List ℕ). IsRecipe d a) e x.1) y.1
