-- The passes with which a service is opened.
use Rattle.std.proofs.Common.{◌≡◌, ℕ, zero, suc, ◌<◌, [], ◌∷◌, length, get_or, inl, inr, refl, sym, ◌∙◌, ap, arith}
use Rattle.std.proofs.lemmas.Bool.{cases_eq}
use Rattle.std.proofs.lemmas.List.{length-append, get_or_push, get_or_append_left}
use Rattle.ecp_sequencer.specs.Passes.{PassState, first_pass, first_passes}

-- there is one for each caller
pub length_first : (spares n : ℕ) → length (first_passes spares n) ≡ n
length_first spares zero = refl
length_first spares (suc n) =
    let before : length (first_passes spares n) ≡ n = length_first spares n in
    omega (arith, before, length-append (first_passes spares n) (first_pass spares n ∷ []))

-- each at the place of its caller
pub first_at : (spares n c : ℕ) (p : PassState) → c < n → get_or (first_passes spares n) c p ≡ first_pass spares c
first_at spares zero c p below = absurd (omega (arith, below))
first_at spares (suc n) c p below =
    let before : length (first_passes spares n) ≡ n = length_first spares n in
    elim (cases_eq c n) [
      | inl is ↦
          get_or_push (first_passes spares n) (first_pass spares n) p c (omega (arith, before, is)) ∙ ap (first_pass spares) (sym is)
      | inr differs ↦
          let within : c < n = omega (arith, below, differs) in
          get_or_append_left (first_passes spares n) (first_pass spares n ∷ []) p c (omega (arith, before, within)) ∙ first_at spares n c p within
    ]
