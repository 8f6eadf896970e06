-- Laws of the numbers of bytes and stripes.
use Rattle.std.proofs.Common.{◌≡◌, ℕ, zero, suc, ◌+◌, ◌-◌, ◌*◌, ◌/◌, ◌%◌, ◌<◌, List, [], length, drop, Some, slice_get, min, add-zero, ap, sym, ◌∙◌, arith}
use Rattle.std.proofs.lemmas.Nat.{div-mul-add, div-add-mod', mod_below}
use Rattle.std.proofs.lemmas.List.FromFn.{length-map-range_with_len, get_or-map-range_with_len}
use Rattle.std.proofs.lemmas.Option.{slice_get-get_or}
use Rattle.ecp_code.specs.Stripes.{blocks, stripes, stripe_count}

-- a quotient that is rounded up
pub rounded_up : (a b : ℕ) → 0 < b → a / b + min 1 (a % b) ≡ (a + b - 1) / b
rounded_up a b pos =
    let q = a / b in
    let r = a % b in
    let whole : q * b + r ≡ a = div-add-mod' a b in
    let small : r < b = mod_below a b pos in
    go q r whole small
  where
    go : (q r : ℕ) → q * b + r ≡ a → r < b → q + min 1 r ≡ (a + b - 1) / b
    go q zero whole small =
        let e : a + b - 1 ≡ q * b + (b - 1) = omega arith in
        add-zero q ∙ sym (ap (λ n. n / b) e ∙ div-mul-add q b (b - 1) (omega arith))
    go q (suc r) whole small =
        let e : a + b - 1 ≡ (q + 1) * b + r = omega arith in
        let one : min 1 (suc r) ≡ 1 = omega arith in
        ap (λ n. q + n) one ∙ sym (ap (λ n. n / b) e ∙ div-mul-add (q + 1) b r (omega arith))

pub slice_get-stripes : (k len : ℕ) (bytes : List ℕ) (i : ℕ) → i < stripe_count k len (length bytes) → slice_get (stripes k len bytes) i ≡ Some (blocks k len (drop (i * (k * len)) bytes))
slice_get-stripes k len bytes i h =
    let at = λ (j : ℕ). blocks k len (drop (j * (k * len)) bytes) in
    let count = stripe_count k len (length bytes) in
    slice_get-get_or (stripes k len bytes) i [] (omega (arith, length-map-range_with_len at 0 count))
    ∙ ap Some (get_or-map-range_with_len at 0 count i i [] h (omega arith))
