-- Sums over the helpers that were added.
use Rattle.std.proofs.Common.{◌≡◌, ℕ, zero, suc, ◌/◌, ◌%◌, ◌<◌, ◌==◌, Bool, true, false, cond, List, [], ◌∷◌, length, get_or, replicate, refl, sym, ◌∙◌, ap, arith}
use Rattle.std.specs.Int.{bit_at}
use Rattle.std.proofs.lemmas.Nat.Bits.{bit_at_lowest, bit_at-suc}
use Rattle.ecp_field.specs.Lists.{sums, scaled}
use Rattle.ecp_field.proofs.ListLaws.{sums_comm, sums_assoc}
use Rattle.ecp_code.specs.Rows.{weighted_sum}
use Rattle.ecp_slice.specs.Sound.{sum_added}
use Rattle.ecp_slice.proofs.Bits.{SetsBit, lowest_was, lowest_is, same_rest, same_lowest, in_halves}

-- no helper: zeros
pub sum_none : (len : ℕ) (ws : List ℕ) (slices : List (List ℕ)) → sum_added len 0 ws slices ≡ replicate len 0
sum_none len [] slices = refl
sum_none len (w ∷ ws) [] = refl
sum_none len (w ∷ ws) (slice ∷ slices) = sum_none len ws slices

-- the first helper counts where its bit is set
first_helper : (b : Bool) (x rest more added : List ℕ) → more ≡ sums rest added → cond b (sums x more) more ≡ sums (cond b (sums x rest) rest) added
first_helper true x rest more added e = ap (sums x) e ∙ sym (sums_assoc x rest added)
first_helper false x rest more added e = e

-- one helper more: its slice is added, times its weight
pub sum_more : (i len old new : ℕ) (ws : List ℕ) (slices : List (List ℕ)) → SetsBit old new i → i < length ws → i < length slices
    → sum_added len new ws slices ≡ sums (sum_added len old ws slices) (scaled (get_or ws i 0) (get_or slices i []))
sum_more i len old new [] slices h below within = absurd (omega arith)
sum_more i len old new (w ∷ ws) [] h below within = absurd (omega arith)
sum_more zero len old new (w ∷ ws) (slice ∷ slices) h below within =
    rw (lowest_is old new h, lowest_was old new h, same_rest old new h) (sums_comm (scaled w slice) (sum_added len (old / 2) ws slices))
sum_more (suc i) len old new (w ∷ ws) (slice ∷ slices) h below within =
    rw (same_lowest old new i h)
    (first_helper (old % 2 == 1) (scaled w slice) (sum_added len (old / 2) ws slices) (sum_added len (new / 2) ws slices) (scaled (get_or ws i 0) (get_or slices i []))
    (sum_more i len (old / 2) (new / 2) ws slices (in_halves old new i h) (omega arith) (omega arith)))

-- all helpers: the weighted sum of their slices
pub sum_all : (len added : ℕ) (ws : List ℕ) (slices : List (List ℕ)) → ((i : ℕ) → i < length ws → bit_at added i ≡ 1)
    → sum_added len added ws slices ≡ weighted_sum len ws slices
sum_all len added [] slices all = refl
sum_all len added (w ∷ ws) [] all = refl
sum_all len added (w ∷ ws) (slice ∷ slices) all =
    rw (sym (bit_at_lowest added) ∙ all 0 (omega arith))
    (ap (sums (scaled w slice)) (sum_all len (added / 2) ws slices (λ i low. sym (bit_at-suc added i) ∙ all (suc i) (omega arith))))
