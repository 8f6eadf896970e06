-- The nodes of a mask, counted.
use Rattle.std.proofs.Common.{◌≡◌, ℕ, zero, suc, ◌+◌, ◌^◌, ◌<◌, ◌/◌, ◌%◌, ◌==◌, Bool, cond, length, refl, sym, ◌∙◌, ap, subst, arith, add-zero, zero-add, List}
use Rattle.std.specs.Prelude.{count_by, count_ones, filter, slice_get, slice_index, Option, Some}
use Rattle.std.specs.Option.{IsSome}
use Rattle.std.specs.Int.{bit_at}
use Rattle.std.specs.List.{range_with_len}
use Rattle.std.proofs.Math.Nat.{div-eq_of_lt, div-one, mod-lt}
use Rattle.std.proofs.Math.Pow.{shr-shr}
use Rattle.std.proofs.lemmas.Option.{slice_get-get_or, same_Some}
use Rattle.std.proofs.lemmas.Bool.Decides.{nat_tests}
use Rattle.std.proofs.lemmas.List.Sums.{length-filter, sum_by-cons}
use lib.Count.{ones, ones_step}
use Rattle.ecp_shape.specs.declared.limits.TheConstants.{MAX_NODES}
use Rattle.ecp_history.specs.table.Placement.{nodes_in, place_among}

none_set : count_ones 0 ≡ 0
unfolding ones
none_set = refl

-- a bit counts for itself
bit_counts : (n : ℕ) → cond (n % 2 == 1) 1 0 ≡ n % 2
bit_counts n = grind (arith, nat_tests)

-- halves of what is left from bit i on begin at the next bit
next_half : (n i : ℕ) → n / 2 ^ i / 2 ≡ n / 2 ^ (i + 1)
next_half n i = shr-shr n i 1

-- the bits from i on that are set
counted_from : (n i d : ℕ) → n < 2 ^ (i + d) → count_by (λ m. bit_at n m == 1) (range_with_len i d) ≡ count_ones (n / 2 ^ i)
counted_from n i zero h =
    let small : n < 2 ^ i = subst (λ (m : ℕ). n < 2 ^ m) (add-zero i) h in
    sym (ap count_ones (div-eq_of_lt small) ∙ none_set)
counted_from n i (suc d) h =
    let wide : n < 2 ^ (i + 1 + d) = subst (λ (m : ℕ). n < 2 ^ m) (omega arith) h in
    sum_by-cons (λ m. cond (bit_at n m == 1) 1 0) i (range_with_len (i + 1) d)
    ∙ ap (λ (m : ℕ). m + count_by (λ m. bit_at n m == 1) (range_with_len (i + 1) d)) (bit_counts (n / 2 ^ i))
    ∙ ap (λ (m : ℕ). n / 2 ^ i % 2 + m) (counted_from n (i + 1) d wide ∙ ap count_ones (sym (next_half n i)))
    ∙ sym (ones_step (n / 2 ^ i))

counted_below : (mask n : ℕ) → mask < 2 ^ n → count_ones mask ≡ length (filter (λ m. bit_at mask m == 1) (range_with_len 0 n))
counted_below mask n h =
    let test : ℕ → Bool = λ m. bit_at mask m == 1 in
    ap count_ones (sym (div-one mask)) ∙ sym (counted_from mask 0 n (subst (λ (m : ℕ). mask < 2 ^ m) (sym (zero-add n)) h)) ∙ sym (length-filter test (range_with_len 0 n))

pub up_counted : (mask : ℕ) → mask < 2 ^ MAX_NODES → count_ones mask ≡ length (nodes_in mask)
up_counted mask h = counted_below mask MAX_NODES h

-- a row's number among some nodes is below how many they are
pub within : (nodes : List ℕ) (number row u : ℕ) → u ≡ length nodes → row < length nodes → number % u < length nodes
within nodes number row u e some = subst (λ (m : ℕ). number % m < length nodes) (sym e) (mod-lt number (omega arith))

-- where it is, there is a node
pub there : (nodes : List ℕ) (number : ℕ) (found : Option ℕ) → number < length nodes → found ≡ slice_get nodes number → IsSome found
there nodes number found l e = subst IsSome (sym (e ∙ slice_get-get_or nodes number 0 l)) refl

-- that node is the row's place
pub is_place : (nodes : List ℕ) (stripe row number u node : ℕ) (found : Option ℕ) → row < length nodes → u ≡ length nodes → number ≡ stripe + row → found ≡ slice_get nodes (number % u) → found ≡ Some node → node ≡ place_among nodes stripe row
is_place nodes stripe row number u node found some e sum seen is =
    let at : number % u < length nodes = within nodes number row u e some in
    same_Some _ _ (sym is ∙ seen ∙ slice_get-get_or nodes (number % u) 0 at) ∙ ap (λ (m : ℕ). slice_index nodes (m % u)) sum ∙ ap (λ (m : ℕ). slice_index nodes ((stripe + row) % m)) e
