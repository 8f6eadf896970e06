-- A full message has its slice of the block.
use Rattle.std.proofs.Common.{◌≡◌, ℕ, ◌+◌, ◌^◌, ◌<◌, ◌≤◌, inl, inr, true, List, [], ◌∷◌, length, map, refl, sym, ◌∙◌, ap, subst, arith}
use Rattle.std.specs.Prelude.{All}
use Rattle.std.proofs.lemmas.Bool.{cases_lt}
use Rattle.std.proofs.lemmas.List.{get_or_past}
use Rattle.std.proofs.lemmas.List.Elements.{All-get_or, All-head}
use mathlib.Core.List.{map-map}
use Rattle.ecp_field.specs.Lists.{scaled, AreBytes}
use Rattle.ecp_field.proofs.ListLaws.{scaled-one, sums-zeros, length-scaled}
use Rattle.ecp_store.specs.Stores.{part}
use Rattle.ecp_code.specs.Rows.{row, weighted_sum, block_len, IsData}
use Rattle.ecp_code.specs.Weights.{weights}
use Rattle.ecp_code.proofs.BlockLaws.{IsData-blocks, length-blocks, block_len-blocks}
use Rattle.ecp_code.proofs.DecodeLaws.{row-decoded}
use Rattle.ecp_code.proofs.HelperLaws.{rows_even}
use Rattle.ecp_shape.specs.Range.{IsInRange}
use Rattle.ecp_shape.specs.declared.shape.Shape.{Shape}
use Rattle.ecp_entry.specs.Told.{history_of}
use Rattle.ecp_history.specs.Files.{StoresBytes}
use Rattle.ecp_history.specs.Fronts.{told_table}
use Rattle.ecp_history.specs.table.Tables.{HasStripe, block, data_of}
use Rattle.ecp_history.specs.Plans.{IsSum, IsDirect}
use Rattle.ecp_history.proofs.tables.BytesLaws.{IsFilled, blocks_of_bytes}
use Rattle.ecp_node.specs.Receipts.{ReceiptState}
use Rattle.ecp_slice.specs.Messages.{Message, IsFull, slice_of}
use Rattle.ecp_slice.specs.Sound.{IsSound}
use Rattle.ecp_slice.proofs.PartialSums.{sum_all}
use Rattle.ecp_slice.proofs.Receipts.{weight_count, slice_within}
use Rattle.ecp_slice.proofs.SliceParts.{part-weighted_sum}
use Rattle.ecp_slice.proofs.StripeData.{length_block, filled_data}
use Rattle.ecp_slice.proofs.Visits.{all_set}

-- numbers below the number of rows are bytes
low_bytes : (n : ℕ) (rows : List ℕ) → n ≤ 256 → All (λ r. r < n) rows → AreBytes rows
low_bytes n rows few low k = elim (cases_lt k (length rows)) [
  | inl within ↦ omega (arith, All-get_or (λ (r : ℕ). r < n) rows k 0 within low)
  | inr past ↦ omega (arith, get_or_past rows k 0 past)
]

-- k rows of data that bytes fill give the target
of_sum : (shape : Shape) (d : List (List ℕ)) (target : ℕ) (rows ws : List ℕ) → IsInRange shape → IsFilled shape.k shape.block d → target < 2 ^ 8
    → All (λ r. r < shape.n) rows → IsSum shape target rows ws → weighted_sum shape.block ws (map (row d) rows) ≡ row d target
of_sum shape d target rows ws in_range filled byte low sum =
    let bytes : List ℕ = filled.0 in
    let few : shape.k ≤ 256 = omega (arith, in_range.parity_rows, in_range.at_most) in
    let few_rows : shape.n ≤ 256 = omega (arith, in_range.at_most) in
    let data_is : IsData d = subst IsData (sym filled.2) (IsData-blocks shape.k shape.block bytes few filled.1) in
    let count : length d ≡ shape.k = ap length filled.2 ∙ length-blocks shape.k shape.block bytes in
    let size : block_len d ≡ shape.block = ap block_len filled.2 ∙ block_len-blocks shape.k shape.block bytes in_range.data_rows in
    ap (λ (us : List ℕ). weighted_sum shape.block us (map (row d) rows)) sum.weighted
    ∙ ap (λ (n : ℕ). weighted_sum n (weights rows target) (map (row d) rows)) (sym size)
    ∙ sym (row-decoded d rows target data_is (sum.count ∙ sym count) sum.distinct (low_bytes shape.n rows few_rows low) byte)

-- the target itself, once
of_itself : (n target : ℕ) (f : ℕ → List ℕ) (rows ws : List ℕ) → length (f target) ≡ n → AreBytes (f target) → IsDirect target rows ws → weighted_sum n ws (map f rows) ≡ f target
of_itself n target f rows ws size bytes direct =
    ap (λ (us : List ℕ). weighted_sum n us (map f rows)) direct.weighted
    ∙ ap (λ (rs : List ℕ). weighted_sum n (1 ∷ []) (map f rs)) direct.itself
    ∙ sums-zeros (scaled 1 (f target)) n (length-scaled 1 (f target) ∙ size)
    ∙ scaled-one (f target) bytes

pub full_payload : (shape : Shape) (m : Message) → IsSound shape true m → IsFull m → m.payload ≡ slice_of m (block (told_table shape m.front) m.stripe m.row)
full_payload shape m sound full =
    let in_range : IsInRange shape = sound.planned.in_range in
    let files : StoresBytes (history_of m.front) = sound.planned.helpers.legal.bytes in
    let byte : m.row < 2 ^ 8 = omega (arith, sound.planned.of_row, in_range.at_most) in
    let known = sound.planned.helpers.known in
    let d : List (List ℕ) = data_of (told_table shape m.front) m.stripe in
    let there : HasStripe (told_table shape m.front) m.stripe = known.there in
    let slices : List (List ℕ) = map (λ r. slice_of m r.bytes) m.route in
    let size : (r : ℕ) → length (row d r) ≡ shape.block = λ r. length_block shape (history_of m.front) m.stripe r there in
    let whole : weighted_sum shape.block m.weights (map (row d) m.rows) ≡ row d m.row = elim sound.planned.makes [
      | inl sum ↦ of_sum shape d m.row m.rows m.weights in_range (filled_data shape (history_of m.front) m.stripe files there) byte known.in_stripe sum
      | inr direct ↦
          let low : m.row < shape.n = All-head (λ (r : ℕ). r < shape.n) m.row [] (subst (All (λ (r : ℕ). r < shape.n)) direct.itself known.in_stripe) in
          of_itself shape.block m.row (row d) m.rows m.weights (size m.row) (blocks_of_bytes shape (history_of m.front) m.stripe m.row in_range files there low).bytes_are direct
    ] in
    let within : m.off + m.len ≤ shape.block = omega (arith, slice_within shape true m sound, sound.planned.len_is) in
    sound.summed_up.exact refl
    ∙ sum_all m.len m.summed m.weights slices (λ i low. all_set m sound.planned.lanes_are full sound.added i (omega (arith, weight_count shape true m sound)))
    ∙ ap (weighted_sum m.len m.weights)
    (sym (map-map (λ (b : List ℕ). part b m.off m.len) (λ (r : ReceiptState). r.bytes) m.route) ∙ ap (map (λ (b : List ℕ). part b m.off m.len)) known.named)
    ∙ sym (part-weighted_sum m.off m.len shape.block m.weights (map (row d) m.rows) within (rows_even shape.block (row d) m.rows size))
    ∙ ap (λ (b : List ℕ). part b m.off m.len) whole
