-- An assembly once it has one more slice.
use Rattle.std.proofs.Common.{◌≡◌, ℕ, ◌+◌, ◌<◌, ◌≤◌, ◌⊎◌, inl, inr, Bool, true, false, List, ◌++◌, length, refl, sym, ◌∙◌, ap, subst, arith}
use mathlib.Core.List.{IsPrefix}
use Rattle.std.specs.Prelude.{IsTrue}
use Rattle.std.proofs.lemmas.Bool.{cases_eq, cases_lt, false≢true}
use Rattle.std.proofs.lemmas.List.{length-set, get_or-set_other, get_or_past}
use Rattle.ecp_shape.specs.declared.shape.Shape.{Shape}
use Rattle.ecp_store.specs.Stores.{part}
use Rattle.ecp_history.specs.Fronts.{told_table, IsBlockIn}
use Rattle.ecp_history.specs.Legal.{TellsLegal}
use Rattle.ecp_history.specs.table.Tables.{HasStripe, block}
use Rattle.ecp_history.proofs.PlanLaws.{block_stays}
use Rattle.ecp_plan.specs.Order.{slice_count, slice_start}
use Rattle.ecp_plan.proofs.OrderLaws.{begins_within}
use Rattle.ecp_slice.specs.Messages.{Message, IsFull, slice_len}
use Rattle.ecp_slice.specs.Sound.{IsSound}
use Rattle.ecp_slice.proofs.FullMessages.{full_payload}
use Rattle.ecp_requestor.specs.Accepting.{with_slice}
use Rattle.ecp_requestor.specs.Assemblies.{AssemblyState, is_there, slice_of, CameWhole, IsAssembly}
use Rattle.ecp_requestor.proofs.Answered.{Belongs, AreOne, are_one}
use Rattle.ecp_requestor.proofs.Slices.{apart}
use Rattle.ecp_requestor.proofs.Writing.{length-written, read_back, part_before, part_behind}

-- a block is the same in the tables of two fronts of which the one begins the other
later_block : (shape : Shape) (xs ys : List (List ℕ)) (s r : ℕ) → TellsLegal shape true ys → HasStripe (told_table shape xs) s → IsPrefix xs ys
    → block (told_table shape xs) s r ≡ block (told_table shape ys) s r
later_block shape xs ys s r legal there begins =
    let whole : TellsLegal shape true (xs ++ begins.0) = subst (TellsLegal shape true) (sym begins.1) legal in
    let stays : IsBlockIn shape true (xs ++ begins.0) s r (block (told_table shape xs) s r) =
    block_stays shape true xs begins.0 s r (block (told_table shape xs) s r) (record { there = there; named = refl }) whole in
    stays.named ∙ ap (λ (zs : List (List ℕ)). block (told_table shape zs) s r) begins.1

met_block : (shape : Shape) (xs ys : List (List ℕ)) (s r : ℕ) → TellsLegal shape true xs → TellsLegal shape true ys → HasStripe (told_table shape xs) s → HasStripe (told_table shape ys) s
    → IsPrefix xs ys ⊎ IsPrefix ys xs → block (told_table shape xs) s r ≡ block (told_table shape ys) s r
met_block shape xs ys s r lx ly hx hy met = elim met [
  | inl begins ↦ later_block shape xs ys s r ly hx begins
  | inr begins ↦ sym (later_block shape ys xs s r lx hy begins)
]

-- what the message of a slice says of it, in the assembly's words
pub record Fits (a : AssemblyState) (m : Message) : Type 0 where
  pub low : m.slice < slice_count a.block a.size
  pub starts : m.off ≡ slice_start a.size m.slice
  pub size : length m.payload ≡ slice_len a.block a.size m.slice
  pub begins : slice_start a.size m.slice < a.block
  pub ends : m.off + length m.payload ≤ length a.bytes

pub fits : (shape : Shape) (told : Bool) (a : AssemblyState) (m : Message) → IsAssembly shape told a → IsSound shape told m → AreOne a m → Fits a m
fits shape told a m is sound one =
    let low : m.slice < slice_count a.block a.size =
    subst (λ (n : ℕ). m.slice < slice_count a.block n) one.size (subst (λ (n : ℕ). m.slice < slice_count n m.size) one.block sound.placed.of_block) in
    let some : 1 ≤ a.block = omega (arith, is.some, is.within) in
    let begins : slice_start a.size m.slice < a.block = begins_within a.block a.size m.slice some is.some low in
    let starts : m.off ≡ slice_start a.size m.slice = sound.placed.begins ∙ ap (λ (n : ℕ). slice_start n m.slice) one.size in
    let len : m.len ≡ slice_len m.block m.size m.slice = omega (arith, sound.placed.begins, sound.placed.ends) in
    let size : length m.payload ≡ slice_len a.block a.size m.slice =
    sound.summed_up.whole ∙ len ∙ ap (λ (n : ℕ). slice_len n m.size m.slice) one.block ∙ ap (λ (n : ℕ). slice_len a.block n m.slice) one.size in
    record { low = low; starts = starts; size = size; begins = begins; ends = omega (arith, starts, size, begins, is.roomy) }

module _ (shape : Shape) (told : Bool) (a : AssemblyState) (m : Message) (is : IsAssembly shape told a) (fit : Fits a m) where
  -- its place has the payload
  here : (j : ℕ) → j ≡ m.slice → slice_of a j (with_slice a m).bytes ≡ m.payload
  here j e =
      ap (λ (i : ℕ). slice_of a i (with_slice a m).bytes) e
      ∙ ap (λ (n : ℕ). part (with_slice a m).bytes n (slice_len a.block a.size m.slice)) (sym fit.starts)
      ∙ ap (λ (n : ℕ). part (with_slice a m).bytes m.off n) (sym fit.size)
      ∙ read_back a.bytes m.payload m.off fit.ends

  -- every other slice that is there stays
  there_is : (j : ℕ) → (j ≡ m.slice → ⊥) → IsTrue (is_there (with_slice a m) j) → IsTrue (is_there a j)
  there_is j other there = sym (get_or-set_other a.there m.slice j true false other) ∙ there

  low_there : (j : ℕ) → IsTrue (is_there a j) → slice_start a.size j < a.block
  low_there j there = elim (cases_lt j (length a.there)) [
    | inl low ↦ begins_within a.block a.size j (omega (arith, is.some, is.within)) is.some (omega (arith, low, is.places))
    | inr past ↦ absurd (false≢true (sym (get_or_past a.there j false past) ∙ there))
  ]

  stays : (j : ℕ) → (j ≡ m.slice → ⊥) → IsTrue (is_there a j) → slice_of a j (with_slice a m).bytes ≡ slice_of a j a.bytes
  stays j other there = elim (apart a.block a.size j m.slice other fit.begins (low_there j there)) [
    | inl before ↦ part_before a.bytes m.payload m.off (slice_start a.size j) (slice_len a.block a.size j) fit.ends (omega (arith, before, fit.starts))
    | inr behind ↦ part_behind a.bytes m.payload m.off (slice_start a.size j) (slice_len a.block a.size j) fit.ends (omega (arith, behind, fit.starts, fit.size))
  ]

-- where payloads are told, the payload of a full message is the assembly's slice of the block
right_payload : (shape : Shape) (told : Bool) (a : AssemblyState) (m : Message) → IsAssembly shape told a → IsSound shape told m → IsFull m → AreOne a m → Fits a m
    → IsPrefix a.front m.front ⊎ IsPrefix m.front a.front → IsTrue told → m.payload ≡ slice_of a m.slice (block (told_table shape a.front) a.stripe a.row)
right_payload shape false a m is sound full one fit met telling = absurd (false≢true telling)
right_payload shape true a m is sound full one fit met telling =
    let there : HasStripe (told_table shape m.front) a.stripe = subst (HasStripe (told_table shape m.front)) one.stripe sound.planned.helpers.known.there in
    full_payload shape m sound full
    ∙ ap (λ (n : ℕ). part (block (told_table shape m.front) m.stripe m.row) n m.len) fit.starts
    ∙ ap (λ (n : ℕ). part (block (told_table shape m.front) m.stripe m.row) (slice_start a.size m.slice) n) (sym sound.summed_up.whole ∙ fit.size)
    ∙ ap (λ (s : ℕ). slice_of a m.slice (block (told_table shape m.front) s m.row)) one.stripe
    ∙ ap (λ (r : ℕ). slice_of a m.slice (block (told_table shape m.front) a.stripe r)) one.row
    ∙ ap (slice_of a m.slice) (sym (met_block shape a.front m.front a.stripe a.row is.legal sound.planned.helpers.legal is.of_stripe there met))

-- an assembly of which the fields are so is the one with the slice
pub seen_with : (a : AssemblyState) (m : Message) (front : List (List ℕ)) (there : List Bool) (bytes : List ℕ) → front ≡ a.front → there ≡ (with_slice a m).there → bytes ≡ (with_slice a m).bytes
    → record a { front = front; there = there; bytes = bytes } ≡ with_slice a m
seen_with a m front there bytes f t b =
    ap (λ (xs : List (List ℕ)). record a { front = xs; there = there; bytes = bytes }) f
    ∙ ap (λ (xs : List Bool). record a { front = a.front; there = xs; bytes = bytes }) t
    ∙ ap (λ (xs : List ℕ). record a { front = a.front; there = (with_slice a m).there; bytes = xs }) b

pub sound_more : (shape : Shape) (told : Bool) (a : AssemblyState) (m : Message) → IsAssembly shape told a → IsSound shape told m → IsFull m → Belongs a m
    → IsPrefix a.front m.front ⊎ IsPrefix m.front a.front → IsAssembly shape told (with_slice a m)
sound_more shape told a m is sound full belongs met =
    let one : AreOne a m = are_one a m belongs.of_repair in
    let fit : Fits a m = fits shape told a m is sound one in
    record {
      in_range = is.in_range;
      of_row = is.of_row;
      legal = is.legal;
      of_stripe = is.of_stripe;
      len_is = is.len_is;
      some = is.some;
      within = is.within;
      places = length-set a.there m.slice true ∙ is.places;
      roomy = length-written a.bytes m.payload m.off fit.ends ∙ is.roomy;
      whole = λ j there. elim (cases_eq j m.slice) [
        | inl same ↦ record { by = m; sound = sound; full = full; of_repair = belongs.of_repair; of_slice = sym same; bytes = here shape told a m is fit j same }
        | inr other ↦
            let old : IsTrue (is_there a j) = there_is shape told a m is fit j other there in
            let came : CameWhole shape told a j = is.whole j old in
            record { by = came.by; sound = came.sound; full = came.full; of_repair = came.of_repair; of_slice = came.of_slice; bytes = stays shape told a m is fit j other old ∙ came.bytes }
      ];
      right = λ j there telling. elim (cases_eq j m.slice) [
        | inl same ↦
            here shape told a m is fit j same ∙ right_payload shape told a m is sound full one fit met telling
            ∙ ap (λ (i : ℕ). slice_of a i (block (told_table shape a.front) a.stripe a.row)) (sym same)
        | inr other ↦ let old : IsTrue (is_there a j) = there_is shape told a m is fit j other there in stays shape told a m is fit j other old ∙ is.right j old telling
      ];
    }
