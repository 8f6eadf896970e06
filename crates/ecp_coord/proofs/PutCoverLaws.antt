-- The stripe numbers of a put are covered by its end, once for its first attempt and once more for each loss that it met.
use Rattle.std.proofs.Common.{◌≡◌, ℕ, ◌+◌, ◌-◌, ◌*◌, ◌≤◌, Bool, List, length, drop, Option, Some, sym, ◌∙◌, ap, arith}
use Rattle.std.specs.Prelude.{option_and_then}
use Rattle.std.specs.Option.{option_map_or}
use mathlib.Core.List.{IsPrefix}
use Rattle.std.proofs.lemmas.List.{length-drop, length-replicate}
use Rattle.ecp_shape.specs.declared.limits.TheConstants.{MAX_ATTEMPTS}
use Rattle.ecp_shape.specs.declared.shape.Shape.{Shape}
use Rattle.ecp_entry.specs.declared.entry.Entry.{Entry}
use Rattle.ecp_entry.specs.declared.part.Part.TheVariants as part
use Rattle.ecp_sequencer.specs.Facts.{facts_of}
use Rattle.ecp_sequencer.specs.Notes.{Call, call_of}
use Rattle.ecp_sequencer.specs.Passes.{PassState}
use Rattle.ecp_sequencer.specs.Sequencers.{SequencerState}
use Rattle.ecp_coord.specs.declared.reservation.Reservation.{Reservation}
use Rattle.ecp_coord.specs.Bookings.{booked_attempt, booking, bookings_noted, last_of}
use Rattle.ecp_coord.specs.Coords.{AreIdle}
use Rattle.ecp_coord.specs.Numbers.{IsCovered, attempt_noted, open_numbers, stripes_asked}
use Rattle.ecp_coord.specs.Puts.{IsReserved, booking_says}
use Rattle.ecp_coord.proofs.BookLaws.{last_push}
use Rattle.ecp_coord.proofs.CoverLaws.{covered_ended, voids_lost}
use Rattle.ecp_coord.proofs.FollowLaws.{IsMet}

-- the reservation of a pass is the one that its hand has open
pub open_booking : (shape : Shape) (told : Bool) {N : Type 0} (p : PassState) (res : Reservation N) → IsReserved shape told p res → booking p.notes ≡ Some (booking_says res)
open_booking shape told p res is =
    ap (λ (o : Option Call). option_and_then (λ (c : Call). last_of (bookings_noted p.notes)) o) is.is_open.call
    ∙ ap (λ (bs : List (List ℕ)). last_of bs) is.last.1 ∙ last_push is.last.0 (booking_says res)

-- it took its stripes once for each attempt
module _ (shape : Shape) (told : Bool) {N : Type 0} (v : PassState) (res : Reservation N) (is : IsReserved shape told v res) where
  attempts : attempt_noted v.notes ≡ res.voids.len + 1
  attempts = ap (λ (o : Option (List ℕ)). option_map_or booked_attempt o 0) (open_booking shape told v res is)

  pub reserved_numbers : open_numbers shape v.notes ≡ (res.voids.len + 1) * res.stripes
  reserved_numbers =
      ap (λ (n : ℕ). n * option_map_or (λ (c : Call). stripes_asked shape c.deed) (facts_of v.notes).call 0) attempts
      ∙ ap (λ (o : Option Call). (res.voids.len + 1) * option_map_or (λ (c : Call). stripes_asked shape c.deed) o 0) is.is_open.call
      ∙ ap (λ (n : ℕ). (res.voids.len + 1) * n) (sym is.counted)

  -- its end covers them
  pub put_covered : (callers spares : ℕ) (s : SequencerState) → IsMet shape told callers spares s v → AreIdle spares s.notes → IsPrefix res.front.items s.history
      → (e : Entry) → e.line.caller ≡ v.caller → e.line.part ≡ part.End → (facts_of v.notes).call ≡ Some (call_of e) → IsCovered shape s v e
  put_covered callers spares s met idle begins e by ends open_call =
      let long : length (drop res.voids.len res.voids.at) ≡ MAX_ATTEMPTS - res.voids.len = ap (λ (xs : List ℕ). length xs) is.voids.rest ∙ length-replicate (MAX_ATTEMPTS - res.voids.len) 0 in
      let few : res.voids.len ≤ length res.voids.at = let some = is.few in omega (arith, long, length-drop res.voids.len res.voids.at, some) in
      let lost = voids_lost shape told callers spares s v met idle res.front.items begins (is.own ∙ sym met.agree.entered) res.voids is.voids few e by in
      covered_ended shape told callers spares s v met idle e by ends open_call (omega (arith, attempts, lost))
