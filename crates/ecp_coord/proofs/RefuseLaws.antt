-- A refusal leaves what holds of every coordinator.
use Rattle.std.proofs.Common.{◌≡◌, ℕ, ◌-◌, Bool, false, [], length, Some, refl, sym, subst}
use Rattle.std.specs.Prelude.{MatchOption}
use Rattle.ecp_shape.specs.declared.shape.Shape.{Shape}
use Rattle.ecp_entry.specs.declared.act.Act.{Act}
use Rattle.ecp_entry.specs.declared.act.Act.TheVariants as act
use Rattle.ecp_entry.specs.declared.deed.Deed.{Deed}
use Rattle.ecp_entry.specs.declared.part.Part.{Part}
use Rattle.ecp_history.specs.Calls.{OfBlock, kind_of, place_of}
use Rattle.ecp_catalog.specs.Outline.{changes}
use Rattle.ecp_plan.specs.declared.voids.Voids.{Voids}
use Rattle.ecp_sequencer.specs.Facts.{room_noted}
use Rattle.ecp_sequencer.specs.Passes.{PassState}
use Rattle.ecp_sequencer.specs.Sequencers.{SequencerState}
use Rattle.ecp_sequencer.specs.Steps.{Event}
use Rattle.ecp_coord.specs.declared.no_plan.NoPlan.{NoPlan}
use Rattle.ecp_coord.specs.declared.no_plan.NoPlan.TheVariants as no
use Rattle.ecp_coord.specs.declared.replanned.Replanned.{Replanned}
use Rattle.ecp_coord.specs.declared.replanned.Replanned.TheVariants as re
use Rattle.ecp_coord.specs.Calls.{EndsAny, IsOpen, closing}
use Rattle.ecp_coord.specs.Coords.{CoordParts, IsCoord}
use Rattle.ecp_coord.specs.Plans.{end_of, refusal_of}
use Rattle.ecp_coord.proofs.CallLaws.{answered_kept, waited_kept}
use Rattle.ecp_coord.specs.Numbers.{open_numbers}
use Rattle.ecp_coord.proofs.FollowLaws.{IsMet}
use Rattle.ecp_coord.proofs.CoverLaws.{covered_free}
use Rattle.ecp_coord.proofs.EndWithLaws.{one_asked}
use Rattle.ecp_coord.proofs.KeepLaws.{IsPlain}

module _ (shape : Shape) (told : Bool) (callers spares : ℕ) (s t : SequencerState) (v w : PassState) (p : CoordParts) (is : IsCoord shape told callers spares s p) (met : IsMet shape told callers spares s v)
    (free : open_numbers shape v.notes ≡ 0) where
  -- a part of a call that has blocks ends with an act that changes no table
  part_kept : (asked : Deed) (at : Part) (what : Act) → IsOpen v asked → OfBlock (kind_of (Some asked)) (place_of at) → changes what ≡ false → ((by : Deed) → IsPlain (closing v by at (length s.history) what []))
      → EndsAny shape told s v at what t w → IsCoord shape told callers spares t p
  part_kept asked at what open_call of same plain ends =
      answered_kept shape told callers spares s t v w p is met ends.asked (place_of at) (closing v ends.asked at (length s.history) what []) (room_noted v.notes - 1) ends.is_open
      (subst (λ (d : Deed). OfBlock (kind_of (Some d)) (place_of at)) (one_asked v asked ends.asked open_call ends.is_open) of) same (plain ends.asked)
      (covered_free shape s v (closing v ends.asked at (length s.history) what []) free) ends.event

  pub refused_kept : (asked : Deed) (at : Part) → IsOpen v asked → OfBlock (kind_of (Some asked)) (place_of at) → (why : NoPlan)
      → MatchOption (refusal_of why) (Event shape told s v [] [] t w) (λ what. EndsAny shape told s v at what t w) → IsCoord shape told callers spares t p
  refused_kept asked at open_call of no.NoSuchFile ends = part_kept asked at act.NoSuchFile open_call of refl (λ d. record { stores = refl; drops = refl; spends = λ m. refl }) ends
  refused_kept asked at open_call of (no.NoSuchBlock count) ends = part_kept asked at (act.NoSuchBlock count) open_call of refl (λ d. record { stores = refl; drops = refl; spends = λ m. refl }) ends
  refused_kept asked at open_call of (no.Unrecoverable live) ends = part_kept asked at (act.Unrecoverable live) open_call of refl (λ d. record { stores = refl; drops = refl; spends = λ m. refl }) ends
  refused_kept asked at open_call of no.AlreadyLive event = waited_kept shape told callers spares s t v w p is met event
  refused_kept asked at open_call of (no.Clash row) event = waited_kept shape told callers spares s t v w p is met event
  refused_kept asked at open_call of (no.TargetDown node) event = waited_kept shape told callers spares s t v w p is met event
  refused_kept asked at open_call of no.NoMemory event = waited_kept shape told callers spares s t v w p is met event

  pub given_up_kept : (asked : Deed) (at : Part) → IsOpen v asked → OfBlock (kind_of (Some asked)) (place_of at) → (vs : Voids) (found : Replanned) (what : Act) → end_of vs found ≡ Some what
      → EndsAny shape told s v at what t w → IsCoord shape told callers spares t p
  given_up_kept asked at open_call of vs re.Planned what says by = absurd (cc)
  given_up_kept asked at open_call of vs re.StillGood what says by = absurd (cc)
  given_up_kept asked at open_call of vs (re.Unrecoverable live) what says by =
      let same : act.Unrecoverable live ≡ what = cc in
      part_kept asked at (act.Unrecoverable live) open_call of refl (λ d. record { stores = refl; drops = refl; spends = λ m. refl })
      (subst (λ (a : Act). EndsAny shape told s v at a t w) (sym same) by)
  given_up_kept asked at open_call of vs (re.TargetDown node) what says by = absurd (cc)
  given_up_kept asked at open_call of vs re.Unsteady what says by =
      let same : act.Unsteady vs.at ≡ what = cc in
      part_kept asked at (act.Unsteady vs.at) open_call of refl (λ d. record { stores = refl; drops = refl; spends = λ m. refl })
      (subst (λ (a : Act). EndsAny shape told s v at a t w) (sym same) by)
