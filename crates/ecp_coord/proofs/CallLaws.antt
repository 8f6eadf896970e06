-- What holds of every coordinator, as a hand notes a plan, nothing, or the end of a call.
use Rattle.std.proofs.Common.{◌≡◌, ℕ, ◌-◌, ◌<◌, Bool, true, false, cond, [], ◌∷◌, length, set, Some, None, refl, sym, ◌∙◌, ap, subst, arith, inl, inr, append-nil}
use Rattle.std.proofs.lemmas.List.{set-get_or}
use Rattle.ecp_shape.specs.declared.shape.Shape.{Shape}
use Rattle.ecp_book.specs.Logs.{Log}
use Rattle.ecp_entry.specs.declared.deed.Deed.{Deed}
use Rattle.ecp_entry.specs.declared.deed.Deed.TheVariants as deed
use Rattle.ecp_entry.specs.declared.entry.Entry.{Entry}
use Rattle.ecp_entry.specs.declared.part.Part.TheVariants as part
use Rattle.ecp_entry.specs.Told.{history_of}
use Rattle.ecp_history.specs.Calls.{OfBlock, Place, ToCat, ToRead, kind_of, place_of}
use Rattle.ecp_catalog.specs.Outline.{changes}
use Rattle.ecp_catalog.proofs.OutlineLaws.{unchanged}
use Rattle.ecp_plan.specs.declared.plan.Plan.{Plan}
use Rattle.ecp_sequencer.specs.Facts.{HandFacts, facts_of, is_end}
use Rattle.ecp_sequencer.specs.Notes.{note, entering_of}
use Rattle.ecp_sequencer.specs.Passes.{PassState}
use Rattle.ecp_sequencer.specs.Sequencers.{SequencerState}
use Rattle.ecp_sequencer.specs.Steps.{Event, call_with}
use Rattle.ecp_sequencer.proofs.NoteLaws.{facts-entered, facts-other}
use Rattle.ecp_coord.specs.Calls.{IsOpen}
use Rattle.ecp_coord.specs.Coords.{CoordParts, HasRoom, IsCoord, asks_loss}
use Rattle.ecp_coord.specs.Plans.{IsPlanned, planning_of}
use Rattle.ecp_coord.proofs.BookLaws.{LeavesBooking, none_leaves, other_leaves, serves_same}
use Rattle.ecp_coord.proofs.FollowLaws.{IsMet}
use Rattle.ecp_coord.proofs.KeepLaws.{IsPlain, entered_kept, noted_kept}
use Rattle.ecp_coord.specs.Numbers.{IsCovered, open_numbers, stripes_asked}
use Rattle.ecp_coord.proofs.CoverLaws.{open_unasked, other_owes, same_owes}
use Rattle.ecp_coord.proofs.RoomLaws.{asks_open, room_kept}

-- a call that has blocks loses no node
pub block_loses : (asked : Deed) (at : Place) (m : ℕ) → OfBlock (kind_of (Some asked)) at → asks_loss m (Some asked) ≡ false
block_loses (deed.Put name len) at m of = refl
block_loses (deed.Read name index) at m of = refl
block_loses (deed.Sum name index) at m of = refl
block_loses (deed.Cat name) at m of = refl
block_loses (deed.Lose node) at m (inl of) = absurd (let is : kind_of (Some (deed.Lose node)) ≡ ToRead = of.0 in cc)
block_loses (deed.Lose node) at m (inr of) = absurd (let is : kind_of (Some (deed.Lose node)) ≡ ToCat = of.0 in cc)
block_loses (deed.Join node) at m of = refl
block_loses (deed.Rebuild from to) at m of = refl
block_loses (deed.Stat name) at m of = refl

-- nor does it store
pub block_stores : (shape : Shape) (asked : Deed) (at : Place) → OfBlock (kind_of (Some asked)) at → stripes_asked shape (Some asked) ≡ 0
block_stores shape (deed.Put name len) at (inl of) = absurd (let is : kind_of (Some (deed.Put name len)) ≡ ToRead = of.0 in cc)
block_stores shape (deed.Put name len) at (inr of) = absurd (let is : kind_of (Some (deed.Put name len)) ≡ ToCat = of.0 in cc)
block_stores shape (deed.Read name index) at of = refl
block_stores shape (deed.Sum name index) at of = refl
block_stores shape (deed.Cat name) at of = refl
block_stores shape (deed.Lose node) at of = refl
block_stores shape (deed.Join node) at of = refl
block_stores shape (deed.Rebuild from to) at of = refl
block_stores shape (deed.Stat name) at of = refl

-- so it took no stripe number
pub block_free : (shape : Shape) (v : PassState) (asked : Deed) (at : Place) → IsOpen v asked → OfBlock (kind_of (Some asked)) at → open_numbers shape v.notes ≡ 0
block_free shape v asked at open_call of = open_unasked shape v.notes (call_with (v.calls - 1) asked) open_call.call (block_stores shape asked at of)

pub planned_free : (shape : Shape) (told : Bool) {N : Type 0} (v : PassState) (plan : Plan N) → IsPlanned shape told v plan → open_numbers shape v.notes ≡ 0
planned_free shape told v plan is = block_free shape v is.asked (place_of plan.part) is.is_open is.of_block

module _ (shape : Shape) (told : Bool) (callers spares : ℕ) (s t : SequencerState) (v w : PassState) (p : CoordParts) (is : IsCoord shape told callers spares s p) (met : IsMet shape told callers spares s v) where
  hand_there : v.hand < length s.notes
  hand_there = omega (arith, met.in_range, met.kept.hands)

  -- nothing was noted
  pub waited_kept : Event shape told s v [] [] t w → IsCoord shape told callers spares t p
  waited_kept event =
      let noted : w.notes ≡ v.notes = event.steps.noted ∙ append-nil v.notes in
      let same : t.notes ≡ s.notes = event.notes ∙ ap (set s.notes v.hand) (noted ∙ sym met.agree.notes) ∙ set-get_or s.notes v.hand [] in
      noted_kept shape told callers spares s t v w p p.catalog [] is met event (none_leaves v.notes w.notes noted) (same_owes shape v.notes w.notes noted) is.outline (serves_same p.catalog)
      (subst (HasRoom shape.nodes p.catalog) (sym same) is.room)

  -- a plan was noted
  pub planned_kept : {N : Type 0} (asked : Deed) (at : Place) (room : ℕ) (plan : Plan N) → IsOpen v asked → OfBlock (kind_of (Some asked)) at
      → Event shape told s v [] (note (length s.history) room (planning_of plan) ∷ []) t w → IsCoord shape told callers spares t p
  planned_kept asked at room plan open_call of event =
      let facts = ap (λ (ns : Log). facts_of ns) event.steps.noted ∙ facts-other v.notes (length s.history) room (planning_of plan) (omega arith) in
      let call : (facts_of w.notes).call ≡ Some (call_with (v.calls - 1) asked) = ap (λ (f : HandFacts). f.call) facts ∙ open_call.call in
      noted_kept shape told callers spares s t v w p p.catalog (note (length s.history) room (planning_of plan) ∷ []) is met event
      (subst (LeavesBooking v.notes) (sym event.steps.noted) (other_leaves v.notes (length s.history) room (planning_of plan) (omega arith) refl))
      (other_owes shape v.notes w.notes (length s.history) room (planning_of plan) event.steps.noted (omega arith) refl) is.outline (serves_same p.catalog)
      (subst (HasRoom shape.nodes p.catalog) (sym event.notes)
      (room_kept shape.nodes p.catalog s.notes v.hand w.notes is.room hand_there (λ m. ap (asks_open m) call ∙ block_loses asked at m of)))

  -- the call was ended
  pub ended_kept : (e : Entry) (room : ℕ) → e.line.part ≡ part.End → changes e.line.act ≡ false → IsPlain e → IsCovered shape s v e
      → Event shape told s v (e ∷ []) (note (length s.history) room (entering_of v.hand e) ∷ []) t w → IsCoord shape told callers spares t p
  ended_kept e room ends same plain owes event =
      let facts = ap (λ (ns : Log). facts_of ns) event.steps.noted ∙ facts-entered v.notes (length s.history) room v.hand e in
      let call : (facts_of w.notes).call ≡ None =
      ap (λ (f : HandFacts). f.call) facts ∙ ap (λ (b : Bool). cond b None (facts_of v.notes).call) (ap is_end ends) in
      entered_kept shape told callers spares s t v w p p.catalog e room is met event plain owes (unchanged shape told p.catalog (history_of s.history) e is.outline same) (serves_same p.catalog)
      (subst (HasRoom shape.nodes p.catalog) (sym event.notes)
      (room_kept shape.nodes p.catalog s.notes v.hand w.notes is.room hand_there (λ m. ap (asks_open m) call)))

  -- a part of a call that has blocks was answered: its end, or one after which it is open still
  pub answered_kept : (asked : Deed) (at : Place) (e : Entry) (room : ℕ) → IsOpen v asked → OfBlock (kind_of (Some asked)) at → changes e.line.act ≡ false → IsPlain e → IsCovered shape s v e
      → Event shape told s v (e ∷ []) (note (length s.history) room (entering_of v.hand e) ∷ []) t w → IsCoord shape told callers spares t p
  answered_kept asked at e room open_call of same plain owes event =
      let facts = ap (λ (ns : Log). facts_of ns) event.steps.noted ∙ facts-entered v.notes (length s.history) room v.hand e in
      let call : (facts_of w.notes).call ≡ cond (is_end e.line.part) None (Some (call_with (v.calls - 1) asked)) =
      ap (λ (f : HandFacts). f.call) facts ∙ ap (cond (is_end e.line.part) None) open_call.call in
      entered_kept shape told callers spares s t v w p p.catalog e room is met event plain owes (unchanged shape told p.catalog (history_of s.history) e is.outline same) (serves_same p.catalog)
      (subst (HasRoom shape.nodes p.catalog) (sym event.notes)
      (room_kept shape.nodes p.catalog s.notes v.hand w.notes is.room hand_there (λ m. ap (asks_open m) call ∙ either (is_end e.line.part) m)))
    where
      either : (b : Bool) (m : ℕ) → asks_open m (cond b None (Some (call_with (v.calls - 1) asked))) ≡ false
      either true m = refl
      either false m = block_loses asked at m of
