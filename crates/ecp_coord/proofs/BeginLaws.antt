-- A call begins, or is refused.
use Rattle.std.proofs.Common.{◌≡◌, ℕ, ◌+◌, ◌-◌, Bool, List, [], ◌∷◌, length, set, Some, Result, Ok, Err, OnOk, OnErr, sym, ◌∙◌, ap, subst, arith, append-nil}
use Rattle.std.proofs.lemmas.List.{set-get_or}
use Rattle.ecp_shape.specs.declared.shape.Shape.{Shape}
use Rattle.ecp_book.specs.Logs.{Log}
use Rattle.ecp_entry.specs.declared.deed.Deed.{Deed}
use Rattle.ecp_entry.specs.declared.deed.Deed.TheVariants as deed
use Rattle.ecp_entry.specs.declared.entry.Entry.{Entry}
use Rattle.ecp_entry.specs.Told.{history_of}
use Rattle.ecp_catalog.specs.Catalogs.{CatalogState, with_spare}
use Rattle.ecp_catalog.specs.Outline.{IsOutline}
use Rattle.ecp_catalog.proofs.NodeLaws.{length-changed_at}
use Rattle.ecp_catalog.proofs.OutlineLaws.{other_spare}
use Rattle.ecp_sequencer.specs.declared.limits.TheConstants.{ROOM}
use Rattle.ecp_sequencer.specs.Notes.{Call, note, beginning_of}
use Rattle.ecp_sequencer.specs.Facts.{HandFacts, facts_of, room_noted}
use Rattle.ecp_sequencer.specs.Passes.{IsWhole, PassState}
use Rattle.ecp_sequencer.specs.Sequencers.{SequencerState}
use Rattle.ecp_sequencer.specs.Steps.{Event, call_with}
use Rattle.ecp_sequencer.proofs.NoteLaws.{facts-began}
use Rattle.ecp_sequencer.proofs.StepLaws.{steps_whole}
use Rattle.ecp_coord.specs.Calls.{Begins, IsFresh, IsOpen}
use Rattle.ecp_coord.specs.Coords.{CoordParts, HasRoom, IsCoord, with_room}
use Rattle.ecp_coord.proofs.BookLaws.{LeavesBooking, Serves, began_leaves, none_leaves, serves_same}
use Rattle.ecp_coord.proofs.FollowLaws.{IsMet}
use Rattle.ecp_coord.proofs.KeepLaws.{noted_kept, with_catalog}
use Rattle.ecp_coord.proofs.CoverLaws.{begun_owes, same_owes}
use Rattle.ecp_coord.proofs.RoomLaws.{room_begun, spare-more}

-- room is no part of an outline
roomed_outline : (shape : Shape) (told : Bool) (c : CatalogState) (history : List Entry) (asked : Deed) (hands : ℕ) → IsOutline shape told c history
    → IsOutline shape told (with_room asked hands c) history
roomed_outline shape told c history (deed.Put name len) hands is = is
roomed_outline shape told c history (deed.Read name index) hands is = is
roomed_outline shape told c history (deed.Sum name index) hands is = is
roomed_outline shape told c history (deed.Cat name) hands is = is
roomed_outline shape told c history (deed.Lose node) hands is = other_spare shape told c history node hands is
roomed_outline shape told c history (deed.Join node) hands is = is
roomed_outline shape told c history (deed.Rebuild from to) hands is = is
roomed_outline shape told c history (deed.Stat name) hands is = is

-- more room is room enough
roomed_room : (nodes : ℕ) (c : CatalogState) (notes : List Log) (asked : Deed) (hands : ℕ) → HasRoom nodes c notes → HasRoom nodes (with_room asked hands c) notes
roomed_room nodes c notes (deed.Put name len) hands has = has
roomed_room nodes c notes (deed.Read name index) hands has = has
roomed_room nodes c notes (deed.Sum name index) hands has = has
roomed_room nodes c notes (deed.Cat name) hands has = has
roomed_room nodes c notes (deed.Lose node) hands has = λ m below. omega (arith, has m below, spare-more c node m hands)
roomed_room nodes c notes (deed.Join node) hands has = has
roomed_room nodes c notes (deed.Rebuild from to) hands has = has
roomed_room nodes c notes (deed.Stat name) hands has = has

-- the call that began is open
pub begun_open : (shape : Shape) (told : Bool) (s t : SequencerState) (v w : PassState) (asked : Deed) → IsWhole v → Begins shape told s v asked t w → w.calls ≡ v.calls + 1 → IsOpen w asked
begun_open shape told s t v w asked whole begins counted =
    let facts = ap (λ (ns : Log). facts_of ns) begins.steps.noted ∙ facts-began v.notes (length s.history) ROOM (call_with v.calls asked) in
    let number : v.calls ≡ w.calls - 1 = omega (arith, counted) in
    let room : room_noted w.notes ≡ ROOM = ap (λ (f : HandFacts). f.room) facts in
    record {
      whole = steps_whole v w [] (note (length s.history) ROOM (beginning_of (call_with v.calls asked)) ∷ []) begins.steps whole;
      begun = omega (arith, counted);
      call = ap (λ (f : HandFacts). f.call) facts ∙ ap (λ (n : ℕ). Some (call_with n asked)) number;
      room = omega (arith, room);
    }

-- of a call that may be refused
pub begin_open : (shape : Shape) (told : Bool) {R E : Type 0} (result : Result R E) (s t : SequencerState) (v w : PassState) (asked : Deed) → IsWhole v → OnOk result (Begins shape told s v asked t w)
    → OnOk result (w.calls ≡ v.calls + 1) → OnOk result (IsOpen w asked)
begin_open shape told (Ok r) s t v w asked whole ok counted = begun_open shape told s t v w asked whole ok counted
begin_open shape told (Err e) s t v w asked whole ok counted = tt

-- and of names and files there is as much
roomed_serves : (c : CatalogState) (asked : Deed) (hands : ℕ) → Serves c (with_room asked hands c)
roomed_serves c (deed.Put name len) hands = serves_same c
roomed_serves c (deed.Read name index) hands = serves_same c
roomed_serves c (deed.Sum name index) hands = serves_same c
roomed_serves c (deed.Cat name) hands = serves_same c
roomed_serves c (deed.Lose node) hands = record { nodes = length-changed_at (with_spare hands) node c.nodes; names = λ q is. is; room = omega arith }
roomed_serves c (deed.Join node) hands = serves_same c
roomed_serves c (deed.Rebuild from to) hands = serves_same c
roomed_serves c (deed.Stat name) hands = serves_same c

-- and nothing was noted of it yet
begun_fresh : (shape : Shape) (told : Bool) (s t : SequencerState) (v w : PassState) (asked : Deed) → IsWhole v → Begins shape told s v asked t w → w.calls ≡ v.calls + 1 → IsFresh w asked
begun_fresh shape told s t v w asked whole begins counted =
    let facts = ap (λ (ns : Log). facts_of ns) begins.steps.noted ∙ facts-began v.notes (length s.history) ROOM (call_with v.calls asked) in
    record { is_open = begun_open shape told s t v w asked whole begins counted; none = ap (λ (f : HandFacts). f.since) facts }

pub begin_fresh : (shape : Shape) (told : Bool) {R E : Type 0} (result : Result R E) (s t : SequencerState) (v w : PassState) (asked : Deed) → IsWhole v → OnOk result (Begins shape told s v asked t w)
    → OnOk result (w.calls ≡ v.calls + 1) → OnOk result (IsFresh w asked)
begin_fresh shape told (Ok r) s t v w asked whole ok counted = begun_fresh shape told s t v w asked whole ok counted
begin_fresh shape told (Err e) s t v w asked whole ok counted = tt

module _ (shape : Shape) (told : Bool) (callers spares : ℕ) where
  begun_kept : (s t : SequencerState) (v w : PassState) (p : CoordParts) (asked : Deed) → IsCoord shape told callers spares s p → IsMet shape told callers spares s v
      → Begins shape told s v asked t w → IsCoord shape told callers spares t (with_catalog p (with_room asked p.hands p.catalog))
  begun_kept s t v w p asked is met begins =
      let d : CatalogState = with_room asked p.hands p.catalog in
      let c : Call = call_with v.calls asked in
      let facts = ap (λ (ns : Log). facts_of ns) begins.steps.noted ∙ facts-began v.notes (length s.history) ROOM c in
      let leaves : LeavesBooking v.notes w.notes = subst (LeavesBooking v.notes) (sym begins.steps.noted) (began_leaves v.notes (length s.history) ROOM c) in
      noted_kept shape told callers spares s t v w p d (note (length s.history) ROOM (beginning_of c) ∷ []) is met begins leaves
      (begun_owes shape v.notes w.notes (length s.history) ROOM c begins.steps.noted)
      (roomed_outline shape told p.catalog (history_of s.history) asked p.hands is.outline) (roomed_serves p.catalog asked p.hands)
      (subst (HasRoom shape.nodes d) (sym begins.notes)
      (room_begun shape.nodes p.catalog s.notes v.hand w.notes v.calls p.hands asked is.room (omega (arith, met.in_range, met.kept.hands)) (met.kept.hands ∙ sym is.counted) is.each_node
      (ap (λ (f : HandFacts). f.call) facts)))

  refused_kept : (s t : SequencerState) (v w : PassState) (p : CoordParts) (asked : Deed) → IsCoord shape told callers spares s p → IsMet shape told callers spares s v
      → Event shape told s v [] [] t w → IsCoord shape told callers spares t (with_catalog p (with_room asked p.hands p.catalog))
  refused_kept s t v w p asked is met event =
      let d : CatalogState = with_room asked p.hands p.catalog in
      let noted : w.notes ≡ v.notes = event.steps.noted ∙ append-nil v.notes in
      let same : set s.notes v.hand w.notes ≡ s.notes = ap (set s.notes v.hand) (noted ∙ sym met.agree.notes) ∙ set-get_or s.notes v.hand [] in
      noted_kept shape told callers spares s t v w p d [] is met event (none_leaves v.notes w.notes noted) (same_owes shape v.notes w.notes noted)
      (roomed_outline shape told p.catalog (history_of s.history) asked p.hands is.outline) (roomed_serves p.catalog asked p.hands)
      (subst (HasRoom shape.nodes d) (sym (event.notes ∙ same)) (roomed_room shape.nodes p.catalog s.notes asked p.hands is.room))

  pub begin_kept : {R E : Type 0} (result : Result R E) (s t : SequencerState) (v w : PassState) (p : CoordParts) (asked : Deed) → IsCoord shape told callers spares s p
      → IsMet shape told callers spares s v → OnOk result (Begins shape told s v asked t w) → OnErr result (Event shape told s v [] [] t w)
      → IsCoord shape told callers spares t (with_catalog p (with_room asked p.hands p.catalog))
  begin_kept (Ok r) s t v w p asked is met ok err = begun_kept s t v w p asked is met ok
  begin_kept (Err e) s t v w p asked is met ok err = refused_kept s t v w p asked is met err
