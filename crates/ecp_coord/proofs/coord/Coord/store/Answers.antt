use Rattle.std.proofs.Common.{◌≡◌, ℕ, ◌-◌, ◌≤◌, Bool, [], ◌∷◌, length, Some, None, refl, sym, ◌∙◌, ap, subst, arith}
use mathlib.Core.List.{IsPrefix}
use Rattle.ecp_entry.specs.declared.deed.Deed.TheVariants.{Put}
use Rattle.ecp_entry.specs.declared.entry.Entry.{Entry}
use Rattle.ecp_entry.specs.Told.{history_of}
use Rattle.ecp_history.specs.Legal.{MayFollow}
use Rattle.ecp_sequencer.specs.Facts.{room_noted}
use Rattle.ecp_sequencer.specs.Notes.{note, entering_of}
use Rattle.ecp_sequencer.specs.Steps.{Event, IsOwn}
use Rattle.ecp_coord.specs.Puts.{Publishes, found_by_publishing, stored_by}
use Rattle.ecp_coord.proofs.FollowLaws.{IsMet, its_own}
use Rattle.ecp_coord.proofs.PlaceLaws.{seen}
use Rattle.ecp_coord.proofs.PublishLaws.{MayStore, may_store, published_kept, same_stored, store_can, store_follows}
use Rattle.ecp_shape.specs.declared.shape.Shape.{Shape}
use Rattle.ecp_sequencer.specs.Passes.{PassState}
use Rattle.ecp_sequencer.specs.Sequencers.{Agrees, SequencerState}
use Rattle.ecp_coord.specs.Coords.{CoordParts, CoordState, heard, parts_of}
use Rattle.ecp_entry.specs.declared.act.Act.TheVariants as act
use Rattle.ecp_entry.specs.declared.part.Part.TheVariants as part
use Rattle.ecp_entry.specs.ReadBack.{line_with, entry_with}
use Rattle.ecp_coord.proofs.coord.Coord.store.Goals as goal

pub enter-requires-clause-agree : goal.enter-requires-clause-agree
enter-requires-clause-agree g c =
    subst (λ (x : SequencerState). Agrees x c.meet.new.pass) (sym (c.meet_front.ensures.same ∙ c.meet.ensures.same)) (subst (λ (q : PassState). Agrees c.self.inside.sequencer q) (sym c.meet.ensures.pass) c.meet.ensures.agree)

pub enter-requires-clause-room : goal.enter-requires-clause-room
enter-requires-clause-room g c =
    subst (λ (q : PassState). 1 ≤ room_noted q.notes) (sym c.meet.ensures.pass) c.requires.reserved.is_open.room

pub enter-requires-clause-own : goal.enter-requires-clause-own
enter-requires-clause-own g c =
    let shape : Shape = g.N.Names.shape in
    let told : Bool = g.N.Names.told in
    let callers : ℕ = g.N.Names.callers in
    let spares : ℕ = g.N.Names.spare_hands in
    let s : SequencerState = c.self.inside.sequencer in
    let v : PassState = c.args.pass.now in
    let p : CoordParts = parts_of c.self.inside.catalog c.self.inside.hands c.self.inside.slice c.self.inside.nodes.items c.self.inside.stripes c.self.inside.promises.items in
    let met : IsMet shape told callers spares s v = record {
      agree = c.meet.ensures.agree;
      kept = c.meet.ensures.kept;
      session = c.meet.ensures.session;
      own = its_own spares v c.meet.ensures.places c.requires.reserved.is_open.whole;
      in_range = c.meet.ensures.in_range;
    } in
    let res = c.args.res.now in
    let begins : IsPrefix res.front.items s.history = subst (λ (x : SequencerState). IsPrefix res.front.items x.history) c.meet.ensures.same c.meet_front.ensures.begins in
    let found : found_by_publishing shape (history_of s.history) res ≡ None = ap (λ (x : CoordState). found_by_publishing shape (history_of x.sequence.history) res) c.self.view_is ∙ c.requires.found in
    let may : MayStore shape told callers spares s v p res = may_store shape told callers spares s v p res c.self.invariant c.requires.reserved met begins found in
    let same : c.meet_front.new.self ≡ s = c.meet_front.ensures.same ∙ c.meet.ensures.same in
    let entry : stored_by v res c.args.content.now ≡ entry_with (line_with c.caller.result (c.calls.result - 1) res.point part.End (act.Stored res.first res.stripes res.up)) (Some (Put res.name res.len)) res.name c.args.content.now =
    same_stored v res c.args.content.now c.caller.result c.calls.result (c.caller.ensures.caller ∙ ap (λ (q : PassState). q.caller) c.meet.ensures.pass) (c.calls.ensures ∙ ap (λ (q : PassState). q.calls) c.meet.ensures.pass) in
    subst (λ (q : PassState). IsOwn q.caller q.notes (entry_with (line_with c.caller.result (c.calls.result - 1) res.point part.End (act.Stored res.first res.stripes res.up)) (Some (Put res.name res.len)) res.name c.args.content.now)) (sym c.meet.ensures.pass)
    (subst (λ (e : Entry). IsOwn v.caller v.notes e) entry (record { by = refl; of_call = c.requires.reserved.is_open.call }))

pub enter-requires-clause-follows : goal.enter-requires-clause-follows
enter-requires-clause-follows g c =
    let shape : Shape = g.N.Names.shape in
    let told : Bool = g.N.Names.told in
    let callers : ℕ = g.N.Names.callers in
    let spares : ℕ = g.N.Names.spare_hands in
    let s : SequencerState = c.self.inside.sequencer in
    let v : PassState = c.args.pass.now in
    let p : CoordParts = parts_of c.self.inside.catalog c.self.inside.hands c.self.inside.slice c.self.inside.nodes.items c.self.inside.stripes c.self.inside.promises.items in
    let met : IsMet shape told callers spares s v = record {
      agree = c.meet.ensures.agree;
      kept = c.meet.ensures.kept;
      session = c.meet.ensures.session;
      own = its_own spares v c.meet.ensures.places c.requires.reserved.is_open.whole;
      in_range = c.meet.ensures.in_range;
    } in
    let res = c.args.res.now in
    let begins : IsPrefix res.front.items s.history = subst (λ (x : SequencerState). IsPrefix res.front.items x.history) c.meet.ensures.same c.meet_front.ensures.begins in
    let found : found_by_publishing shape (history_of s.history) res ≡ None = ap (λ (x : CoordState). found_by_publishing shape (history_of x.sequence.history) res) c.self.view_is ∙ c.requires.found in
    let may : MayStore shape told callers spares s v p res = may_store shape told callers spares s v p res c.self.invariant c.requires.reserved met begins found in
    let same : c.meet_front.new.self ≡ s = c.meet_front.ensures.same ∙ c.meet.ensures.same in
    let entry : stored_by v res c.args.content.now ≡ entry_with (line_with c.caller.result (c.calls.result - 1) res.point part.End (act.Stored res.first res.stripes res.up)) (Some (Put res.name res.len)) res.name c.args.content.now =
    same_stored v res c.args.content.now c.caller.result c.calls.result (c.caller.ensures.caller ∙ ap (λ (q : PassState). q.caller) c.meet.ensures.pass) (c.calls.ensures ∙ ap (λ (q : PassState). q.calls) c.meet.ensures.pass) in
    subst (λ (x : SequencerState). MayFollow shape told (history_of x.history) (entry_with (line_with c.caller.result (c.calls.result - 1) res.point part.End (act.Stored res.first res.stripes res.up)) (Some (Put res.name res.len)) res.name c.args.content.now)) (sym same)
    (subst (λ (e : Entry). MayFollow shape told (history_of s.history) e) entry (store_follows shape told callers spares s v p res may c.args.content.now c.requires.receipts.len))

pub enter-requires-clause-bytes : goal.enter-requires-clause-bytes
enter-requires-clause-bytes g c =
    λ yes k. omega (arith, c.type_inv.content k)

pub store-requires : goal.store-requires
store-requires g c =
    let shape : Shape = g.N.Names.shape in
    let told : Bool = g.N.Names.told in
    let callers : ℕ = g.N.Names.callers in
    let spares : ℕ = g.N.Names.spare_hands in
    let s : SequencerState = c.self.inside.sequencer in
    let v : PassState = c.args.pass.now in
    let p : CoordParts = parts_of c.self.inside.catalog c.self.inside.hands c.self.inside.slice c.self.inside.nodes.items c.self.inside.stripes c.self.inside.promises.items in
    let met : IsMet shape told callers spares s v = record {
      agree = c.meet.ensures.agree;
      kept = c.meet.ensures.kept;
      session = c.meet.ensures.session;
      own = its_own spares v c.meet.ensures.places c.requires.reserved.is_open.whole;
      in_range = c.meet.ensures.in_range;
    } in
    let res = c.args.res.now in
    let begins : IsPrefix res.front.items s.history = subst (λ (x : SequencerState). IsPrefix res.front.items x.history) c.meet.ensures.same c.meet_front.ensures.begins in
    let found : found_by_publishing shape (history_of s.history) res ≡ None = ap (λ (x : CoordState). found_by_publishing shape (history_of x.sequence.history) res) c.self.view_is ∙ c.requires.found in
    let may : MayStore shape told callers spares s v p res = may_store shape told callers spares s v p res c.self.invariant c.requires.reserved met begins found in
    let same : c.meet_front.new.self ≡ s = c.meet_front.ensures.same ∙ c.meet.ensures.same in
    let entry : stored_by v res c.args.content.now ≡ entry_with (line_with c.caller.result (c.calls.result - 1) res.point part.End (act.Stored res.first res.stripes res.up)) (Some (Put res.name res.len)) res.name c.args.content.now =
    same_stored v res c.args.content.now c.caller.result c.calls.result (c.caller.ensures.caller ∙ ap (λ (q : PassState). q.caller) c.meet.ensures.pass) (c.calls.ensures ∙ ap (λ (q : PassState). q.calls) c.meet.ensures.pass) in
    store_can shape told callers spares s v p res may c.args.receipts.items c.requires.receipts.full

pub invariant_of-self : goal.invariant_of-self
invariant_of-self g c =
    let shape : Shape = g.N.Names.shape in
    let told : Bool = g.N.Names.told in
    let callers : ℕ = g.N.Names.callers in
    let spares : ℕ = g.N.Names.spare_hands in
    let s : SequencerState = c.self.inside.sequencer in
    let v : PassState = c.args.pass.now in
    let p : CoordParts = parts_of c.self.inside.catalog c.self.inside.hands c.self.inside.slice c.self.inside.nodes.items c.self.inside.stripes c.self.inside.promises.items in
    let met : IsMet shape told callers spares s v = record {
      agree = c.meet.ensures.agree;
      kept = c.meet.ensures.kept;
      session = c.meet.ensures.session;
      own = its_own spares v c.meet.ensures.places c.requires.reserved.is_open.whole;
      in_range = c.meet.ensures.in_range;
    } in
    let res = c.args.res.now in
    let begins : IsPrefix res.front.items s.history = subst (λ (x : SequencerState). IsPrefix res.front.items x.history) c.meet.ensures.same c.meet_front.ensures.begins in
    let found : found_by_publishing shape (history_of s.history) res ≡ None = ap (λ (x : CoordState). found_by_publishing shape (history_of x.sequence.history) res) c.self.view_is ∙ c.requires.found in
    let may : MayStore shape told callers spares s v p res = may_store shape told callers spares s v p res c.self.invariant c.requires.reserved met begins found in
    let same : c.meet_front.new.self ≡ s = c.meet_front.ensures.same ∙ c.meet.ensures.same in
    let entry : stored_by v res c.args.content.now ≡ entry_with (line_with c.caller.result (c.calls.result - 1) res.point part.End (act.Stored res.first res.stripes res.up)) (Some (Put res.name res.len)) res.name c.args.content.now =
    same_stored v res c.args.content.now c.caller.result c.calls.result (c.caller.ensures.caller ∙ ap (λ (q : PassState). q.caller) c.meet.ensures.pass) (c.calls.ensures ∙ ap (λ (q : PassState). q.calls) c.meet.ensures.pass) in
    let event : Event shape told s v (stored_by v res c.args.content.now ∷ []) (note (length s.history) (room_noted v.notes - 1) (entering_of v.hand (stored_by v res c.args.content.now)) ∷ []) c.enter.new.self c.enter.new.pass =
    subst (λ (e : Entry). Event shape told s v (e ∷ []) (note (length s.history) (room_noted v.notes - 1) (entering_of v.hand e) ∷ []) c.enter.new.self c.enter.new.pass) (sym entry)
    (subst (λ (x : SequencerState). Event shape told x v (entry_with (line_with c.caller.result (c.calls.result - 1) res.point part.End (act.Stored res.first res.stripes res.up)) (Some (Put res.name res.len)) res.name c.args.content.now ∷ []) (note (length x.history) (room_noted v.notes - 1) (entering_of v.hand (entry_with (line_with c.caller.result (c.calls.result - 1) res.point part.End (act.Stored res.first res.stripes res.up)) (Some (Put res.name res.len)) res.name c.args.content.now)) ∷ []) c.enter.new.self c.enter.new.pass) same
    (subst (λ (q : PassState). Event shape told c.meet_front.new.self q (entry_with (line_with c.caller.result (c.calls.result - 1) res.point part.End (act.Stored res.first res.stripes res.up)) (Some (Put res.name res.len)) res.name c.args.content.now ∷ []) (note (length c.meet_front.new.self.history) (room_noted q.notes - 1) (entering_of q.hand (entry_with (line_with c.caller.result (c.calls.result - 1) res.point part.End (act.Stored res.first res.stripes res.up)) (Some (Put res.name res.len)) res.name c.args.content.now)) ∷ []) c.enter.new.self c.enter.new.pass) c.meet.ensures.pass c.enter.ensures.event)) in
    published_kept shape told callers spares s v p res may c.enter.new.self c.enter.new.pass c.store.new.self c.args.content.now c.args.receipts.items c.requires.receipts event c.store.ensures

pub returns-clause-done : goal.returns-clause-done
returns-clause-done g c =
    let shape : Shape = g.N.Names.shape in
    let told : Bool = g.N.Names.told in
    let callers : ℕ = g.N.Names.callers in
    let spares : ℕ = g.N.Names.spare_hands in
    let s : SequencerState = c.self.inside.sequencer in
    let v : PassState = c.args.pass.now in
    let p : CoordParts = parts_of c.self.inside.catalog c.self.inside.hands c.self.inside.slice c.self.inside.nodes.items c.self.inside.stripes c.self.inside.promises.items in
    let met : IsMet shape told callers spares s v = record {
      agree = c.meet.ensures.agree;
      kept = c.meet.ensures.kept;
      session = c.meet.ensures.session;
      own = its_own spares v c.meet.ensures.places c.requires.reserved.is_open.whole;
      in_range = c.meet.ensures.in_range;
    } in
    let res = c.args.res.now in
    let begins : IsPrefix res.front.items s.history = subst (λ (x : SequencerState). IsPrefix res.front.items x.history) c.meet.ensures.same c.meet_front.ensures.begins in
    let found : found_by_publishing shape (history_of s.history) res ≡ None = ap (λ (x : CoordState). found_by_publishing shape (history_of x.sequence.history) res) c.self.view_is ∙ c.requires.found in
    let may : MayStore shape told callers spares s v p res = may_store shape told callers spares s v p res c.self.invariant c.requires.reserved met begins found in
    let same : c.meet_front.new.self ≡ s = c.meet_front.ensures.same ∙ c.meet.ensures.same in
    let entry : stored_by v res c.args.content.now ≡ entry_with (line_with c.caller.result (c.calls.result - 1) res.point part.End (act.Stored res.first res.stripes res.up)) (Some (Put res.name res.len)) res.name c.args.content.now =
    same_stored v res c.args.content.now c.caller.result c.calls.result (c.caller.ensures.caller ∙ ap (λ (q : PassState). q.caller) c.meet.ensures.pass) (c.calls.ensures ∙ ap (λ (q : PassState). q.calls) c.meet.ensures.pass) in
    let event : Event shape told s v (stored_by v res c.args.content.now ∷ []) (note (length s.history) (room_noted v.notes - 1) (entering_of v.hand (stored_by v res c.args.content.now)) ∷ []) c.enter.new.self c.enter.new.pass =
    subst (λ (e : Entry). Event shape told s v (e ∷ []) (note (length s.history) (room_noted v.notes - 1) (entering_of v.hand e) ∷ []) c.enter.new.self c.enter.new.pass) (sym entry)
    (subst (λ (x : SequencerState). Event shape told x v (entry_with (line_with c.caller.result (c.calls.result - 1) res.point part.End (act.Stored res.first res.stripes res.up)) (Some (Put res.name res.len)) res.name c.args.content.now ∷ []) (note (length x.history) (room_noted v.notes - 1) (entering_of v.hand (entry_with (line_with c.caller.result (c.calls.result - 1) res.point part.End (act.Stored res.first res.stripes res.up)) (Some (Put res.name res.len)) res.name c.args.content.now)) ∷ []) c.enter.new.self c.enter.new.pass) same
    (subst (λ (q : PassState). Event shape told c.meet_front.new.self q (entry_with (line_with c.caller.result (c.calls.result - 1) res.point part.End (act.Stored res.first res.stripes res.up)) (Some (Put res.name res.len)) res.name c.args.content.now ∷ []) (note (length c.meet_front.new.self.history) (room_noted q.notes - 1) (entering_of q.hand (entry_with (line_with c.caller.result (c.calls.result - 1) res.point part.End (act.Stored res.first res.stripes res.up)) (Some (Put res.name res.len)) res.name c.args.content.now)) ∷ []) c.enter.new.self c.enter.new.pass) c.meet.ensures.pass c.enter.ensures.event)) in
    let made : Publishes shape told (seen s c.self.inside.stamps c.self.inside.repairs c.self.inside.stripes c.self.inside.slice c.self.inside.cyclic (heard c.self.inside.nodes.items)) v res c.args.content.now (seen c.enter.new.self c.self.inside.stamps c.self.inside.repairs c.self.inside.stripes c.self.inside.slice c.self.inside.cyclic (heard c.self.inside.nodes.items)) c.enter.new.pass =
    record { event = event; rest = refl; calls = c.enter.ensures.calls ∙ ap (λ (q : PassState). q.calls) c.meet.ensures.pass } in
    subst (λ (x : CoordState). Publishes shape told x v res c.args.content.now (seen c.enter.new.self c.self.inside.stamps c.self.inside.repairs c.self.inside.stripes c.self.inside.slice c.self.inside.cyclic (heard c.self.inside.nodes.items)) c.enter.new.pass) c.self.view_is made
