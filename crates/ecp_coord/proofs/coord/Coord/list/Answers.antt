use Rattle.std.proofs.Common.{◌≡◌, ℕ, List, Result, Ok, Err, Vec, length, sym, ap, subst, arith}
use Rattle.std.specs.Prelude.{MatchOption, ⊤}
use Rattle.std.specs.declared.alloc.Global.{Global}
use Rattle.ecp_entry.specs.declared.act.Act.{Act}
use Rattle.ecp_entry.specs.declared.act.Act.TheVariants as act
use Rattle.ecp_entry.specs.declared.deed.Deed.TheVariants.{Rebuild}
use Rattle.ecp_entry.specs.Told.{history_of}
use Rattle.ecp_history.specs.declared.task.Task.{Task}
use Rattle.ecp_history.specs.Fronts.{told_table}
use Rattle.ecp_history.specs.Legal.{MayFollow}
use Rattle.ecp_history.specs.table.Steps.{table_of}
use Rattle.ecp_sequencer.specs.Passes.{PassState}
use Rattle.ecp_sequencer.specs.Sequencers.{SequencerState}
use Rattle.ecp_coord.specs.declared.no_list.NoList.{NoList}
use Rattle.ecp_coord.specs.Calls.{Enters, ended, part_of}
use Rattle.ecp_coord.specs.Coords.{CoordParts, CoordState, parts_of}
use Rattle.ecp_coord.specs.Listing.{AnswersList, Lists, act_hindering}
use Rattle.ecp_coord.specs.Refusals.{EndsWhere}
use Rattle.ecp_coord.proofs.FollowLaws.{IsMet, its_own}
use Rattle.ecp_coord.proofs.ListingLaws.{listing_goes, listing_kept, refusal_goes}
use Rattle.ecp_coord.proofs.LoseLaws.{length_told}
use Rattle.ecp_coord.proofs.coord.Coord.list.Goals as goal

pub enter_part-requires-clause-follows : goal.enter_part-requires-clause-follows
enter_part-requires-clause-follows g c =
    let shape = g.N.Names.shape in
    let told = g.N.Names.told in
    let s : SequencerState = c.self.inside.sequencer in
    let v : PassState = c.args.pass.now in
    let p : CoordParts = parts_of c.self.inside.catalog c.self.inside.hands c.self.inside.slice c.self.inside.nodes.items c.self.inside.stripes c.self.inside.promises.items in
    let met : IsMet shape told g.N.Names.callers g.N.Names.spare_hands s v = record {
      agree = c.meet.ensures.agree;
      kept = c.meet.ensures.kept;
      session = c.meet.ensures.session;
      own = its_own g.N.Names.spare_hands v c.meet.ensures.places c.requires.fresh.is_open.whole;
      in_range = c.meet.ensures.in_range;
    } in
    let found : AnswersList shape (table_of shape (history_of s.history)) c.args.from c.args.to (Ok c.in-Ok.tasks) =
    subst (λ (r : Result (Vec Task Global) NoList). AnswersList shape (table_of shape (history_of s.history)) c.args.from c.args.to r) c.in-Ok.is
    (c.find-found.ensures.answer shape told (history_of s.history) c.self.invariant.outline) in
    let size : c.len.result ≡ length c.in-Ok.tasks.items = omega (arith, c.len.ensures, c.in-Ok.tasks.ok) in
    let goes : MayFollow shape told (history_of s.history) (part_of v (Rebuild c.args.from c.args.to) 0 (length s.history) (act.Listed c.len.result)) =
    subst (λ (n : ℕ). MayFollow shape told (history_of s.history) (part_of v (Rebuild c.args.from c.args.to) 0 (length s.history) (act.Listed n))) (sym size)
    (listing_goes shape told g.N.Names.callers g.N.Names.spare_hands s v p c.self.invariant met c.args.from c.args.to c.requires.fresh c.in-Ok.tasks.items found.0 found.1) in
    subst (λ (q : PassState). MayFollow shape told (history_of c.meet.new.self.history) (part_of q (Rebuild c.args.from c.args.to) 0 (length c.meet.new.self.history) (act.Listed c.len.result))) (sym c.meet.ensures.pass)
    (subst (λ (x : SequencerState). MayFollow shape told (history_of x.history) (part_of v (Rebuild c.args.from c.args.to) 0 (length x.history) (act.Listed c.len.result))) (sym c.meet.ensures.same) goes)

pub invariant_of-self : goal.invariant_of-self
invariant_of-self g c =
    let shape = g.N.Names.shape in
    let told = g.N.Names.told in
    let s : SequencerState = c.self.inside.sequencer in
    let v : PassState = c.args.pass.now in
    let p : CoordParts = parts_of c.self.inside.catalog c.self.inside.hands c.self.inside.slice c.self.inside.nodes.items c.self.inside.stripes c.self.inside.promises.items in
    let met : IsMet shape told g.N.Names.callers g.N.Names.spare_hands s v = record {
      agree = c.meet.ensures.agree;
      kept = c.meet.ensures.kept;
      session = c.meet.ensures.session;
      own = its_own g.N.Names.spare_hands v c.meet.ensures.places c.requires.fresh.is_open.whole;
      in_range = c.meet.ensures.in_range;
    } in
    let t : SequencerState = c.enter_part.new.sequencer in
    let w : PassState = c.enter_part.new.pass in
    let size : c.len.result ≡ length c.in-Ok.tasks.items = omega (arith, c.len.ensures, c.in-Ok.tasks.ok) in
    let enters : Enters shape told s v (Rebuild c.args.from c.args.to) 0 (act.Listed (length c.in-Ok.tasks.items)) t w =
    subst (λ (n : ℕ). Enters shape told s v (Rebuild c.args.from c.args.to) 0 (act.Listed n) t w) size
    (subst (λ (x : SequencerState). Enters shape told x v (Rebuild c.args.from c.args.to) 0 (act.Listed c.len.result) t w) c.meet.ensures.same
    (subst (λ (q : PassState). Enters shape told c.meet.new.self q (Rebuild c.args.from c.args.to) 0 (act.Listed c.len.result) t w) c.meet.ensures.pass c.enter_part.ensures)) in
    listing_kept shape told g.N.Names.callers g.N.Names.spare_hands s v p c.self.invariant met c.args.from c.args.to c.requires.fresh t w (Ok c.in-Ok.tasks) enters

pub refuse-requires-clause-follows : goal.refuse-requires-clause-follows
refuse-requires-clause-follows g c =
    let shape = g.N.Names.shape in
    let told = g.N.Names.told in
    let s : SequencerState = c.self.inside.sequencer in
    let v : PassState = c.args.pass.now in
    let p : CoordParts = parts_of c.self.inside.catalog c.self.inside.hands c.self.inside.slice c.self.inside.nodes.items c.self.inside.stripes c.self.inside.promises.items in
    let met : IsMet shape told g.N.Names.callers g.N.Names.spare_hands s v = record {
      agree = c.meet.ensures.agree;
      kept = c.meet.ensures.kept;
      session = c.meet.ensures.session;
      own = its_own g.N.Names.spare_hands v c.meet.ensures.places c.requires.fresh.is_open.whole;
      in_range = c.meet.ensures.in_range;
    } in
    let found : AnswersList shape (table_of shape (history_of s.history)) c.args.from c.args.to (Err c.in-Err.why) =
    subst (λ (r : Result (Vec Task Global) NoList). AnswersList shape (table_of shape (history_of s.history)) c.args.from c.args.to r) c.in-Err.is
    (c.find-found.ensures.answer shape told (history_of s.history) c.self.invariant.outline) in
    let goes = refusal_goes shape told g.N.Names.callers g.N.Names.spare_hands s v p c.self.invariant met c.args.from c.args.to c.requires.fresh c.in-Err.why found in
    subst (λ (q : PassState). MatchOption (act_hindering c.in-Err.why) ⊤ (λ what. MayFollow shape told (history_of c.meet.new.self.history) (ended q (Rebuild c.args.from c.args.to) (length c.meet.new.self.history) what))) (sym c.meet.ensures.pass)
    (subst (λ (x : SequencerState). MatchOption (act_hindering c.in-Err.why) ⊤ (λ what. MayFollow shape told (history_of x.history) (ended v (Rebuild c.args.from c.args.to) (length x.history) what))) (sym c.meet.ensures.same)
    (subst (λ (n : ℕ). MatchOption (act_hindering c.in-Err.why) ⊤ (λ what. MayFollow shape told (history_of s.history) (ended v (Rebuild c.args.from c.args.to) n what))) (length_told s.history) goes))

pub invariant_of-self-in-Err : goal.invariant_of-self-in-Err
invariant_of-self-in-Err g c =
    let shape = g.N.Names.shape in
    let told = g.N.Names.told in
    let s : SequencerState = c.self.inside.sequencer in
    let v : PassState = c.args.pass.now in
    let p : CoordParts = parts_of c.self.inside.catalog c.self.inside.hands c.self.inside.slice c.self.inside.nodes.items c.self.inside.stripes c.self.inside.promises.items in
    let met : IsMet shape told g.N.Names.callers g.N.Names.spare_hands s v = record {
      agree = c.meet.ensures.agree;
      kept = c.meet.ensures.kept;
      session = c.meet.ensures.session;
      own = its_own g.N.Names.spare_hands v c.meet.ensures.places c.requires.fresh.is_open.whole;
      in_range = c.meet.ensures.in_range;
    } in
    let t : SequencerState = c.refuse.new.sequencer in
    let w : PassState = c.refuse.new.pass in
    let ends : EndsWhere shape told s v (Rebuild c.args.from c.args.to) (act_hindering c.in-Err.why) t w =
    subst (λ (x : SequencerState). EndsWhere shape told x v (Rebuild c.args.from c.args.to) (act_hindering c.in-Err.why) t w) c.meet.ensures.same
    (subst (λ (q : PassState). EndsWhere shape told c.meet.new.self q (Rebuild c.args.from c.args.to) (act_hindering c.in-Err.why) t w) c.meet.ensures.pass c.refuse.ensures.event) in
    listing_kept shape told g.N.Names.callers g.N.Names.spare_hands s v p c.self.invariant met c.args.from c.args.to c.requires.fresh t w (Err c.in-Err.why) ends

pub returns-in-Ok-clause-answer : goal.returns-in-Ok-clause-answer
returns-in-Ok-clause-answer g c =
    let shape = g.N.Names.shape in
    let s : SequencerState = c.self.inside.sequencer in
    subst (λ (x : CoordState). AnswersList shape (told_table shape x.sequence.history) c.args.from c.args.to c.find-found.result) c.self.view_is
    (c.find-found.ensures.answer shape g.N.Names.told (history_of s.history) c.self.invariant.outline)

pub returns-in-Err-clause-answer : goal.returns-in-Err-clause-answer
returns-in-Err-clause-answer g c =
    let shape = g.N.Names.shape in
    let s : SequencerState = c.self.inside.sequencer in
    subst (λ (x : CoordState). AnswersList shape (told_table shape x.sequence.history) c.args.from c.args.to c.find-found.result) c.self.view_is
    (c.find-found.ensures.answer shape g.N.Names.told (history_of s.history) c.self.invariant.outline)
