use Rattle.std.proofs.Common.{ℕ, List, length, sym, ◌∙◌, ap, subst}
use Rattle.ecp_entry.specs.declared.deed.Deed.TheVariants.{Stat}
use Rattle.ecp_entry.specs.Told.{history_of}
use Rattle.ecp_history.specs.Fronts.{told_table}
use Rattle.ecp_history.specs.Legal.{MayFollow}
use Rattle.ecp_history.specs.table.Steps.{table_of}
use Rattle.ecp_sequencer.specs.Passes.{PassState}
use Rattle.ecp_sequencer.specs.Sequencers.{SequencerState}
use Rattle.ecp_coord.specs.Calls.{Ends, IsOpen, ended}
use Rattle.ecp_coord.specs.Coords.{CoordParts, CoordState, parts_of}
use Rattle.ecp_coord.specs.Stating.{found_by_stating}
use Rattle.ecp_coord.proofs.FollowLaws.{IsMet, its_own}
use Rattle.ecp_coord.proofs.StatLaws.{file_numbers, stat_goes, stat_kept}
use Rattle.ecp_coord.proofs.coord.Coord.stat.Goals as goal

pub find-found-requires : goal.find-found-requires
find-found-requires g c =
    let p : CoordParts = parts_of c.self.inside.catalog c.self.inside.hands c.self.inside.slice c.self.inside.nodes.items c.self.inside.stripes c.self.inside.promises.items in
    file_numbers g.N.Names.shape g.N.Names.told g.N.Names.callers g.N.Names.spare_hands c.self.inside.sequencer p c.self.invariant c.meet.ensures.kept.legal.legal c.new-name.result

pub end_call-requires-clause-follows : goal.end_call-requires-clause-follows
end_call-requires-clause-follows g c =
    let shape = g.N.Names.shape in
    let told = g.N.Names.told in
    let callers = g.N.Names.callers in
    let spares = g.N.Names.spare_hands in
    let s : SequencerState = c.self.inside.sequencer in
    let v : PassState = c.args.pass.now in
    let p : CoordParts = parts_of c.self.inside.catalog c.self.inside.hands c.self.inside.slice c.self.inside.nodes.items c.self.inside.stripes c.self.inside.promises.items in
    let met : IsMet shape told callers spares s v = record {
      agree = c.meet.ensures.agree;
      kept = c.meet.ensures.kept;
      session = c.meet.ensures.session;
      own = its_own spares v c.meet.ensures.places c.requires.open.whole;
      in_range = c.meet.ensures.in_range;
    } in
    let name : List ℕ = c.new-name.result in
    let open_call : IsOpen v (Stat name) = subst (λ (n : List ℕ). IsOpen v (Stat n)) (sym c.new-name.ensures) c.requires.open in
    let found_is = c.find-found.ensures shape told (history_of s.history) c.self.invariant.outline in
    subst (λ (q : PassState). MayFollow shape told (history_of c.meet.new.self.history) (ended q (Stat name) (length c.meet.new.self.history) c.find-found.result)) (sym c.meet.ensures.pass)
    (subst (λ (x : SequencerState). MayFollow shape told (history_of x.history) (ended v (Stat name) (length x.history) c.find-found.result)) (sym c.meet.ensures.same)
    (stat_goes shape told callers spares s v p c.self.invariant met name open_call c.find-found.result found_is))

pub invariant_of-self : goal.invariant_of-self
invariant_of-self g c =
    let shape = g.N.Names.shape in
    let told = g.N.Names.told in
    let callers = g.N.Names.callers in
    let spares = g.N.Names.spare_hands in
    let s : SequencerState = c.self.inside.sequencer in
    let v : PassState = c.args.pass.now in
    let p : CoordParts = parts_of c.self.inside.catalog c.self.inside.hands c.self.inside.slice c.self.inside.nodes.items c.self.inside.stripes c.self.inside.promises.items in
    let met : IsMet shape told callers spares s v = record {
      agree = c.meet.ensures.agree;
      kept = c.meet.ensures.kept;
      session = c.meet.ensures.session;
      own = its_own spares v c.meet.ensures.places c.requires.open.whole;
      in_range = c.meet.ensures.in_range;
    } in
    let name : List ℕ = c.new-name.result in
    let open_call : IsOpen v (Stat name) = subst (λ (n : List ℕ). IsOpen v (Stat n)) (sym c.new-name.ensures) c.requires.open in
    let found_is = c.find-found.ensures shape told (history_of s.history) c.self.invariant.outline in
    let t : SequencerState = c.end_call.new.sequencer in
    let ends : Ends shape told s v (Stat name) c.find-found.result t c.end_call.new.pass =
    subst (λ (x : SequencerState). Ends shape told x v (Stat name) c.find-found.result t c.end_call.new.pass) c.meet.ensures.same
    (subst (λ (q : PassState). Ends shape told c.meet.new.self q (Stat name) c.find-found.result t c.end_call.new.pass) c.meet.ensures.pass c.end_call.ensures) in
    stat_kept shape told callers spares s v p c.self.invariant met name open_call t c.end_call.new.pass c.find-found.result found_is ends

pub returns-clause-answer : goal.returns-clause-answer
returns-clause-answer g c =
    let shape = g.N.Names.shape in
    let s : SequencerState = c.self.inside.sequencer in
    c.find-found.ensures shape g.N.Names.told (history_of s.history) c.self.invariant.outline
    ∙ ap (λ (n : List ℕ). found_by_stating shape (table_of shape (history_of s.history)) n) c.new-name.ensures
    ∙ ap (λ (x : CoordState). found_by_stating shape (told_table shape x.sequence.history) c.args.name.now) c.self.view_is
