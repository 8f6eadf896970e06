use Rattle.std.proofs.Common.{ℕ, List, length, sym, ◌∙◌, ap, subst}
use Rattle.ecp_entry.specs.declared.deed.Deed.TheVariants.{Cat}
use Rattle.ecp_entry.specs.Told.{history_of}
use Rattle.ecp_history.specs.Fronts.{told_table}
use Rattle.ecp_history.specs.Legal.{MayFollow}
use Rattle.ecp_history.specs.table.Steps.{table_of}
use Rattle.ecp_sequencer.specs.Passes.{PassState}
use Rattle.ecp_sequencer.specs.Sequencers.{SequencerState}
use Rattle.ecp_coord.specs.Calls.{IsFresh}
use Rattle.ecp_coord.specs.Coords.{CoordParts, CoordState, parts_of}
use Rattle.ecp_coord.specs.Opening.{Opens, found_by_opening, opening}
use Rattle.ecp_coord.proofs.FollowLaws.{IsMet, its_own}
use Rattle.ecp_coord.proofs.OpeningLaws.{opening_goes, opening_kept}
use Rattle.ecp_coord.proofs.coord.Coord.open_cat.Goals as goal

pub enter-requires-clause-follows : goal.enter-requires-clause-follows
enter-requires-clause-follows g c =
    let shape = g.N.Names.shape in
    let told = g.N.Names.told in
    let callers = g.N.Names.callers in
    let spares = g.N.Names.spare_hands in
    let s : SequencerState = c.self.inside.sequencer in
    let v : PassState = c.args.pass.now in
    let p : CoordParts = parts_of c.self.inside.catalog c.self.inside.hands c.self.inside.slice c.self.inside.nodes.items c.self.inside.stripes c.self.inside.promises.items in
    let met : IsMet shape told callers spares s v = record {
      agree = c.meet.ensures.agree;
      kept = c.meet.ensures.kept;
      session = c.meet.ensures.session;
      own = its_own spares v c.meet.ensures.places c.requires.fresh.is_open.whole;
      in_range = c.meet.ensures.in_range;
    } in
    let name : List ℕ = c.new-name.result in
    let fresh : IsFresh v (Cat name) = subst (λ (n : List ℕ). IsFresh v (Cat n)) (sym c.new-name.ensures) c.requires.fresh in
    let found_is = c.find-found.ensures shape told (history_of s.history) c.self.invariant.outline in
    subst (λ (q : PassState). MayFollow shape told (history_of c.meet.new.self.history) (opening q name (length c.meet.new.self.history) c.find-found.result)) (sym c.meet.ensures.pass)
    (subst (λ (x : SequencerState). MayFollow shape told (history_of x.history) (opening v name (length x.history) c.find-found.result)) (sym c.meet.ensures.same)
    (opening_goes shape told callers spares s v p c.self.invariant met name fresh c.find-found.result found_is))

pub invariant_of-self : goal.invariant_of-self
invariant_of-self g c =
    let shape = g.N.Names.shape in
    let told = g.N.Names.told in
    let callers = g.N.Names.callers in
    let spares = g.N.Names.spare_hands in
    let s : SequencerState = c.self.inside.sequencer in
    let v : PassState = c.args.pass.now in
    let p : CoordParts = parts_of c.self.inside.catalog c.self.inside.hands c.self.inside.slice c.self.inside.nodes.items c.self.inside.stripes c.self.inside.promises.items in
    let met : IsMet shape told callers spares s v = record {
      agree = c.meet.ensures.agree;
      kept = c.meet.ensures.kept;
      session = c.meet.ensures.session;
      own = its_own spares v c.meet.ensures.places c.requires.fresh.is_open.whole;
      in_range = c.meet.ensures.in_range;
    } in
    let name : List ℕ = c.new-name.result in
    let fresh : IsFresh v (Cat name) = subst (λ (n : List ℕ). IsFresh v (Cat n)) (sym c.new-name.ensures) c.requires.fresh in
    let t : SequencerState = c.enter.new.sequencer in
    let opens : Opens shape told s v name c.find-found.result t c.enter.new.pass =
    subst (λ (x : SequencerState). Opens shape told x v name c.find-found.result t c.enter.new.pass) c.meet.ensures.same
    (subst (λ (q : PassState). Opens shape told c.meet.new.self q name c.find-found.result t c.enter.new.pass) c.meet.ensures.pass c.enter.ensures) in
    opening_kept shape told callers spares s v p c.self.invariant met name fresh t c.enter.new.pass c.find-found.result opens

pub returns-clause-answer : goal.returns-clause-answer
returns-clause-answer g c =
    let shape = g.N.Names.shape in
    let s : SequencerState = c.self.inside.sequencer in
    c.find-found.ensures shape g.N.Names.told (history_of s.history) c.self.invariant.outline
    ∙ ap (λ (n : List ℕ). found_by_opening shape (table_of shape (history_of s.history)) n) c.new-name.ensures
    ∙ ap (λ (x : CoordState). found_by_opening shape (told_table shape x.sequence.history) c.args.name.now) c.self.view_is
