use Rattle.std.proofs.Common.{subst}
use Rattle.ecp_entry.specs.Told.{history_of}
use Rattle.ecp_history.specs.Files.{StripesBounded}
use Rattle.ecp_coord.specs.Coords.{CoordState, parts_of}
use Rattle.ecp_coord.specs.Numbers.{AllEnded, calls_ended}
use Rattle.ecp_coord.proofs.BoundLaws.{bounded}
use Rattle.ecp_coord.proofs.coord.Coord.close.Goals as goal

pub returns-clause-numbers : goal.returns-clause-numbers
returns-clause-numbers g c =
    let shape = g.N.Names.shape in
    let callers = g.N.Names.callers in
    let spares = g.N.Names.spare_hands in
    let its = c.self.inside in
    subst (λ (x : CoordState). AllEnded callers spares (history_of x.sequence.history) c.args.passes.items
    → StripesBounded (calls_ended shape (history_of x.sequence.history)) (history_of x.sequence.history)) c.self.view_is
    (bounded shape g.N.Names.told callers spares its.sequencer (parts_of its.catalog its.hands its.slice its.nodes.items its.stripes its.promises.items)
    _ c.args.passes.items c.self.invariant c.close.ensures)
