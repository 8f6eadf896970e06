use Rattle.std.proofs.Common.{Option, Ok, sym, subst}
use Rattle.ecp_plan.specs.declared.plan.Plan.{Plan}
use Rattle.ecp_requestor.specs.declared.fetched.Fetched.{Fetched}
use Rattle.ecp_requestor.specs.Fetching.{Advances, Fetches, Looks}
use Rattle.ecp_requestor.proofs.FetchLaws.{advances_both, fetches_after, goes_both, on_err}
use Rattle.ecp_requestor.proofs.fetching.fetch.Goals as goal

pub returns-in_err-end-clause-refused : goal.returns-in_err-end-clause-refused
returns-in_err-end-clause-refused g c =
    on_err _ c.from_residual-in_err-end.result (goes_both c.args.pass.now c.loop.pass c.look.new.pass c.loop.invariant.advances.goes c.in_err-end.ensures)

pub returns-in-Some-2-clause-fetched : goal.returns-in-Some-2-clause-fetched
returns-in-Some-2-clause-fetched g c =
    let shape = g.N.Names.shape in
    let told = g.N.Names.told in
    let so_far : Advances shape told c.args.pass.now c.args.plan c.exchange.new.self.plan c.loop.pass =
    subst (λ (p : Plan g.row.N.Denot). Advances shape told c.args.pass.now c.args.plan p c.loop.pass) (sym c.exchange.ensures) c.loop.invariant.advances in
    let fetched : Fetches shape told c.loop.pass c.exchange.new.self.plan c.look.new.pass c.in-Some-2.end =
    subst (λ (o : Option (Fetched g.row.N.Denot)). Looks shape told c.loop.pass c.exchange.new.self.plan c.look.new.self.plan c.look.new.pass (Ok o)) c.in-Some-2.is c.in_ok-end.ensures in
    fetches_after shape told c.args.pass.now c.loop.pass c.look.new.pass c.args.plan c.exchange.new.self.plan c.in-Some-2.end c.requires.planned.is_open.room so_far fetched

pub loop-preserved : goal.loop-preserved
loop-preserved g c =
    let shape = g.N.Names.shape in
    let told = g.N.Names.told in
    let so_far : Advances shape told c.args.pass.now c.args.plan c.exchange.new.self.plan c.loop.pass =
    subst (λ (p : Plan g.row.N.Denot). Advances shape told c.args.pass.now c.args.plan p c.loop.pass) (sym c.exchange.ensures) c.loop.invariant.advances in
    let looked : Advances shape told c.loop.pass c.exchange.new.self.plan c.look.new.self.plan c.look.new.pass =
    subst (λ (o : Option (Fetched g.row.N.Denot)). Looks shape told c.loop.pass c.exchange.new.self.plan c.look.new.self.plan c.look.new.pass (Ok o)) c.in_default.is c.in_ok-end.ensures in
    record {
      advances = advances_both shape told c.args.pass.now c.loop.pass c.look.new.pass c.args.plan c.exchange.new.self.plan c.look.new.self.plan so_far looked;
      node = c.node_after-node.ensures;
    }
