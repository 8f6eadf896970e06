use Rattle.std.proofs.Common.{Option, sym, subst}
use Rattle.ecp_entry.specs.declared.act.Act.{Act}
use Rattle.ecp_sequencer.specs.Passes.{PassState}
use Rattle.ecp_cluster.specs.Puts.{PutMoves, PutSteps, PutStops}
use Rattle.ecp_cluster.proofs.CallLaws.{on_err}
use Rattle.ecp_cluster.proofs.PutLaws.{moves_both, put_by_past, stops_here}
use Rattle.ecp_cluster.proofs.service.Service.put_by.Goals as goal

pub returns-in_err-act-clause-err : goal.returns-in_err-act-clause-err
returns-in_err-act-clause-err g c =
    on_err c.from_residual.result
    (subst (λ (w : PassState). PutStops g.N.Names.shape g.N.Names.told c.args.pass.now c.args.res w) (sym c.in_err-act.ensures.err)
    (stops_here g.N.Names.shape g.N.Names.told c.args.pass.now c.loop.pass c.args.res c.loop.res c.loop.invariant.moves))

pub returns-in-Some-2-clause-ok : goal.returns-in-Some-2-clause-ok
returns-in-Some-2-clause-ok g c =
    put_by_past g.N.Names.shape g.N.Names.told c.args.pass.now c.loop.pass c.attempt.new.pass c.args.res c.loop.res c.args.bytes.now c.in-Some-2.act c.loop.invariant.moves
    (subst (λ (o : Option Act). PutSteps g.N.Names.shape g.N.Names.told c.loop.pass c.loop.res c.args.bytes.now c.attempt.new.res c.attempt.new.pass o) c.in-Some-2.is c.in_ok-act.ensures.ok)

pub returns-in-Some-renew-clause-ok : goal.returns-in-Some-renew-clause-ok
returns-in-Some-renew-clause-ok g c =
    let shape = g.N.Names.shape in
    let told = g.N.Names.told in
    let tried : PutMoves shape told c.loop.pass c.loop.res c.attempt.new.res c.attempt.new.pass =
    subst (λ (o : Option Act). PutSteps shape told c.loop.pass c.loop.res c.args.bytes.now c.attempt.new.res c.attempt.new.pass o) c.in_default.is c.in_ok-act.ensures.ok in
    put_by_past shape told c.args.pass.now c.attempt.new.pass c.renew.new.pass c.args.res c.attempt.new.res c.args.bytes.now c.in-Some-renew.act
    (moves_both shape told c.args.pass.now c.loop.pass c.attempt.new.pass c.args.res c.loop.res c.attempt.new.res c.loop.invariant.moves tried) (c.in-Some-renew.ensures c.args.bytes.now)

pub loop-preserved : goal.loop-preserved
loop-preserved g c =
    let shape = g.N.Names.shape in
    let told = g.N.Names.told in
    let tried : PutMoves shape told c.loop.pass c.loop.res c.attempt.new.res c.attempt.new.pass =
    subst (λ (o : Option Act). PutSteps shape told c.loop.pass c.loop.res c.args.bytes.now c.attempt.new.res c.attempt.new.pass o) c.in_default.is c.in_ok-act.ensures.ok in
    record {
      moves = moves_both shape told c.args.pass.now c.attempt.new.pass c.renew.new.pass c.args.res c.attempt.new.res c.renew.new.res
          (moves_both shape told c.args.pass.now c.loop.pass c.attempt.new.pass c.args.res c.loop.res c.attempt.new.res c.loop.invariant.moves tried) (c.in_default-renew.ensures c.args.bytes.now);
    }
