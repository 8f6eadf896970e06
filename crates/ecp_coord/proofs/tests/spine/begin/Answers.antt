use Rattle.std.proofs.Common.{arith}
use Rattle.ecp_entry.specs.declared.deed.Deed.TheVariants.{Lose}
use Rattle.ecp_coord.proofs.SpineLaws.{began_either, refused_either}
use Rattle.ecp_coord.proofs.tests.spine.begin.Goals as goal

pub returns-clause-ok : goal.returns-clause-ok
returns-clause-ok g c =
    began_either c.begin.result g.N.Names.shape g.N.Names.told _ _ c.args.pass.now c.begin.new.pass (Lose c.args.node) c.begin.ensures.ok c.begin.ensures.counted c.begin.ensures.open

pub returns-clause-err : goal.returns-clause-err
returns-clause-err g c =
    refused_either c.begin.result g.N.Names.shape g.N.Names.told _ _ c.args.pass.now c.begin.new.pass c.begin.ensures.err
    (omega (arith, c.begin.ensures.calls, c.calls-number.ensures))
