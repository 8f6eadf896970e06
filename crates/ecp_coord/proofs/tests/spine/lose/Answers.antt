use Rattle.ecp_entry.specs.declared.deed.Deed.TheVariants.{Lose}
use Rattle.ecp_coord.proofs.SpineLaws.{called_lose, began_open}
use Rattle.ecp_coord.proofs.tests.spine.lose.Goals as goal

pub lose-requires : goal.lose-requires
lose-requires g c = record { «open» = began_open c.args.pass.now c.begin.new.pass (Lose c.args.node) c.requires c.in_ok-begin.ensures.ok }

pub returns-clause-ok : goal.returns-clause-ok
returns-clause-ok g c =
    called_lose g.N.Names.shape g.N.Names.told _ _ c.args.pass.now c.begin.new.pass c.lose.new.pass c.args.node c.lose.result c.in_ok-begin.ensures.ok c.lose.ensures.event
