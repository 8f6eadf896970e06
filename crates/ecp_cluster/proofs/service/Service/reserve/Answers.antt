use Rattle.ecp_entry.specs.declared.deed.Deed.TheVariants.{Put}
use Rattle.ecp_cluster.proofs.PutLaws.{placed_either, unplaced_either}
use Rattle.ecp_cluster.proofs.service.Service.reserve.Goals as goal

pub returns-clause-ok : goal.returns-clause-ok
returns-clause-ok g c =
    placed_either g.N.Names.shape g.N.Names.told _ _ c.args.pass.now c.reserve_put.new.pass c.args.name.now c.args.len c.reserve_put.result c.reserve_put.ensures.ok c.reserve_put.ensures.named

pub returns-clause-err : goal.returns-clause-err
returns-clause-err g c =
    unplaced_either g.N.Names.shape g.N.Names.told _ _ c.args.pass.now c.reserve_put.new.pass (Put c.args.name.now c.args.len) c.reserve_put.result c.reserve_put.ensures.err
