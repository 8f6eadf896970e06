use Rattle.ecp_entry.specs.declared.deed.Deed.TheVariants.{Put}
use Rattle.ecp_cluster.proofs.PutLaws.{stops_either}
use Rattle.ecp_cluster.proofs.service.Service.put_on.Goals as goal

pub returns-in-Ok-clause-err : goal.returns-in-Ok-clause-err
returns-in-Ok-clause-err g c =
    stops_either g.N.Names.shape g.N.Names.told c.args.pass.now c.reserve.new.pass c.put_by.new.pass _ c.in-Ok.res c.put_by.result c.in-Ok.ensures.ok c.put_by.ensures.err
