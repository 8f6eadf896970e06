use Rattle.ecp_cluster.proofs.CatLaws.{opened_from}
use Rattle.ecp_cluster.proofs.service.Service.open_file.Goals as goal

pub returns : goal.returns
returns g c =
    opened_from g.N.Names.shape g.N.Names.told _ _ c.args.pass.now c.open_cat.new.pass c.args.name.now c.open_cat.result c.requires.fresh.is_open c.requires.room c.open_cat.ensures.event c.open_cat.ensures.answer
