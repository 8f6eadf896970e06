use Rattle.std.proofs.Common.{sym, subst}
use Rattle.ecp_coord.specs.declared.reservation.Reservation.{Reservation}
use Rattle.ecp_cluster.specs.Puts.{PutSteps, act_published}
use Rattle.ecp_cluster.proofs.PutLaws.{published_so}
use Rattle.ecp_cluster.proofs.service.Service.enter_file.Goals as goal

pub returns-clause-done : goal.returns-clause-done
returns-clause-done g c =
    let shape = g.N.Names.shape in
    let told = g.N.Names.told in
    let v = c.args.pass.now in
    let w = c.publish.new.pass in
    subst (λ (r : Reservation g.row.N.Denot). PutSteps shape told v c.args.res.now c.args.bytes.now r w (act_published c.args.res.now.up c.publish.result)) (sym c.publish.ensures.res)
    (published_so shape told _ _ v w c.args.res.now c.args.bytes.now _ c.publish.result c.requires.reserved c.publish.ensures.done)
