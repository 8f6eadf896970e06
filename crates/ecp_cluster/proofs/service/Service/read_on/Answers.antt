use Rattle.ecp_coord.specs.Plans.{part_for, refusal_of}
use Rattle.ecp_cluster.proofs.ReadLaws.{goes_either, open_by, refused_err, refused_ok}
use Rattle.ecp_cluster.proofs.service.Service.read_on.Goals as goal

pub read_by-requires : goal.read_by-requires
read_by-requires g c =
    let asked = open_by g.N.Names.shape c.args.pass.now c.args.ask c.requires in
    (c.in-Ok.ensures.ok asked.0 asked.1).planned

pub returns-in-Ok-clause-err : goal.returns-in-Ok-clause-err
returns-in-Ok-clause-err g c =
    let asked = open_by g.N.Names.shape c.args.pass.now c.args.ask c.requires in
    goes_either g.N.Names.shape g.N.Names.told c.args.pass.now c.plan_read.new.pass c.read_by.new.pass asked.0 c.in-Ok.plan c.read_by.result (c.in-Ok.ensures.ok asked.0 asked.1) c.read_by.ensures.err

pub returns-in-Err-clause-ok : goal.returns-in-Err-clause-ok
returns-in-Err-clause-ok g c = λ asked is.
    refused_ok g.N.Names.shape g.N.Names.told c.args.pass.now c.plan_read.new.pass asked (part_for c.args.ask) (refusal_of c.in-Err.why) c.unplanned.result c.unplanned.ensures.ok (c.in-Err.ensures.err asked is)

pub returns-in-Err-clause-err : goal.returns-in-Err-clause-err
returns-in-Err-clause-err g c =
    let asked = open_by g.N.Names.shape c.args.pass.now c.args.ask c.requires in
    refused_err g.N.Names.shape g.N.Names.told c.args.pass.now c.plan_read.new.pass asked.0 (part_for c.args.ask) (refusal_of c.in-Err.why) c.unplanned.result c.unplanned.ensures.err (c.in-Err.ensures.err asked.0 asked.1)
