use Rattle.ecp_entry.specs.declared.act.Act.TheVariants as act
use Rattle.ecp_cluster.proofs.PutLaws.{gave_up_so, moves_again, stands_so}
use Rattle.ecp_cluster.proofs.service.Service.renew.Goals as goal

pub returns-in-Again : goal.returns-in-Again
returns-in-Again g c = λ bytes.
    moves_again g.N.Names.shape g.N.Names.told _ _ c.args.pass.now c.renew-renewed.new.pass c.args.res.now c.renew-renewed.new.res c.in-Again.ensures.done

pub returns-in-StillGood : goal.returns-in-StillGood
returns-in-StillGood g c = λ bytes.
    stands_so g.N.Names.shape g.N.Names.told _ _ c.args.pass.now c.renew-renewed.new.pass c.args.res.now c.renew-renewed.new.res c.requires c.in-StillGood.ensures.done

pub returns-in-NameTaken : goal.returns-in-NameTaken
returns-in-NameTaken g c = λ bytes.
    gave_up_so g.N.Names.shape g.N.Names.told _ _ c.args.pass.now c.renew-renewed.new.pass c.args.res.now c.renew-renewed.new.res act.NameTaken c.in-NameTaken.ensures.done

pub returns-in-TooFewNodes : goal.returns-in-TooFewNodes
returns-in-TooFewNodes g c = λ bytes.
    gave_up_so g.N.Names.shape g.N.Names.told _ _ c.args.pass.now c.renew-renewed.new.pass c.args.res.now c.renew-renewed.new.res (act.TooFewNodes c.in-TooFewNodes.up) c.in-TooFewNodes.ensures.done

pub returns-in-Unsteady : goal.returns-in-Unsteady
returns-in-Unsteady g c = λ bytes.
    gave_up_so g.N.Names.shape g.N.Names.told _ _ c.args.pass.now c.renew-renewed.new.pass c.args.res.now c.renew-renewed.new.res (act.Unsteady c.renew-renewed.new.res.voids.at) c.in-Unsteady.ensures.done
