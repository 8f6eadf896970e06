use Rattle.std.proofs.Common.{List, ℕ, ap, subst}
use Rattle.ecp_entry.specs.declared.deed.Deed.{Deed}
use Rattle.ecp_entry.specs.declared.deed.Deed.TheVariants.{Read}
use Rattle.ecp_coord.specs.Calls.{IsFresh}
use Rattle.ecp_cluster.specs.Answered.{HasBegun}
use Rattle.ecp_cluster.proofs.CallLaws.{answered_either, none_either}
use Rattle.ecp_cluster.proofs.KeptWholeLaws.{answered_whole}
use Rattle.ecp_cluster.proofs.service.Service.read.Goals as goal

pub returns-clause-ok : goal.returns-clause-ok
returns-clause-ok g c =
    let begun : HasBegun c.args.pass.now (Read c.args.name.now c.args.index) c.begin.new.pass =
    subst (λ (d : Deed). HasBegun c.args.pass.now d c.begin.new.pass) (ap (λ (n : List ℕ). Read n c.args.index) c.new.ensures) c.in_ok-begin.ensures.ok in
    let fresh : IsFresh c.begin.new.pass (Read c.args.name.now c.args.index) =
    subst (λ (d : Deed). IsFresh c.begin.new.pass d) (ap (λ (n : List ℕ). Read n c.args.index) c.new.ensures) c.in_ok-begin.ensures.ok.fresh in
    answered_either (λ a. a.act) (λ a. a.bytes) g.N.Names.shape g.N.Names.told c.args.pass.now c.begin.new.pass c.read_on.new.pass (Read c.args.name.now c.args.index) c.read_on.result begun (c.read_on.ensures.ok (Read c.args.name.now c.args.index) fresh.is_open)

pub returns-clause-err : goal.returns-clause-err
returns-clause-err g c =
    let begun : HasBegun c.args.pass.now (Read c.args.name.now c.args.index) c.begin.new.pass =
    subst (λ (d : Deed). HasBegun c.args.pass.now d c.begin.new.pass) (ap (λ (n : List ℕ). Read n c.args.index) c.new.ensures) c.in_ok-begin.ensures.ok in
    none_either c.args.pass.now c.begin.new.pass c.read_on.new.pass (Read c.args.name.now c.args.index) c.read_on.result begun c.read_on.ensures.err

pub returns-clause-whole : goal.returns-clause-whole
returns-clause-whole g c =
    answered_whole g.N.Names.shape g.N.Names.told c.args.pass.now c.read_on.new.pass (Read c.args.name.now c.args.index) c.read_on.result (returns-clause-ok g c) (returns-clause-err g c) c.requires.whole
