use Rattle.std.proofs.Common.{List, ℕ, ap, subst}
use Rattle.ecp_entry.specs.declared.deed.Deed.{Deed}
use Rattle.ecp_entry.specs.declared.deed.Deed.TheVariants.{Cat}
use Rattle.ecp_coord.specs.declared.opened.Opened.{Opened}
use Rattle.ecp_coord.specs.declared.opened.Opened.TheVariants as found
use Rattle.ecp_cluster.specs.Answered.{HasBegun}
use Rattle.ecp_cluster.specs.Reading.{OpensFrom}
use Rattle.ecp_cluster.proofs.CatLaws.{none_to_read, short_either, whole_either}
use Rattle.ecp_cluster.proofs.KeptWholeLaws.{read_whole}
use Rattle.ecp_cluster.proofs.service.Service.cat.Goals as goal

pub returns-in-Opened-clause-ok : goal.returns-in-Opened-clause-ok
returns-in-Opened-clause-ok g c =
    let begun : HasBegun c.args.pass.now (Cat c.args.name.now) c.begin.new.pass =
    subst (λ (d : Deed). HasBegun c.args.pass.now d c.begin.new.pass) (ap (λ (n : List ℕ). Cat n) c.new.ensures) c.in_ok-begin.ensures.ok in
    let opened : OpensFrom g.N.Names.shape g.N.Names.told c.begin.new.pass c.args.name.now (found.Opened c.in-Opened.len c.in-Opened.count c.in-Opened.first) c.open_file.new.pass =
    subst (λ (o : Opened). OpensFrom g.N.Names.shape g.N.Names.told c.begin.new.pass c.args.name.now o c.open_file.new.pass) c.in-Opened.is c.open_file.ensures in
    whole_either g.N.Names.shape g.N.Names.told c.args.pass.now c.begin.new.pass c.open_file.new.pass c.read_blocks.new.pass c.args.name.now begun c.in-Opened.len c.in-Opened.count c.in-Opened.first
    c.read_blocks.result opened (c.read_blocks.ensures.ok c.args.name.now opened.3)

pub returns-in-Opened-clause-err : goal.returns-in-Opened-clause-err
returns-in-Opened-clause-err g c =
    let begun : HasBegun c.args.pass.now (Cat c.args.name.now) c.begin.new.pass =
    subst (λ (d : Deed). HasBegun c.args.pass.now d c.begin.new.pass) (ap (λ (n : List ℕ). Cat n) c.new.ensures) c.in_ok-begin.ensures.ok in
    let opened : OpensFrom g.N.Names.shape g.N.Names.told c.begin.new.pass c.args.name.now (found.Opened c.in-Opened.len c.in-Opened.count c.in-Opened.first) c.open_file.new.pass =
    subst (λ (o : Opened). OpensFrom g.N.Names.shape g.N.Names.told c.begin.new.pass c.args.name.now o c.open_file.new.pass) c.in-Opened.is c.open_file.ensures in
    short_either g.N.Names.shape g.N.Names.told c.args.pass.now c.begin.new.pass c.open_file.new.pass c.read_blocks.new.pass c.args.name.now begun c.in-Opened.len c.in-Opened.count c.in-Opened.first
    c.read_blocks.result opened (c.read_blocks.ensures.err c.args.name.now opened.3)

pub returns-in-NoSuchFile-clause-ok : goal.returns-in-NoSuchFile-clause-ok
returns-in-NoSuchFile-clause-ok g c =
    let begun : HasBegun c.args.pass.now (Cat c.args.name.now) c.begin.new.pass =
    subst (λ (d : Deed). HasBegun c.args.pass.now d c.begin.new.pass) (ap (λ (n : List ℕ). Cat n) c.new.ensures) c.in_ok-begin.ensures.ok in
    none_to_read g.N.Names.shape g.N.Names.told c.args.pass.now c.begin.new.pass c.open_file.new.pass c.open_file.new.pass c.args.name.now begun c.only.result
    (subst (λ (o : Opened). OpensFrom g.N.Names.shape g.N.Names.told c.begin.new.pass c.args.name.now o c.open_file.new.pass) c.in-NoSuchFile.is c.open_file.ensures)
    c.only.ensures.act.0 c.only.ensures.file.0 c.only.ensures.file.1 c.only.ensures.digest.1 (c.only.ensures.act.1, c.only.ensures.digest.0)

pub returns-in-Opened-clause-whole : goal.returns-in-Opened-clause-whole
returns-in-Opened-clause-whole g c =
    read_whole g.N.Names.shape g.N.Names.told c.args.pass.now c.read_blocks.new.pass c.args.name.now (Cat c.args.name.now) c.read_blocks.result (returns-in-Opened-clause-ok g c)
    (returns-in-Opened-clause-err g c) c.requires.whole
