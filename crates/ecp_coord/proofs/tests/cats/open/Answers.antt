use Rattle.std.proofs.Common.{◌≡◌, subst}
use Rattle.ecp_entry.specs.declared.deed.Deed.TheVariants.{Cat}
use Rattle.ecp_sequencer.specs.Passes.{PassState}
use Rattle.ecp_coord.specs.declared.opened.Opened.{Opened}
use Rattle.ecp_coord.specs.declared.opened.Opened.TheVariants as found
use Rattle.ecp_coord.specs.Opening.{Opens}
use Rattle.ecp_coord.proofs.ClosingLaws.{begun_room, empty_closes}
use Rattle.ecp_coord.proofs.tests.cats.open.Goals as goal

pub returns : goal.returns
returns g c = record {
  empty = λ len first is.
      let v : PassState = c.begin.new.pass in
      let same : c.open_cat.result ≡ found.Opened len 0 first = cc in
      let room = begun_room g.N.Names.shape g.N.Names.told c.args.coord.now.sequence c.begin.new.self.sequence c.args.pass.now v (Cat c.new.result) c.in_ok-begin.ensures.ok in
      empty_closes g.N.Names.shape g.N.Names.told c.begin.new.self.sequence c.open_cat.new.self.sequence v c.open_cat.new.pass c.args.name.now len first
      (subst (λ (o : Opened). Opens g.N.Names.shape g.N.Names.told c.begin.new.self.sequence v c.args.name.now o c.open_cat.new.self.sequence c.open_cat.new.pass) same c.open_cat.ensures.event)
      room;
}
