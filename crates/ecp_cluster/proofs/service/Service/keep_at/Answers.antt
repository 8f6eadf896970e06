use Rattle.std.proofs.Common.{ap, arith, sym, ◌∙◌}
use Rattle.std.specs.Prelude.{slice_index}
use Rattle.ecp_cluster.proofs.KeepLaws.{keeps_row, place_there, rows_placed}
use Rattle.ecp_cluster.proofs.service.Service.keep_at.Goals as goal

pub place-node-requires : goal.place-node-requires
place-node-requires g c = record { enough = rows_placed g.N.Names.shape c.args.res.now c.args.self.now.in_range c.requires.places c.args.row c.requires.row }

pub bounds-res-from : goal.bounds-res-from
bounds-res-from g c =
    omega (arith, place_there g.N.Names.shape c.args.res.now c.args.self.now.in_range c.requires.places c.args.stripe c.args.row c.requires.row, c.from.ensures, c.place-node.ensures, c.args.self.now.in_range.few)

pub try_keep-requires : goal.try_keep-requires
try_keep-requires g c =
    omega (arith, place_there g.N.Names.shape c.args.res.now c.args.self.now.in_range c.requires.places c.args.stripe c.args.row c.requires.row, c.place-node.ensures)

pub returns-in-Ok : goal.returns-in-Ok
returns-in-Ok g c =
    keeps_row g.N.Names.shape c.args.res.now c.args.self.now.in_range c.requires.places g.N.Names.told c.place-node.result (slice_index c.args.res.now.incs c.from.result) c.args.stripe c.args.row
    c.args.block.now c.in-Ok.receipt c.place-node.ensures (ap (slice_index c.args.res.now.incs) c.from.ensures) c.requires.row c.in-Ok.ensures
