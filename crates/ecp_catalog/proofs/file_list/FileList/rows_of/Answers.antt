use Rattle.std.proofs.Common.{◌≡◌, ◌≤◌, ◌+◌, ◌*◌, ◌-◌, length, ap}
use Rattle.ecp_catalog.specs.Catalogs.{FilesSeen}
use Rattle.ecp_catalog.proofs.FileLaws.{rows-room}
use Rattle.ecp_catalog.proofs.file_list.FileList.rows_of.Goals as goal

pub rows-requires : goal.rows-requires
rows-requires g c =
    let f = c.in_ok-stored.stored.now in
    let n = c.self.inside.shape.n in
    let same : n ≡ c.args.self.now.shape.n = ap (λ (x : FilesSeen). x.shape.n) c.self.view_is in
    let room : (c.args.stripe - f.file.first) * n + n ≤ length f.rows =
    rw same (rows-room c.args.self.now.shape c.args.stripe f c.in_ok-stored.ensures.has c.in_ok-stored.ensures.kept) in
    rw (ap (λ x. x.first) c.file.ensures) room
