use Rattle.std.proofs.Common.{◌≡◌, ◌*◌, min, arith, length}
use Rattle.ecp_field.specs.Lists.{AreBytes}
use Rattle.ecp_code.proofs.BlockLaws.{IsData-blocks}
use Rattle.ecp_code.proofs.HelperLaws.{helper_bytes, start_of}
use Rattle.ecp_code.proofs.rows.bytes_of_row.Goals as goal

pub returns-clause-row : goal.returns-clause-row
returns-clause-row c =
    let bytes : AreBytes c.args.bytes.now = λ i. omega (arith, c.type_inv.bytes i) in
    let start : c.min-start.result ≡ min (length c.args.bytes.now) (c.args.row * c.args.len) =
    start_of c.args.len c.args.row (length c.args.bytes.now) c.saturating_mul.result c.min-start.result c.saturating_mul.ensures c.min-start.ensures (omega arith) in
    helper_bytes c.args.k c.args.len c.args.bytes.now c.args.row c.min-start.result c.min.result start c.min.ensures c.requires
    (IsData-blocks c.args.k c.args.len c.args.bytes.now (omega arith) bytes)
