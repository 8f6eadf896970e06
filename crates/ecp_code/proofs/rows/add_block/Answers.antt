use Rattle.std.proofs.Common.{◌++◌, length, drop, ap, ◌∙◌}
use Rattle.ecp_code.proofs.RowLaws.{sums_front}
use Rattle.ecp_code.proofs.rows.add_block.Goals as goal

pub returns : goal.returns
returns c =
    ap (λ front. front ++ drop (length c.args.block.now) c.args.sum.now) c.mul_add_into.ensures
    ∙ sums_front c.args.sum.now c.args.block.now c.args.c c.requires c.ranges.c.fits
