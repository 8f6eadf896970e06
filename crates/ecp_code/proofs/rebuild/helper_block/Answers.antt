use Rattle.std.proofs.Common.{◌∙◌, ap, sym, arith, length}
use Rattle.ecp_code.specs.Rows.{row}
use Rattle.ecp_code.specs.Stripes.{blocks}
use Rattle.ecp_code.proofs.BlockLaws.{blocks-even}
use Rattle.ecp_code.proofs.HelperLaws.{length-row, whole_block}
use Rattle.ecp_code.proofs.rebuild.helper_block.Goals as goal
use Rattle.ecp_code.proofs.rebuild.helper_block.Goals.{Then-helper-k}

pub returns-then-helper-k-clause-short : goal.returns-then-helper-k-clause-short
returns-then-helper-k-clause-short c =
    let size = length-row c.args.k c.args.len c.args.bytes.now c.args.k c.requires.some (blocks-even c.args.k c.args.len c.args.bytes.now) in
    let is = ap length (c.requires.parity c.if-helper-k.true) in
    omega (arith, size, is)

pub returns-then-helper-k-clause-block : goal.returns-then-helper-k-clause-block
returns-then-helper-k-clause-block c =
    let d = blocks c.args.k c.args.len c.args.bytes.now in
    let is = c.requires.parity c.if-helper-k.true in
    let size = length-row c.args.k c.args.len c.args.bytes.now c.args.k c.requires.some (blocks-even c.args.k c.args.len c.args.bytes.now) in
    whole_block c.args.len c.args.parity.now (ap length is ∙ size) ∙ is ∙ ap (row d) (sym c.if-helper-k.true)
