use Rattle.std.proofs.Common.{length, ap, sym, ◌∙◌}
use Rattle.ecp_code.specs.Rows.{block_len}
use Rattle.ecp_code.specs.Stripes.{blocks}
use Rattle.ecp_code.proofs.BlockLaws.{blocks_again}
use Rattle.ecp_code.proofs.stripe.Stripe.bytes.Goals as goal

pub returns : goal.returns
returns c =
    blocks_again c.self.inside.rows c.self.inside.block_len c.self.inside.bytes.items c.args.self.now c.self.invariant.0 c.self.view_is
    ∙ ap (blocks (length c.args.self.now) (block_len c.args.self.now)) (sym c.deref.ensures.value)
