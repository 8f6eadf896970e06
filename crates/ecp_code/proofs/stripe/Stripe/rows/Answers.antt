use Rattle.std.proofs.Common.{length, ap, sym, ◌∙◌}
use Rattle.ecp_code.proofs.BlockLaws.{length-blocks}
use Rattle.ecp_code.proofs.stripe.Stripe.rows.Goals as goal

pub returns-clause-rows : goal.returns-clause-rows
returns-clause-rows c = sym (length-blocks c.self.inside.rows c.self.inside.block_len c.self.inside.bytes.items) ∙ ap length c.self.view_is
