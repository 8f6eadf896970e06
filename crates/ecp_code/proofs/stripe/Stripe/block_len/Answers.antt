use Rattle.std.proofs.Common.{◌≡◌, List, ℕ, All, length, subst}
use Rattle.ecp_code.specs.Rows.{block_len}
use Rattle.ecp_code.proofs.BlockLaws.{blocks-lengths}
use Rattle.ecp_code.proofs.stripe.Stripe.block_len.Goals as goal

pub returns-clause-equal : goal.returns-clause-equal
returns-clause-equal c =
    subst (λ (bs : List (List ℕ)). All (λ block. length block ≡ block_len bs) bs) c.self.view_is (blocks-lengths c.self.inside.rows c.self.inside.block_len c.self.inside.bytes.items c.self.invariant.0)
