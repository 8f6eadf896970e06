-- The length of a block is the quotient rounded up.
use Rattle.std.proofs.Common.{◌≡◌, ◌+◌, ◌-◌, ◌/◌, IfOk, length, ap, subst, ◌∙◌, arith}
use Rattle.ecp_code.specs.Code.{Shape}
use Rattle.ecp_code.specs.Rows.{row}
use Rattle.ecp_code.specs.Stripes.{blocks, stripe_len}
use Rattle.ecp_code.proofs.StripeLaws.{rounded_up}
use Rattle.ecp_code.proofs.code.Code.row_of.Goals as goal

pub returns : goal.returns
returns c =
    let k = c.args.self.now.k in
    let bytes = c.args.bytes.now in
    let inside : c.self.inside.k ≡ k = ap (λ (s : Shape). s.k) c.self.view_is in
    let size : c.div_ceil.result ≡ stripe_len k (length bytes) =
    c.div_ceil.ensures ∙ rounded_up (length bytes) c.self.inside.k (omega arith) ∙ ap (λ n. (length bytes + n - 1) / n) inside in
    subst (λ n. IfOk c.row_of_blocks.result (λ block. block ≡ row (blocks k n bytes) c.args.row)) size c.row_of_blocks.ensures
