-- The count is the quotient rounded up.
use Rattle.std.proofs.Common.{◌≡◌, ◌+◌, ◌-◌, ◌*◌, ◌/◌, ap, ◌∙◌, arith}
use Rattle.ecp_code.specs.Code.{Shape}
use Rattle.ecp_code.proofs.StripeLaws.{rounded_up}
use Rattle.ecp_code.proofs.code.Code.stripe_count.Goals as goal

pub returns : goal.returns
returns c =
    let size = c.from.result * c.from-2.result in
    let k : c.from.result ≡ c.args.self.now.k = c.from.ensures ∙ ap (λ (s : Shape). s.k) c.self.view_is in
    let is_size : size ≡ c.args.self.now.k * c.args.block =
    ap (λ n. n * c.from-2.result) k ∙ ap (λ n. c.args.self.now.k * n) c.from-2.ensures in
    c.div_ceil.ensures ∙ rounded_up c.from-3.result size (grind arith)
    ∙ ap (λ n. (n + size - 1) / size) c.from-3.ensures
    ∙ ap (λ n. (c.args.len + n - 1) / n) is_size
