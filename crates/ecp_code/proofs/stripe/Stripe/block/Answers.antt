-- Block j lies at j times the length of a block.
use Rattle.std.proofs.Common.{◌≡◌, ◌≤◌, ◌<◌, ◌+◌, ◌-◌, ◌*◌, Some, take, drop, length, slice_get, ap, sym, ◌∙◌, arith}
use Rattle.std.proofs.lemmas.Nat.{row_fits}
use Rattle.ecp_code.proofs.BlockLaws.{length-blocks, slice_get-blocks}
use Rattle.ecp_code.proofs.stripe.Stripe.block.Goals as goal

pub slice_bounds-result-end : goal.slice_bounds-result-end
slice_bounds-result-end c =
    let rows : length c.args.self.now ≡ c.self.inside.rows = sym (ap length c.self.view_is) ∙ length-blocks c.self.inside.rows c.self.inside.block_len c.self.inside.bytes.items in
    let below : c.from.result < c.self.inside.rows = omega arith in
    let fits : c.from.result * c.self.inside.block_len + c.self.inside.block_len ≤ c.self.inside.rows * c.self.inside.block_len = row_fits c.from.result c.self.inside.block_len c.self.inside.rows c.self.inside.block_len below (omega arith) in
    omega arith

pub returns : goal.returns
returns c =
    let len = c.self.inside.block_len in
    let rows : length c.args.self.now ≡ c.self.inside.rows = sym (ap length c.self.view_is) ∙ length-blocks c.self.inside.rows c.self.inside.block_len c.self.inside.bytes.items in
    let below : c.args.row < c.self.inside.rows = omega arith in
    let size : c.from.result * len + len - c.from.result * len ≡ len = omega arith in
    sym (ap (λ bs. slice_get bs c.args.row) c.self.view_is)
    ∙ slice_get-blocks c.self.inside.rows len c.self.inside.bytes.items c.args.row below (omega arith)
    ∙ ap (λ n. Some (take len (drop (n * len) c.self.inside.bytes.items))) (sym c.from.ensures)
    ∙ ap (λ n. Some (take n (drop (c.from.result * len) c.self.inside.bytes.items))) (sym size)
    ∙ ap (λ xs. Some (take (c.from.result * len + len - c.from.result * len) (drop (c.from.result * len) xs))) (sym c.deref.ensures.value)
