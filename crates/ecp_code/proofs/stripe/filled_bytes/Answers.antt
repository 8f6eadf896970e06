use Rattle.std.proofs.Common.{◌≡◌, ◌-◌, ◌++◌, ℕ, List, length, take, replicate, min, vec_len, ap, ◌∙◌, rules}
use Rattle.ecp_code.proofs.BlockLaws.{filled-parts}
use Rattle.ecp_code.proofs.stripe.filled_bytes.Goals as goal

pub returns : goal.returns
returns c =
    let front = c.extend_from_slice.new.self in
    let copied : front.items ≡ take (min c.args.len (length c.args.bytes.now)) c.args.bytes.now =
    c.in_ok-extend_from_slice.ensures.items ∙ ap (λ (xs : List ℕ). xs ++ take c.min.result c.args.bytes.now) c.in_ok-data.ensures.items
    ∙ ap (λ n. take n c.args.bytes.now) c.min.ensures in
    let count : vec_len front ≡ length front.items = search rules in
    c.in_ok-resize.ensures.items ∙ ap (λ n. take c.args.len front.items ++ replicate (c.args.len - n) 0) count
    ∙ filled-parts c.args.len c.args.bytes.now front.items copied
