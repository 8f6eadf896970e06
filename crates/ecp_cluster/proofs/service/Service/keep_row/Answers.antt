use Rattle.std.proofs.Common.{◌≡◌, ℕ, ◌*◌, ◌+◌, ◌-◌, ◌<◌, ◌≤◌, List, length, ap, arith, ◌∙◌, take, drop}
use Rattle.ecp_shape.specs.declared.shape.Shape.{Shape}
use Rattle.ecp_code.specs.Rows.{row}
use Rattle.ecp_code.specs.Stripes.{blocks, stripe_len}
use Rattle.ecp_cluster.proofs.KeepLaws.{data_row, kept_either, of_row, whole_len}
use Rattle.ecp_cluster.proofs.service.Service.keep_row.Goals as goal

pub returns-then-row-k : goal.returns-then-row-k
returns-then-row-k g c =
    let shape = g.N.Names.shape in
    let range = c.args.self.now.in_range in
    let xs : List ℕ = c.args.whole.now in
    let b : ℕ = c.args.self.now.shape.block in
    let block : b ≡ shape.block = ap (λ (s : Shape). s.block) c.args.self.now.shaped in
    let part : List ℕ = take (c.from.result * b + b - c.from.result * b) (drop (c.from.result * b) xs) in
    let size : c.from.result * b + b - c.from.result * b ≡ shape.block = omega (arith, block) in
    let start : c.from.result * b ≡ c.args.row * shape.block = ap (λ (r : ℕ). r * b) c.from.ensures ∙ ap (λ (n : ℕ). c.args.row * n) block in
    let few : shape.k ≤ 256 = omega (arith, range.parity_rows, range.at_most) in
    let low : c.args.row < shape.k = omega (arith, c.if-row-k.true, c.k.ensures.k, c.requires.code.1) in
    let is : part ≡ row (blocks shape.k shape.block xs) c.args.row =
    ap (λ (n : ℕ). take n (drop (c.from.result * b) xs)) size ∙ ap (λ (n : ℕ). take shape.block (drop n xs)) start ∙ data_row shape.k shape.block xs c.args.row few low c.requires.whole (λ i. omega (arith, c.type_inv.whole i)) in
    kept_either shape g.N.Names.told c.args.res.now c.args.stripe c.args.row (blocks shape.k shape.block xs) part c.keep_at.result (of_row shape g.N.Names.told xs c.args.row part range.data_rows is)
    c.keep_at.ensures

pub returns-in-Ok : goal.returns-in-Ok
returns-in-Ok g c =
    let shape = g.N.Names.shape in
    let xs : List ℕ = c.args.whole.now in
    let is : c.bytes.result.now ≡ row (blocks shape.k shape.block xs) c.args.row =
    c.bytes.ensures ∙ c.in-Ok.ensures ∙ ap (λ (k : ℕ). row (blocks k (stripe_len k (length xs)) xs) c.args.row) c.requires.code.1
    ∙ ap (λ (n : ℕ). row (blocks shape.k n xs) c.args.row) (ap (stripe_len shape.k) c.requires.whole ∙ whole_len shape.k shape.block c.args.self.now.in_range.data_rows) in
    kept_either shape g.N.Names.told c.args.res.now c.args.stripe c.args.row (blocks shape.k shape.block xs) c.bytes.result.now c.keep_at-in-Ok.result
    (of_row shape g.N.Names.told xs c.args.row c.bytes.result.now c.args.self.now.in_range.data_rows is) c.keep_at-in-Ok.ensures
