use Rattle.std.proofs.Common.{◌≡◌, ℕ, ◌*◌, ◌-◌, List, ◌++◌, length, ap, ◌∙◌, take, drop, replicate}
use Rattle.std.proofs.lemmas.List.{take_rest}
use Rattle.ecp_shape.specs.declared.shape.Shape.{Shape}
use Rattle.ecp_code.specs.Stripes.{blocks, filled}
use Rattle.ecp_code.proofs.BlockLaws.{blocks-filled}
use Rattle.ecp_cluster.proofs.KeepLaws.{added_either, in_place}
use Rattle.ecp_cluster.proofs.service.Service.keep_stripe.Goals as goal

pub returns-then-rest-size-clause-ok : goal.returns-then-rest-size-clause-ok
returns-then-rest-size-clause-ok g c =
    let shape = g.N.Names.shape in
    let content : List ℕ = c.args.bytes.now in
    let i : ℕ = c.args.i in
    let z : ℕ = c.from.result * c.args.self.now.shape.block in
    let size : z ≡ shape.k * shape.block =
    ap (λ (k : ℕ). k * c.args.self.now.shape.block) (c.from.ensures ∙ c.k.ensures.k ∙ c.requires.code.1) ∙ ap (λ (s : Shape). shape.k * s.block) c.args.self.now.shaped in
    let xs : List ℕ = take z (take (length content - i * z) (drop (i * z) content)) in
    let same : blocks shape.k shape.block xs ≡ blocks shape.k shape.block (drop (i * (shape.k * shape.block)) content) =
    ap (λ (n : ℕ). blocks shape.k shape.block (take n (take (length content - i * n) (drop (i * n) content)))) size
    ∙ ap (λ (ys : List ℕ). blocks shape.k shape.block (take (shape.k * shape.block) ys)) (take_rest content (i * (shape.k * shape.block)))
    ∙ in_place shape.k shape.block (drop (i * (shape.k * shape.block)) content) in
    added_either shape g.N.Names.told c.args.res.now content xs i c.args.rows.now.items c.keep_each.new.rows.items c.keep_each.result c.requires.stripe same c.requires.first c.keep_each.ensures.ok

pub returns-clause-ok : goal.returns-clause-ok
returns-clause-ok g c =
    let shape = g.N.Names.shape in
    let content : List ℕ = c.args.bytes.now in
    let i : ℕ = c.args.i in
    let z : ℕ = c.from.result * c.args.self.now.shape.block in
    let size : z ≡ shape.k * shape.block =
    ap (λ (k : ℕ). k * c.args.self.now.shape.block) (c.from.ensures ∙ c.k.ensures.k ∙ c.requires.code.1) ∙ ap (λ (s : Shape). shape.k * s.block) c.args.self.now.shaped in
    let rest : List ℕ = take (length content - i * z) (drop (i * z) content) in
    let whole : c.deref.result.now ≡ filled z rest =
    c.deref.ensures.value ∙ c.in-Ok-resize.ensures.items ∙ ap (λ (n : ℕ). take z c.in-Ok.filled.items ++ replicate (z - n) 0) c.in-Ok.ensures.len
    ∙ ap (λ (ys : List ℕ). take z ys ++ replicate (z - length rest) 0) (c.in-Ok.ensures.items_if_clones_equal (λ x y same. same)) in
    let same : blocks shape.k shape.block c.deref.result.now ≡ blocks shape.k shape.block (drop (i * (shape.k * shape.block)) content) =
    ap (λ (ys : List ℕ). blocks shape.k shape.block ys) whole ∙ ap (λ (n : ℕ). blocks shape.k shape.block (filled n rest)) size ∙ blocks-filled shape.k shape.block rest
    ∙ ap (λ (n : ℕ). blocks shape.k shape.block (take (length content - i * n) (drop (i * n) content))) size
    ∙ ap (λ (ys : List ℕ). blocks shape.k shape.block ys) (take_rest content (i * (shape.k * shape.block))) in
    added_either shape g.N.Names.told c.args.res.now content c.deref.result.now i c.args.rows.now.items c.keep_each-2.new.rows.items c.keep_each-2.result c.requires.stripe same c.requires.first c.keep_each-2.ensures.ok
