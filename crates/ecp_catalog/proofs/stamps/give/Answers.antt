use Rattle.std.proofs.Common.{◌≡◌, ◌<◌, ◌==◌, ℕ, List, length, map, take, cond, sym, ◌∙◌, ap, subst, arith}
use Rattle.std.specs.Prelude.{slice_index}
use Rattle.std.specs.List.{list_any}
use Rattle.std.proofs.lemmas.List.{length-map, take_all}
use Rattle.ecp_shape.specs.declared.limits.TheConstants.{MAX_NODES}
use Rattle.ecp_catalog.proofs.StampLaws.{map-read, stamp-more}
use Rattle.ecp_catalog.proofs.stamps.give.Goals as goal

pub loop-hop-preserved : goal.loop-hop-preserved
loop-hop-preserved g c = λ m h.
    let nodes : List ℕ = map (λ hop. hop.node) c.args.hops.now in
    let x = c.hop-item.result in
    let k = c.loop-hop.hop-index in
    let low : k < length nodes = omega (arith, c.loop-hop-test.true, length-map c.args.hops.now (λ hop. hop.node)) in
    let there : c.from.result < length c.loop-hop.stamps =
    omega (arith, c.from.ensures, subst (λ hop. hop.node < MAX_NODES) (sym c.hop-item.is) (c.requires.there k x c.loop-hop-test.true), c.loop-hop.auto.stamps, c.requires.size) in
    stamp-more c.loop-hop.stamps c.args.stamps.now nodes k c.from.result m c.args.stamp low
    (map-read (λ hop. hop.node) c.args.hops.now k x c.loop-hop-test.true c.hop-item.is ∙ sym c.from.ensures) there (c.loop-hop.invariant m h)

pub returns : goal.returns
returns g c = λ m h.
    let nodes : List ℕ = map (λ hop. hop.node) c.args.hops.now in
    let whole : take c.loop-hop.hop-index nodes ≡ nodes = take_all c.loop-hop.hop-index nodes (omega (arith, length-map c.args.hops.now (λ hop. hop.node))) in
    c.loop-hop.invariant m h ∙ ap (λ (ns : List ℕ). cond (list_any (λ x. x == m) ns) c.args.stamp (slice_index c.args.stamps.now m)) whole
