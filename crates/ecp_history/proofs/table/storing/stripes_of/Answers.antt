use Rattle.std.proofs.Common.{◌≡◌, ◌+◌, ◌-◌, suc, sym, ◌∙◌, ap, arith, ℕ, List, reverse, drop, subst, refl, Some, [], ◌∷◌}
use Rattle.std.proofs.lemmas.Slice.{pushed}
use Rattle.ecp_code.specs.Stripes.{stripes}
use Rattle.ecp_history.specs.table.Steps.{stripes_among}
use Rattle.ecp_history.proofs.tables.StoreLaws.{stripes_among-step, none_left}
use Rattle.ecp_history.proofs.table.storing.stripes_of.Goals as goal

pub loop-left-init : goal.loop-left-init
loop-left-init c = record {
  within = omega arith;
  made = ap reverse c.in_ok-stripes.ensures.items ∙ none_left c.args.nodes.now c.args.n c.args.first c.args.code.now.k c.args.block c.args.count c.args.bytes.now c.requires.count;
}

pub loop-left-preserved : goal.loop-left-preserved
loop-left-preserved c =
    let datas = stripes c.args.code.now.k c.args.block c.args.bytes.now in
    let j = c.loop-left.left - 1 in
    let left : c.loop-left.left ≡ suc j = omega (arith, c.loop-left-test.true) in
    record {
      within = omega (arith, c.loop-left.invariant.within);
      made = ap reverse (pushed {was = c.loop-left.stripes.items} (c.new.result ∷ []) refl c.in_ok-push.was c.push.ensures.items)
          ∙ stripes_among-step c.args.nodes.now c.args.n c.args.first j datas c.new.result c.loop-left.stripes.items
          (c.in_ok-blocks.ensures.listed ∙ ap (λ (b : List (List ℕ)). Some b) (sym c.new.ensures.blocks)) c.new.ensures.number (c.new.ensures.rows ∙ c.in_ok-rows.ensures)
          (subst (λ (m : ℕ). reverse c.loop-left.stripes.items ≡ stripes_among c.args.nodes.now c.args.n (c.args.first + m) (drop m datas)) left c.loop-left.invariant.made);
    }

pub returns : goal.returns
returns c =
    let datas = stripes c.args.code.now.k c.args.block c.args.bytes.now in
    let none : c.loop-left.left ≡ 0 = omega (arith, c.loop-left-test.false) in
    let first : c.args.first + 0 ≡ c.args.first = omega arith in
    subst (λ (m : ℕ). reverse c.loop-left.stripes.items ≡ stripes_among c.args.nodes.now c.args.n (c.args.first + m) (drop m datas)) none c.loop-left.invariant.made
    ∙ ap (λ (m : ℕ). stripes_among c.args.nodes.now c.args.n m datas) first
