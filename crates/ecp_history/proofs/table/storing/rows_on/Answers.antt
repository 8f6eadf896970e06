use Rattle.std.proofs.Common.{◌≡◌, sym, ◌∙◌, ap, arith, ℕ}
use Rattle.std.proofs.lemmas.Slice.{pushed}
use Rattle.ecp_history.specs.table.Steps.{rows_among}
use Rattle.ecp_history.proofs.tables.StoreLaws.{rows_among-more}
use Rattle.ecp_history.proofs.table.storing.rows_on.Goals as goal

pub loop-row-preserved : goal.loop-row-preserved
loop-row-preserved c =
    pushed _ c.loop-row.invariant c.in_ok-push.was c.push.ensures.items ∙ sym (rows_among-more c.args.nodes.now c.loop-row.row c.args.stripe)

pub returns : goal.returns
returns c =
    let whole : c.loop-row.row ≡ c.args.n = omega (arith, c.loop-row-test.false, c.loop-row.auto.row-end) in
    c.loop-row.invariant ∙ ap (λ (m : ℕ). rows_among c.args.nodes.now m c.args.stripe) whole
