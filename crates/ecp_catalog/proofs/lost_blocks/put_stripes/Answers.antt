use Rattle.std.proofs.Common.{◌≡◌, ◌-◌, ◌*◌, ◌<◌, ◌≤◌, ℕ, List, drop, flat_map, length, length-take, map, take, sym, ◌∙◌, ap, arith}
use Rattle.std.specs.List.{range_with_len}
use Rattle.ecp_node.specs.Receipts.{ReceiptState}
use Rattle.ecp_history.specs.declared.table.block_name.BlockName.{BlockName}
use Rattle.ecp_history.specs.declared.table.file.File.{File}
use Rattle.ecp_history.specs.declared.table.node.Node.{Node}
use Rattle.ecp_history.specs.declared.task.Task.{Task}
use Rattle.ecp_catalog.specs.Standing.{FileSeen, rows_in}
use Rattle.ecp_catalog.specs.LostBlocks.{lost_by, with_tasks}
use Rattle.ecp_catalog.proofs.LostBlockLaws.{length-lost_by, length-put, length-range, put-more, put-none, range-more, stripe-room}
use Rattle.ecp_catalog.proofs.lost_blocks.put_stripes.Goals as goal

pub loop-stripe-init : goal.loop-stripe-init
loop-stripe-init g c =
    let none : c.args.span.first - c.args.span.first ≡ 0 = omega arith in
    record {
      to = omega arith;
      tasks = rw none (put-none c.args.tasks.now.items);
    }

pub put_rows-requires-clause-room : goal.put_rows-requires-clause-room
put_rows-requires-clause-room g c =
    let n : ℕ = c.args.shape.n in
    let s : ℕ = c.loop-stripe.stripe in
    let f : FileSeen = c.args.file.now in
    let first : ℕ = c.args.span.first in
    let old : List Task = c.args.tasks.now.items in
    let lost : ℕ → List BlockName = λ i. lost_by (map (λ x. x.node) c.args.nodes.now) c.args.node i (rows_in n i f) in
    let few : (i : ℕ) → length (lost i) ≤ n = λ i. omega (
      arith,
      length-lost_by (map (λ x. x.node) c.args.nodes.now) c.args.node i (rows_in n i f),
      length-take n (drop ((i - f.file.first) * n) f.rows),
    ) in
    let rows : length c.rows.result.now ≤ n = omega (arith, ap length c.rows.ensures, length-take n (drop ((s - c.file.result.first) * n) f.rows)) in
    let high : s < c.args.span.end = c.loop-stripe-test.true in
    omega (
      arith,
      ap length c.loop-stripe.invariant.tasks,
      length-put old (flat_map lost (range_with_len first (s - first))),
      rows,
      stripe-room n first s (length old) (length (flat_map lost (range_with_len first (s - first)))) c.requires.range.at_most c.loop-stripe.auto.stripe
          (omega (arith, high, c.requires.end, c.requires.kept.below)) c.requires.few (length-range lost n few first (s - first)),
    )

pub loop-stripe-preserved : goal.loop-stripe-preserved
loop-stripe-preserved g c =
    let n : ℕ = c.args.shape.n in
    let s : ℕ = c.loop-stripe.stripe in
    let f : FileSeen = c.args.file.now in
    let first : ℕ = c.args.span.first in
    let old : List Task = c.args.tasks.now.items in
    let nodes : List Node = map (λ x. x.node) c.args.nodes.now in
    let lost : ℕ → List BlockName = λ i. lost_by nodes c.args.node i (rows_in n i f) in
    let so_far : List BlockName = flat_map lost (range_with_len first (s - first)) in
    let rows : c.rows.result.now ≡ rows_in n s f = c.rows.ensures ∙ ap (λ (x : File). take n (drop ((s - x.first) * n) f.rows)) c.file.ensures in
    record {
      to = omega (arith, c.loop-stripe-test.true);
      tasks = c.in_ok-put_rows.ensures
          ∙ ap (λ (xs : List ReceiptState). with_tasks c.loop-stripe.tasks.items (lost_by nodes c.args.node s xs)) rows
          ∙ ap (λ (ts : List Task). with_tasks ts (lost s)) c.loop-stripe.invariant.tasks
          ∙ put-more old so_far (lost s)
          ∙ ap (with_tasks old) (sym (range-more lost first s c.loop-stripe.auto.stripe));
    }

pub returns : goal.returns
returns g c =
    let same : c.loop-stripe.stripe - c.args.span.first ≡ c.args.span.end - c.args.span.first = omega (arith, c.loop-stripe.invariant.to, c.loop-stripe.auto.stripe, c.loop-stripe-test.false) in
    c.loop-stripe.invariant.tasks
    ∙ ap (λ (k : ℕ). with_tasks c.args.tasks.now.items (flat_map (λ s. lost_by (map (λ x. x.node) c.args.nodes.now) c.args.node s (rows_in c.args.shape.n s c.args.file.now)) (range_with_len c.args.span.first k))) same
