use Rattle.std.proofs.Common.{◌≡◌, ◌+◌, ℕ, List, length, map, take, sym, ◌∙◌, ap, arith, length-take-le, append-nil, ◌++◌, ◌∷◌, [], Bool, cond}
use Rattle.std.proofs.lemmas.List.{length-map}
use Rattle.std.proofs.lemmas.List.Sums.{count_by-le-length}
use Rattle.ecp_history.specs.declared.table.node.Node.{Node}
use Rattle.ecp_history.specs.declared.table.standing.Standing.{Standing}
use Rattle.ecp_plan.specs.declared.live_row.LiveRow.{LiveRow}
use Rattle.ecp_node.specs.Receipts.{ReceiptState}
use Rattle.ecp_catalog.specs.Standing.{standing, live_among}
use Rattle.ecp_catalog.proofs.AnswerLaws.{length-live_among}
use Rattle.ecp_catalog.proofs.CountLaws.{rows-more}
use Rattle.ecp_catalog.proofs.node_list.live_rows_among.Goals as goal
use Rattle.ecp_catalog.proofs.node_list.live_rows_among.Goals.{then-stands, else-stands}

pub push-requires : goal.push-requires
push-requires g c =
    let taken : List ReceiptState = take c.loop-row.row c.args.rows.now in
    let xs : List Standing = map (standing (map (λ x. x.node) c.args.nodes.now)) taken in
    omega (
      arith,
      ap length c.loop-row.invariant,
      length-live_among xs,
      count_by-le-length (λ (x : Standing). x.live) xs,
      length-map taken (standing (map (λ x. x.node) c.args.nodes.now)),
      length-take-le c.loop-row.row c.args.rows.now (omega arith),
      c.requires,
      c.loop-row-test.true,
    )

pub loop-row-preserved : goal.loop-row-preserved
loop-row-preserved g c =
    let nodes : List Node = map (λ x. x.node) c.args.nodes.now in
    let k = c.loop-row.row in
    let x = c.index-rows-row.result in
    let so_far : List LiveRow = live_among (map (standing nodes) (take k c.args.rows.now)) in
    let more : live_among (map (standing nodes) (take (k + 1) c.args.rows.now)) ≡ so_far ++ cond (standing nodes x).live (record { row = k; node = x.node } ∷ []) [] =
    rows-more nodes c.args.rows.now k x c.loop-row-test.true c.index-rows-row.is in
    elim c.if-stands.branch [
      | then-stands w ↦
          w.live-is ∙ w.push.ensures ∙ ap (λ (n : ℕ). c.loop-row.live ++ record { row = k; node = n } ∷ []) w.node.ensures
          ∙ ap (λ (rows : List LiveRow). rows ++ record { row = k; node = x.node } ∷ []) c.loop-row.invariant
          ∙ sym (more ∙ ap (λ (b : Bool). so_far ++ cond b (record { row = k; node = x.node } ∷ []) []) (sym c.stands.ensures ∙ w.if-stands.true))
      | else-stands w ↦
          w.live-is ∙ c.loop-row.invariant
          ∙ sym (more ∙ ap (λ (b : Bool). so_far ++ cond b (record { row = k; node = x.node } ∷ []) []) (sym c.stands.ensures ∙ w.if-stands.false) ∙ append-nil so_far)
    ]
