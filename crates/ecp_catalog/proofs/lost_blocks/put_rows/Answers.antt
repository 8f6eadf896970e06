use Rattle.std.proofs.Common.{◌≡◌, ◌+◌, ◌∷◌, [], ◌++◌, List, map, take, sym, ◌∙◌, ap, arith, ℕ, length, Vec, Global}
use Rattle.std.proofs.lemmas.List.{take_all}
use Rattle.ecp_node.specs.Receipts.{ReceiptState}
use Rattle.ecp_history.specs.declared.table.node.Node.{Node}
use Rattle.ecp_history.specs.declared.task.Task.{Task}
use Rattle.ecp_catalog.specs.LostBlocks.{lost_by, with_tasks}
use Rattle.ecp_catalog.proofs.LostBlockLaws.{put-elsewhere, put-live, put-lost, put-none, room-left}
use Rattle.ecp_catalog.proofs.lost_blocks.put_rows.Goals as goal
use Rattle.ecp_catalog.proofs.lost_blocks.put_rows.Goals.{then-from-node+then-not-stands+in_ok-push, else-from-node, else-from-node-via-then-from-node+else-not-stands, else-from-node-via-else-from-node}

pub loop-row-init : goal.loop-row-init
loop-row-init g c = put-none c.args.tasks.now.items

pub overflow_cast-len : goal.overflow_cast-len
overflow_cast-len g c =
    omega (
      arith,
      c.requires.room,
      c.len.ensures,
      c.loop-row.tasks.ok.0,
      room-left (map (λ x. x.node) c.args.nodes.now) c.args.node c.args.stripe c.loop-row.row c.args.rows.now c.index-rows-row.result c.args.tasks.now.items c.loop-row.tasks.items
          c.loop-row.invariant c.loop-row-test.true c.index-rows-row.is,
    )

pub overflow_add-len : goal.overflow_add-len
overflow_add-len g c =
    omega (
      arith,
      c.requires.room,
      c.len.ensures,
      c.loop-row.tasks.ok.0,
      room-left (map (λ x. x.node) c.args.nodes.now) c.args.node c.args.stripe c.loop-row.row c.args.rows.now c.index-rows-row.result c.args.tasks.now.items c.loop-row.tasks.items
          c.loop-row.invariant c.loop-row-test.true c.index-rows-row.is,
    )

pub loop-row-preserved : goal.loop-row-preserved
loop-row-preserved g c =
    let nodes : List Node = map (λ x. x.node) c.args.nodes.now in
    let m : ℕ = c.args.node in
    let s : ℕ = c.args.stripe in
    let k : ℕ = c.loop-row.row in
    let rows : List ReceiptState = c.args.rows.now in
    let x : ReceiptState = c.index-rows-row.result in
    let old : List Task = c.args.tasks.now.items in
    let ts : List Task = c.loop-row.tasks.items in
    let node : c.from.result ≡ x.node = c.from.ensures ∙ c.node.ensures in
    elim c.if-from-node.branch [
      | then-from-node+then-not-stands+in_ok-push w ↦
          let len : w.len.result ≡ length ts = omega (arith, w.len.ensures, c.loop-row.tasks.ok.0) in
          ap (λ (v : Vec Task Global). v.items) w.tasks-is ∙ w.in_ok-push.ensures.items
          ∙ ap (λ (n : ℕ). let t : Task = record { part = n + 1; stripe = s; row = k } in ts ++ t ∷ []) len
          ∙ put-lost nodes m s k rows x old ts c.loop-row.invariant c.loop-row-test.true c.index-rows-row.is (sym node ∙ w.if-from-node.true) (sym w.stands.ensures ∙ w.if-not-stands.true)
      | else-from-node w ↦ elim w.else-from-node.branch [
        | else-from-node-via-then-from-node+else-not-stands w' ↦
            ap (λ (v : Vec Task Global). v.items) w.tasks-is
            ∙ put-live nodes m s k rows x old ts c.loop-row.invariant c.loop-row-test.true c.index-rows-row.is (sym w'.stands.ensures ∙ w'.if-not-stands.false)
        | else-from-node-via-else-from-node w' ↦
            ap (λ (v : Vec Task Global). v.items) w.tasks-is
            ∙ put-elsewhere nodes m s k rows x old ts c.loop-row.invariant c.loop-row-test.true c.index-rows-row.is (λ on. w'.if-from-node.false (node ∙ on))
      ]
    ]

pub returns : goal.returns
returns g c =
    let nodes : List Node = map (λ x. x.node) c.args.nodes.now in
    let all : take c.loop-row.row c.args.rows.now ≡ c.args.rows.now = take_all c.loop-row.row c.args.rows.now (omega (arith, c.loop-row-test.false)) in
    c.loop-row.invariant ∙ ap (λ (rows : List ReceiptState). with_tasks c.args.tasks.now.items (lost_by nodes c.args.node c.args.stripe rows)) all
