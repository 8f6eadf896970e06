use Rattle.std.proofs.Common.{◌≡◌, ◌-◌, ℕ, List, [], Option, flat_map, get_or, length, map, reverse, take, sym, ◌∙◌, ap, subst, arith}
use Rattle.std.specs.BTreeMap.{get}
use Rattle.std.proofs.lemmas.List.{take_all}
use Rattle.ecp_history.specs.table.Kept.{name_cmp}
use Rattle.ecp_history.specs.declared.table.block_name.BlockName.{BlockName}
use Rattle.ecp_history.specs.declared.table.node.Node.{Node}
use Rattle.ecp_history.specs.declared.task.Task.{Task}
use Rattle.ecp_shape.specs.declared.shape.Shape.{Shape}
use Rattle.ecp_catalog.specs.declared.limits.TheConstants.{END_OF_STRIPES}
use Rattle.ecp_catalog.specs.declared.span.Span.{Span}
use Rattle.ecp_catalog.specs.Catalogs.{FilesSeen}
use Rattle.ecp_catalog.specs.Kept.{AreFiles, joined}
use Rattle.ecp_catalog.specs.LostBlocks.{lost_among, lost_by, tasks_of, with_tasks}
use Rattle.ecp_catalog.specs.Standing.{FileSeen, receipts_in, rows_in}
use Rattle.ecp_catalog.proofs.LostBlockLaws.{IsSpanOf, all-spans, few-lost, length-over, length-put, length-stripe, over, over-more, put-more, range-same, span-at}
use Rattle.ecp_catalog.proofs.file_list.FileList.lost_on.Goals as goal

pub loop-span-init : goal.loop-span-init
loop-span-init g c = c.new-tasks.ensures.items

pub put_stripes-requires-clause-first : goal.put_stripes-requires-clause-first
put_stripes-requires-clause-first g c =
    let shape : Shape = c.self.inside.shape in
    let files : List FileSeen = c.self.inside.files.items in
    let led : List ℕ → Option ℕ = λ q. joined (get name_cmp c.self.inside.names q) in
    let are : AreFiles shape files led c.deref-span-items.result.now = subst (AreFiles shape files led) (sym c.deref-span-items.ensures.value) c.self.invariant.0 in
    (span-at shape files led c.deref-span-items.result.now c.loop-span.span-index (record { first = 0; end = 0; file = 0 }) c.index-file.result.now are c.loop-span-test.true c.index-file.ensures).first

pub put_stripes-requires-clause-end : goal.put_stripes-requires-clause-end
put_stripes-requires-clause-end g c =
    let shape : Shape = c.self.inside.shape in
    let files : List FileSeen = c.self.inside.files.items in
    let led : List ℕ → Option ℕ = λ q. joined (get name_cmp c.self.inside.names q) in
    let are : AreFiles shape files led c.deref-span-items.result.now = subst (AreFiles shape files led) (sym c.deref-span-items.ensures.value) c.self.invariant.0 in
    (span-at shape files led c.deref-span-items.result.now c.loop-span.span-index (record { first = 0; end = 0; file = 0 }) c.index-file.result.now are c.loop-span-test.true c.index-file.ensures).end

pub put_stripes-requires-clause-few : goal.put_stripes-requires-clause-few
put_stripes-requires-clause-few g c =
    let shape : Shape = c.self.inside.shape in
    let files : List FileSeen = c.self.inside.files.items in
    let led : List ℕ → Option ℕ = λ q. joined (get name_cmp c.self.inside.names q) in
    let spans : List Span = c.deref-span-items.result.now in
    let are : AreFiles shape files led spans = subst (AreFiles shape files led) (sym c.deref-span-items.ensures.value) c.self.invariant.0 in
    let nodes : List Node = map (λ x. x.node) c.args.nodes.now in
    let lost : ℕ → List BlockName = λ s. lost_by nodes c.args.node s (receipts_in shape.n (reverse files) s) in
    let so_far : List BlockName = flat_map (over lost) (take c.loop-span.span-index spans) in
    omega (
      arith,
      ap length c.loop-span.invariant,
      length-put [] so_far,
      length-over lost shape.n (length-stripe nodes c.args.node shape.n (reverse files)) 0 END_OF_STRIPES c.loop-span.span-index spans (record { first = 0; end = 0; file = 0 }) are.spread c.loop-span-test.true,
    )

pub loop-span-preserved : goal.loop-span-preserved
loop-span-preserved g c =
    let shape : Shape = c.self.inside.shape in
    let files : List FileSeen = c.self.inside.files.items in
    let led : List ℕ → Option ℕ = λ q. joined (get name_cmp c.self.inside.names q) in
    let spans : List Span = c.deref-span-items.result.now in
    let are : AreFiles shape files led spans = subst (AreFiles shape files led) (sym c.deref-span-items.ensures.value) c.self.invariant.0 in
    let i : ℕ = c.loop-span.span-index in
    let x : Span = get_or spans i (record { first = 0; end = 0; file = 0 }) in
    let f : FileSeen = c.index-file.result.now in
    let own : IsSpanOf shape files x f = span-at shape files led spans i (record { first = 0; end = 0; file = 0 }) f are c.loop-span-test.true c.index-file.ensures in
    let nodes : List Node = map (λ y. y.node) c.args.nodes.now in
    let m : ℕ = c.args.node in
    let lost : ℕ → List BlockName = λ s. lost_by nodes m s (receipts_in shape.n (reverse files) s) in
    c.in_ok-put_stripes.ensures
    ∙ ap (with_tasks c.loop-span.tasks.items) (range-same (λ s. lost_by nodes m s (rows_in shape.n s f)) lost x.first (x.end - x.first) (λ s low high. ap (lost_by nodes m s) (own.rows s low (omega (arith, low, high)))))
    ∙ ap (λ (ts : List Task). with_tasks ts (over lost x)) c.loop-span.invariant
    ∙ put-more [] (flat_map (over lost) (take i spans)) (over lost x)
    ∙ ap tasks_of (sym (over-more lost spans i (record { first = 0; end = 0; file = 0 }) c.loop-span-test.true))

pub returns-clause-tasks : goal.returns-clause-tasks
returns-clause-tasks g c =
    let shape : Shape = c.self.inside.shape in
    let files : List FileSeen = c.self.inside.files.items in
    let led : List ℕ → Option ℕ = λ q. joined (get name_cmp c.self.inside.names q) in
    let spans : List Span = c.deref-span-items.result.now in
    let are : AreFiles shape files led spans = subst (AreFiles shape files led) (sym c.deref-span-items.ensures.value) c.self.invariant.0 in
    let nodes : List Node = map (λ x. x.node) c.args.nodes.now in
    let all : take c.loop-span.span-index spans ≡ spans = take_all c.loop-span.span-index spans (omega (arith, c.loop-span-test.false)) in
    c.loop-span.invariant ∙ ap (λ (xs : List Span). tasks_of (flat_map (over (λ s. lost_by nodes c.args.node s (receipts_in shape.n (reverse files) s))) xs)) all
    ∙ ap tasks_of (all-spans shape files led spans nodes c.args.node are)
    ∙ ap (λ (a : FilesSeen). tasks_of (lost_among nodes c.args.node a.shape.n a.files)) c.self.view_is

pub returns-clause-few : goal.returns-clause-few
returns-clause-few g c =
    let shape : Shape = c.self.inside.shape in
    let files : List FileSeen = c.self.inside.files.items in
    let led : List ℕ → Option ℕ = λ q. joined (get name_cmp c.self.inside.names q) in
    let spans : List Span = c.deref-span-items.result.now in
    let are : AreFiles shape files led spans = subst (AreFiles shape files led) (sym c.deref-span-items.ensures.value) c.self.invariant.0 in
    let nodes : List Node = map (λ x. x.node) c.args.nodes.now in
    let all : take c.loop-span.span-index spans ≡ spans = take_all c.loop-span.span-index spans (omega (arith, c.loop-span-test.false)) in
    let tasks : c.loop-span.tasks.items ≡ tasks_of (lost_among nodes c.args.node shape.n (reverse files)) =
    c.loop-span.invariant ∙ ap (λ (xs : List Span). tasks_of (flat_map (over (λ s. lost_by nodes c.args.node s (receipts_in shape.n (reverse files) s))) xs)) all
    ∙ ap tasks_of (all-spans shape files led spans nodes c.args.node are) in
    omega (arith, ap length tasks, length-put [] (lost_among nodes c.args.node shape.n (reverse files)), few-lost shape files led spans nodes c.args.node are)
