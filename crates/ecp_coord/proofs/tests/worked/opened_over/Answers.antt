use Rattle.std.proofs.Common.{◌≡◌, ◌∙◌, ℕ, ◌+◌, ◌*◌, ◌≤◌, List, length, take, drop, get_or, sym, ap, subst, arith, length-drop}
use Rattle.ecp_book.specs.Logs.{Known, logs_of}
use Rattle.ecp_sequencer.specs.Hands.{hands_of}
use Rattle.ecp_sequencer.specs.Passes.{first_passes}
use Rattle.ecp_sequencer.specs.Sequencers.{AreTies}
use Rattle.ecp_coord.specs.Coords.{AreNodeLogs}
use Rattle.ecp_coord.proofs.OpenLaws.{AreEmpty, of_history, of_nodes, of_ties}
use Rattle.ecp_coord.proofs.tests.worked.opened_over.Goals as goal

nodes_are : (nodes logs : ℕ) (keepers firsts rest : List Known) → 1 + nodes ≤ logs → length keepers ≡ logs → AreEmpty logs keepers → firsts ≡ take (1 + nodes) keepers → rest ≡ drop 1 firsts → AreNodeLogs nodes rest
nodes_are nodes logs keepers firsts rest some size empty first is =
    subst (λ (ks : List Known). AreNodeLogs nodes ks) (sym (is ∙ ap (λ (ks : List Known). drop 1 ks) first)) (of_nodes nodes logs keepers size empty some)

pub new-requires-clause-can : goal.new-requires-clause-can
new-requires-clause-can g c =
    let nodes : ℕ = c.args.shape.nodes in
    let logs : ℕ = logs_of g.N.Names.book in
    let count : logs ≡ nodes + 9 = ap logs_of (sym c.requires.book.0) ∙ c.requires.book.1 in
    let keepers : List Known = c.in_ok-book.keepers.items in
    let size : length keepers ≡ logs = omega (arith, c.in_ok-book.ensures.count, c.in_ok-book.keepers.ok.0) in
    let empty : AreEmpty logs keepers = c.in_ok-book.ensures.empty in
    let firsts : c.split_off.new.self.items ≡ take (1 + nodes) keepers = c.in_ok-ties.ensures.items in
    let first : c.split_off-2.new.self.items ≡ take 1 (take (1 + nodes) keepers) = c.in_ok-nodes.ensures.items ∙ ap (λ (ks : List Known). take 1 ks) firsts in
    let ties : c.in_ok-ties.ties.items ≡ drop (1 + nodes) keepers = c.in_ok-ties.ensures.tail in
    let history : Known = c.swap_remove-history.result in
    let is : history ≡ get_or (take 1 (take (1 + nodes) keepers)) 0 history = c.swap_remove-history.ensures.value ∙ ap (λ (ks : List Known). get_or ks 0 history) first in
    let callers : g.N.Names.callers ≡ 2 = c.requires.names.0 in
    let eight : length (drop (1 + nodes) keepers) ≡ 8 = omega (arith, length-drop (1 + nodes) keepers, size, count) in
    record {
      range = c.requires.range;
      sliced = (omega arith, c.requires.range.some);
      called = (omega (arith, callers), omega (arith, callers));
      handed = (sym c.requires.names.1, omega arith, omega arith);
      first = of_history nodes logs keepers history empty (omega (arith, count)) is;
      of_nodes = nodes_are nodes logs keepers c.split_off.new.self.items c.in_ok-nodes.nodes.items (omega (arith, count)) size empty firsts c.in_ok-nodes.ensures.tail;
      of_ties = subst (λ (ks : List Known). AreTies nodes 0 ks) (sym ties) (of_ties nodes logs keepers size empty);
      tied = ap (λ (ks : List Known). length ks) ties ∙ eight ∙ ap (λ (k : ℕ). 2 * hands_of k 1) (sym callers);
    }

pub returns : goal.returns
returns g c =
    let nodes : ℕ = c.args.shape.nodes in
    let logs : ℕ = logs_of g.N.Names.book in
    let count : logs ≡ nodes + 9 = ap logs_of (sym c.requires.book.0) ∙ c.requires.book.1 in
    let keepers : List Known = c.in_ok-book.keepers.items in
    let size : length keepers ≡ logs = omega (arith, c.in_ok-book.ensures.count, c.in_ok-book.keepers.ok.0) in
    record {
      nodes = subst (λ (ks : List Known). AreNodeLogs nodes ks) (sym c.in_ok-coord.ensures.nodes)
          (nodes_are nodes logs keepers c.split_off.new.self.items c.in_ok-nodes.nodes.items (omega (arith, count)) size c.in_ok-book.ensures.empty c.in_ok-ties.ensures.items c.in_ok-nodes.ensures.tail);
      passes = c.in_ok-coord.ensures.passes ∙ ap (λ (k : ℕ). first_passes g.N.Names.spare_hands k) c.requires.names.0 ∙ ap (λ (h : ℕ). first_passes h 2) c.requires.names.1;
    }
