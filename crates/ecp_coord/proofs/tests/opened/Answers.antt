use Rattle.std.proofs.Common.{◌≡◌, ◌∙◌, ℕ, ◌*◌, false, List, length, take, drop, get_or, sym, ap, subst, arith, length-drop}
use Rattle.ecp_book.specs.Logs.{Known, logs_of}
use Rattle.ecp_sequencer.specs.Hands.{hands_of}
use Rattle.ecp_sequencer.specs.Sequencers.{AreTies}
use Rattle.ecp_coord.specs.Coords.{AreNodeLogs, at_start}
use Rattle.ecp_coord.proofs.OpenLaws.{AreEmpty, of_history, of_nodes, of_ties}
use Rattle.ecp_coord.proofs.tests.opened.Goals as goal

nodes_are : (logs : ℕ) (keepers firsts nodes : List Known) → logs ≡ 11 → length keepers ≡ logs → AreEmpty logs keepers → firsts ≡ take 3 keepers → nodes ≡ drop 1 firsts → AreNodeLogs 2 nodes
nodes_are logs keepers firsts nodes eleven size empty first is =
    subst (λ (ks : List Known). AreNodeLogs 2 ks) (sym (is ∙ ap (λ (ks : List Known). drop 1 ks) first)) (of_nodes 2 logs keepers size empty (omega (arith, eleven)))

pub new-requires-clause-can : goal.new-requires-clause-can
new-requires-clause-can g c =
    let logs : ℕ = logs_of g.N.Names.book in
    let eleven : logs ≡ 11 = ap logs_of (sym c.requires.book.0) ∙ c.requires.book.1 in
    let keepers : List Known = c.in_ok-book.keepers.items in
    let size : length keepers ≡ logs = omega (arith, c.in_ok-book.ensures.count, c.in_ok-book.keepers.ok.0) in
    let empty : AreEmpty logs keepers = c.in_ok-book.ensures.empty in
    let firsts : c.split_off.new.self.items ≡ take 3 keepers = c.in_ok-ties.ensures.items in
    let first : c.split_off-2.new.self.items ≡ take 1 (take 3 keepers) = c.in_ok-nodes.ensures.items ∙ ap (λ (ks : List Known). take 1 ks) firsts in
    let ties : c.in_ok-ties.ties.items ≡ drop 3 keepers = c.in_ok-ties.ensures.tail in
    let history : Known = c.swap_remove-history.result in
    let is : history ≡ get_or (take 1 (take 3 keepers)) 0 history = c.swap_remove-history.ensures.value ∙ ap (λ (ks : List Known). get_or ks 0 history) first in
    let callers : g.N.Names.callers ≡ 2 = c.requires.names.0 in
    let eight : length (drop 3 keepers) ≡ 8 = omega (arith, length-drop 3 keepers, size, eleven) in
    record {
      range = record { data_rows = omega arith; parity_rows = omega arith; at_most = omega arith; enough = omega arith; few = omega arith; some = omega arith; short = omega arith };
      sliced = (omega arith, omega arith);
      called = (omega (arith, callers), omega (arith, callers));
      handed = (sym c.requires.names.1, omega arith, omega arith);
      first = of_history 2 logs keepers history empty (omega (arith, eleven)) is;
      of_nodes = nodes_are logs keepers c.split_off.new.self.items c.in_ok-nodes.nodes.items eleven size empty firsts c.in_ok-nodes.ensures.tail;
      of_ties = subst (λ (ks : List Known). AreTies 2 0 ks) (sym ties) (of_ties 2 logs keepers size empty);
      tied = ap (λ (ks : List Known). length ks) ties ∙ eight ∙ ap (λ (k : ℕ). 2 * hands_of k 1) (sym callers);
    }

pub returns-clause-coord : goal.returns-clause-coord
returns-clause-coord g c =
    c.in_ok-coord.ensures.coord ∙ ap (λ (k : ℕ). at_start 2 (hands_of k g.N.Names.spare_hands) 1 false) c.requires.names.0
    ∙ ap (λ (h : ℕ). at_start 2 (hands_of 2 h) 1 false) c.requires.names.1

pub returns-clause-nodes : goal.returns-clause-nodes
returns-clause-nodes g c =
    let logs : ℕ = logs_of g.N.Names.book in
    let eleven : logs ≡ 11 = ap logs_of (sym c.requires.book.0) ∙ c.requires.book.1 in
    let keepers : List Known = c.in_ok-book.keepers.items in
    let size : length keepers ≡ logs = omega (arith, c.in_ok-book.ensures.count, c.in_ok-book.keepers.ok.0) in
    subst (λ (ks : List Known). AreNodeLogs 2 ks) (sym c.in_ok-coord.ensures.nodes)
    (nodes_are logs keepers c.split_off.new.self.items c.in_ok-nodes.nodes.items eleven size c.in_ok-book.ensures.empty c.in_ok-ties.ensures.items c.in_ok-nodes.ensures.tail)
