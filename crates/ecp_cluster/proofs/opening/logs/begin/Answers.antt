use Rattle.std.proofs.Common.{◌≡◌, ◌∙◌, ℕ, ◌+◌, ◌*◌, ◌≤◌, List, length, take, drop, get_or, sym, ap, subst, arith, length-drop}
use Rattle.ecp_book.specs.Logs.{Known, logs_of}
use Rattle.ecp_shape.specs.declared.shape.Shape.{Shape}
use Rattle.ecp_sequencer.specs.Hands.{hands_of}
use Rattle.ecp_sequencer.specs.Sequencers.{AreTies}
use Rattle.ecp_coord.specs.Coords.{AreNodeLogs}
use Rattle.ecp_coord.proofs.OpenLaws.{AreEmpty, of_history, of_nodes, of_ties}
use Rattle.ecp_cluster.proofs.opening.logs.begin.Goals as goal

nodes_are : (nodes logs : ℕ) (all firsts keepers : List Known) → 1 + nodes ≤ logs → length all ≡ logs → AreEmpty logs all → firsts ≡ take (1 + nodes) all → keepers ≡ drop 1 firsts
    → AreNodeLogs nodes keepers
nodes_are nodes logs all firsts keepers within size empty first is =
    subst (λ (ks : List Known). AreNodeLogs nodes ks) (sym (is ∙ ap (λ (ks : List Known). drop 1 ks) first)) (of_nodes nodes logs all size empty within)

pub new-requires-clause-can : goal.new-requires-clause-can
new-requires-clause-can g c =
    let nodes : ℕ = c.args.shape.nodes in
    let hands : ℕ = hands_of c.args.sessions c.args.hands in
    let logs : ℕ = logs_of g.N.Names.book in
    let total : logs ≡ 1 + nodes + 2 * hands = ap logs_of (sym c.requires.book) ∙ c.requires.can.logged in
    let all : List Known = c.in_ok-book.logs.items in
    let size : length all ≡ logs = omega (arith, c.in_ok-book.ensures.count, c.in_ok-book.logs.ok.0) in
    let empty : AreEmpty logs all = c.in_ok-book.ensures.empty in
    let firsts : c.split_off.new.self.items ≡ take (1 + nodes) all = c.in_ok-ties.ensures.items in
    let first : c.split_off-2.new.self.items ≡ take 1 (take (1 + nodes) all) = c.in_ok-keepers.ensures.items ∙ ap (λ (ks : List Known). take 1 ks) firsts in
    let ties : c.in_ok-ties.ties.items ≡ drop (1 + nodes) all = c.in_ok-ties.ensures.tail in
    let history : Known = c.swap_remove-history.result in
    let is : history ≡ get_or (take 1 (take (1 + nodes) all)) 0 history = c.swap_remove-history.ensures.value ∙ ap (λ (ks : List Known). get_or ks 0 history) first in
    let tied : length (drop (1 + nodes) all) ≡ 2 * hands = omega (arith, length-drop (1 + nodes) all, size, total) in
    record {
      range = c.requires.can.range;
      sliced = c.requires.can.sliced;
      called = (omega (arith, c.requires.can.called, c.requires.named), omega (arith, c.requires.can.called, c.requires.named));
      handed = (c.requires.named.2, c.requires.can.handed.0, c.requires.can.handed.1);
      first = c.tag-past.ensures.kept ∙ of_history nodes logs all history empty (omega (arith, total)) is;
      of_nodes = nodes_are nodes logs all c.split_off.new.self.items c.in_ok-keepers.keepers.items (omega (arith, total)) size empty firsts c.in_ok-keepers.ensures.tail;
      of_ties = subst (λ (ks : List Known). AreTies nodes 0 ks) (sym ties) (of_ties nodes logs all size empty);
      tied = ap (λ (ks : List Known). length ks) ties ∙ tied ∙ ap (λ (k : ℕ). 2 * hands_of k c.args.hands) c.requires.named.1;
    }

pub returns-clause-keepers : goal.returns-clause-keepers
returns-clause-keepers g c =
    let nodes : ℕ = c.args.shape.nodes in
    let hands : ℕ = hands_of c.args.sessions c.args.hands in
    let logs : ℕ = logs_of g.N.Names.book in
    let total : logs ≡ 1 + nodes + 2 * hands = ap logs_of (sym c.requires.book) ∙ c.requires.can.logged in
    let all : List Known = c.in_ok-book.logs.items in
    let size : length all ≡ logs = omega (arith, c.in_ok-book.ensures.count, c.in_ok-book.logs.ok.0) in
    let kept = nodes_are nodes logs all c.split_off.new.self.items c.in_ok-keepers.keepers.items (omega (arith, total)) size c.in_ok-book.ensures.empty c.in_ok-ties.ensures.items c.in_ok-keepers.ensures.tail in
    subst (λ (s : Shape). AreNodeLogs s.nodes c.new.new.nodes.items) c.requires.named.0 (subst (λ (ks : List Known). AreNodeLogs nodes ks) (sym c.in_ok-coord.ensures.nodes) kept)

pub returns-clause-past : goal.returns-clause-past
returns-clause-past g c =
    let nodes : ℕ = c.args.shape.nodes in
    let logs : ℕ = logs_of g.N.Names.book in
    let total : logs ≡ 1 + nodes + 2 * hands_of c.args.sessions c.args.hands = ap logs_of (sym c.requires.book) ∙ c.requires.can.logged in
    let all : List Known = c.in_ok-book.logs.items in
    let first : c.split_off-2.new.self.items ≡ take 1 (take (1 + nodes) all) = c.in_ok-keepers.ensures.items ∙ ap (λ (ks : List Known). take 1 ks) c.in_ok-ties.ensures.items in
    let history : Known = c.swap_remove-history.result in
    let is : history ≡ get_or (take 1 (take (1 + nodes) all)) 0 history = c.swap_remove-history.ensures.value ∙ ap (λ (ks : List Known). get_or ks 0 history) first in
    c.tag-past.ensures.tag ∙ of_history nodes logs all history c.in_ok-book.ensures.empty (omega (arith, total)) is
