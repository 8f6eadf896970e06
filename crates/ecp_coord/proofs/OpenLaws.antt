-- The logs of a new book, divided: the history's, those of the nodes, and those of the ties.
use Rattle.std.proofs.Common.{◌≡◌, ℕ, ◌+◌, ◌<◌, ◌≤◌, List, length, take, drop, get_or, Some, ◌∙◌, ap, arith, length-drop, length-take, get_or-take, get_or-drop}
use Rattle.std.specs.Prelude.{slice_get}
use Rattle.std.proofs.lemmas.Option.{slice_get-get_or, get_or_from_slice_get}
use Rattle.ecp_book.specs.Logs.{Known, empty_log, history_log, node_log}
use Rattle.ecp_sequencer.specs.Hands.{spoken_log}
use Rattle.ecp_sequencer.specs.Sequencers.{AreTies}
use Rattle.ecp_coord.specs.Coords.{AreNodeLogs}

-- these are the keepers of so many logs, in their order, and each is empty
abbrev pub AreEmpty : ℕ → List Known → Type 0
AreEmpty logs keepers = (m : ℕ) → m < logs → slice_get keepers m ≡ Some (empty_log m)

at_place : (logs m : ℕ) (keepers : List Known) (k : Known) → AreEmpty logs keepers → m < logs → get_or keepers m k ≡ empty_log m
at_place logs m keepers k empty within = get_or_from_slice_get keepers m (empty_log m) k (empty m within)

pub of_history : (nodes logs : ℕ) (keepers : List Known) (history : Known) → AreEmpty logs keepers → 1 ≤ logs
    → history ≡ get_or (take 1 (take (1 + nodes) keepers)) 0 history → history ≡ empty_log history_log
of_history nodes logs keepers history empty some is =
    is ∙ get_or-take 1 (take (1 + nodes) keepers) 0 history (omega arith) ∙ get_or-take (1 + nodes) keepers 0 history (omega arith) ∙ at_place logs 0 keepers history empty some

pub of_nodes : (nodes logs : ℕ) (keepers : List Known) → length keepers ≡ logs → AreEmpty logs keepers → 1 + nodes ≤ logs → AreNodeLogs nodes (drop 1 (take (1 + nodes) keepers))
of_nodes nodes logs keepers size empty within =
    let firsts : List Known = take (1 + nodes) keepers in
    record {
      each = omega (arith, length-drop 1 firsts, length-take (1 + nodes) keepers, size, within);
      empty = λ m k below.
          let place : 1 + m ≡ node_log m = omega arith in
          get_or-drop 1 firsts m k ∙ get_or-take (1 + nodes) keepers (1 + m) k (omega (arith, below)) ∙ at_place logs (1 + m) keepers k empty (omega (arith, below, within)) ∙ ap empty_log place;
    }

pub of_ties : (nodes logs : ℕ) (keepers : List Known) → length keepers ≡ logs → AreEmpty logs keepers → AreTies nodes 0 (drop (1 + nodes) keepers)
of_ties nodes logs keepers size empty = λ m lt.
    let within : 1 + nodes + m < logs = omega (arith, lt, length-drop (1 + nodes) keepers, size) in
    let place : 1 + nodes + m ≡ spoken_log nodes 0 + m = omega arith in
    slice_get-get_or (drop (1 + nodes) keepers) m (empty_log 0) lt
    ∙ ap (λ (k : Known). Some k) (get_or-drop (1 + nodes) keepers m (empty_log 0) ∙ at_place logs (1 + nodes + m) keepers (empty_log 0) empty within ∙ ap empty_log place)
