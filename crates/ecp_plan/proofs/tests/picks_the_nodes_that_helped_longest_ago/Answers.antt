use Rattle.std.proofs.Common.{◌<◌, ℕ, [], ◌∷◌, arith}
use Rattle.std.proofs.lemmas.List.Elements.{All-nil, All-cons}
use Rattle.ecp_code.proofs.WeightLaws.{range-distinct}
use Rattle.ecp_plan.specs.declared.live_row.LiveRow.{LiveRow}
use Rattle.ecp_plan.proofs.tests.picks_the_nodes_that_helped_longest_ago.Goals as goal

abbrev on : ℕ → LiveRow
on n = record { row = n; node = n }

abbrev IsOneOfFour : LiveRow → Type 0
IsOneOfFour x = x.node < 4

pub pick-requires-clause-rows : goal.pick-requires-clause-rows
pick-requires-clause-rows g c = range-distinct 1 3

pub pick-requires-clause-nodes : goal.pick-requires-clause-nodes
pick-requires-clause-nodes g c = range-distinct 1 3

pub pick-requires-clause-stamped : goal.pick-requires-clause-stamped
pick-requires-clause-stamped g c =
    All-cons IsOneOfFour (on 1) (on 2 ∷ on 3 ∷ []) (omega arith)
    (All-cons IsOneOfFour (on 2) (on 3 ∷ []) (omega arith) (All-cons IsOneOfFour (on 3) [] (omega arith) (All-nil IsOneOfFour)))
