use Rattle.std.proofs.Common.{◌≡◌}
use Rattle.ecp_book.specs.Logs.{history_log}
use Rattle.ecp_sequencer.proofs.RoundLaws.{RaisedTo}
use Rattle.ecp_coord.proofs.tests.spine.raise_all.Given as goal

abbrev pub invariant-loop-at : goal.invariant-loop-at
invariant-loop-at g l = record {
  front : l.front.log ≡ history_log;
  raised : RaisedTo l.fn.passes l.passes l.at;
}
