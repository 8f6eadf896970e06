use Rattle.std.proofs.Common.{◌≡◌}
use Rattle.ecp_book.specs.Logs.{history_log}
use Rattle.ecp_service.proofs.RaiseLaws.{RaisedSo}
use Rattle.ecp_service.proofs.serving.raising.raise_each.Given as goal

-- the callers so far were raised
abbrev pub invariant-loop-caller : goal.invariant-loop-caller
invariant-loop-caller g l = record {
  log : l.front.log ≡ history_log;
  so : RaisedSo l.fn.front.items l.fn.callers l.caller-index l.callers l.front.items;
}
