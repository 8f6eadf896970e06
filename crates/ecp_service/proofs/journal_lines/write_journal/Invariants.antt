use Rattle.std.proofs.Common.{drop}
use Rattle.ecp_service.specs.RunLines.{lines_from}
use Rattle.ecp_service.proofs.Sending.{IsUnderway}
use Rattle.ecp_service.proofs.journal_lines.write_journal.Given as goal

-- what was written so far, and the lines that are left, are all lines
abbrev pub invariant-loop-at : goal.invariant-loop-at
invariant-loop-at g l =
    IsUnderway g.W.Sink (l.fn.out, l.fn.buffer) (l.out, l.buffer) (lines_from l.at (drop l.at l.journal.lines)) (lines_from 0 l.journal.lines)
