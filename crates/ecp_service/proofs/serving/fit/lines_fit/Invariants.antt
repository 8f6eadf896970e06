use Rattle.std.proofs.Common.{◌^◌, ◌<◌, All, take}
use Rattle.ecp_entry.specs.JournalText.{line_numbers}
use Rattle.ecp_service.proofs.serving.fit.lines_fit.Given as goal

-- the lines so far have such numbers
abbrev pub invariant-loop-at : goal.invariant-loop-at
invariant-loop-at l = All (λ line. All (λ n. n < 2 ^ 32) (line_numbers line)) (take l.at l.journal.lines)
