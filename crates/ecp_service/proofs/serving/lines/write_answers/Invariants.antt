use Rattle.std.proofs.Common.{drop}
use Rattle.std.specs.Prelude.{flat_map}
use Rattle.ecp_service.specs.Served.{answer_line}
use Rattle.ecp_service.proofs.Sending.{IsUnderway}
use Rattle.ecp_service.proofs.serving.lines.write_answers.Given as goal

-- what was written so far, and the replies that are left, are all replies
abbrev pub invariant-loop-answer : goal.invariant-loop-answer
invariant-loop-answer g l =
    IsUnderway g.W.Sink (l.fn.out, l.fn.buffer) (l.out, l.buffer) (flat_map answer_line (drop l.answer-index l.answers)) (flat_map answer_line l.answers)
