use Rattle.std.proofs.Common.{drop}
use Rattle.std.specs.Prelude.{flat_map}
use Rattle.ecp_service.specs.Served.{numbered_replies}
use Rattle.ecp_service.proofs.Sending.{IsUnderway}
use Rattle.ecp_service.proofs.serving.lines.write_sessions.Given as goal

-- what was written so far, and the replies of the sessions that are left, are all replies
abbrev pub invariant-loop-number : goal.invariant-loop-number
invariant-loop-number g l =
    IsUnderway g.W.Sink (l.fn.out, l.fn.buffer) (l.out, l.buffer) (flat_map (numbered_replies l.replies) (drop l.number-index l.numbers)) (flat_map (numbered_replies l.replies) l.numbers)
