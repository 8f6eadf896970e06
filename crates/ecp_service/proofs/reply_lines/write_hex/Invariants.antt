use Rattle.std.proofs.Common.{length}
use Rattle.hex.specs.Hex.{encode_lower}
use Rattle.ecp_service.proofs.Sending.{IsUnderway}
use Rattle.ecp_service.proofs.reply_lines.write_hex.Given as goal

-- what was written so far, and the rest of the bytes, are all bytes
abbrev pub invariant-loop-rest : goal.invariant-loop-rest
invariant-loop-rest g l = IsUnderway g.W.Sink (l.fn.out, l.fn.buffer) (l.out, l.buffer) (encode_lower l.rest) (encode_lower l.fn.bytes)

abbrev pub decreases-loop-rest : goal.decreases-loop-rest
decreases-loop-rest g l = length l.rest
