use Rattle.std.proofs.Common.{◌+◌, drop, get_or}
use Rattle.std.specs.Prelude.{flat_map}
use Rattle.ecp_service.specs.Served.{numbered_replies}
use Rattle.ecp_service.proofs.AnswerLines.{numbers_step}
use Rattle.ecp_service.proofs.Sending.{underway_step, underway_fail}
use Rattle.ecp_service.proofs.serving.lines.write_sessions.Goals as goal

pub returns-in_err-write_replies : goal.returns-in_err-write_replies
returns-in_err-write_replies g c =
    let numbers = c.args.numbers.now in
    let replies = c.args.replies.now in
    let at = c.loop-number.number-index in
    underway_fail g.W.Sink c.in_err-write_replies.field-0.0 c.from_residual.result (c.args.out.now, c.args.buffer.now) (c.loop-number.out, c.loop-number.buffer) (c.write_replies.new.out, c.write_replies.new.buffer)
    (numbered_replies replies (get_or numbers at 0)) (flat_map (numbered_replies replies) (drop (at + 1) numbers)) (flat_map (numbered_replies replies) numbers) c.from_residual.ensures.0
    (rw (numbers_step replies numbers at c.loop-number-test.true) at c.loop-number.invariant) c.in_err-write_replies.ensures

pub loop-number-preserved : goal.loop-number-preserved
loop-number-preserved g c =
    let numbers = c.args.numbers.now in
    let replies = c.args.replies.now in
    let at = c.loop-number.number-index in
    underway_step g.W.Sink c.in_ok-write_replies.field-0 (c.args.out.now, c.args.buffer.now) (c.loop-number.out, c.loop-number.buffer) (c.write_replies.new.out, c.write_replies.new.buffer)
    (numbered_replies replies (get_or numbers at 0)) (flat_map (numbered_replies replies) (drop (at + 1) numbers)) (flat_map (numbered_replies replies) numbers)
    (rw (numbers_step replies numbers at c.loop-number-test.true) at c.loop-number.invariant) c.in_ok-write_replies.ensures
