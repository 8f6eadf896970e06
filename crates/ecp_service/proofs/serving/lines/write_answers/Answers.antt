use Rattle.std.proofs.Common.{◌+◌, drop}
use Rattle.std.specs.Prelude.{flat_map}
use Rattle.ecp_service.specs.Served.{answer_line}
use Rattle.ecp_service.proofs.AnswerLines.{answers_step}
use Rattle.ecp_service.proofs.Sending.{underway_step, underway_fail}
use Rattle.ecp_service.proofs.serving.lines.write_answers.Goals as goal

pub returns-in_err-write_answer : goal.returns-in_err-write_answer
returns-in_err-write_answer g c =
    let answers = c.args.answers.now in
    let at = c.loop-answer.answer-index in
    underway_fail g.W.Sink c.in_err-write_answer.field-0.0 c.from_residual.result (c.args.out.now, c.args.buffer.now) (c.loop-answer.out, c.loop-answer.buffer) (c.write_answer.new.out, c.write_answer.new.buffer)
    (answer_line c.answer-item.result) (flat_map answer_line (drop (at + 1) answers)) (flat_map answer_line answers) c.from_residual.ensures.0
    (rw (answers_step answers at c.answer-item.result c.loop-answer-test.true c.answer-item.is) at c.loop-answer.invariant) c.in_err-write_answer.ensures

pub loop-answer-preserved : goal.loop-answer-preserved
loop-answer-preserved g c =
    let answers = c.args.answers.now in
    let at = c.loop-answer.answer-index in
    underway_step g.W.Sink c.in_ok-write_answer.field-0 (c.args.out.now, c.args.buffer.now) (c.loop-answer.out, c.loop-answer.buffer) (c.write_answer.new.out, c.write_answer.new.buffer)
    (answer_line c.answer-item.result) (flat_map answer_line (drop (at + 1) answers)) (flat_map answer_line answers)
    (rw (answers_step answers at c.answer-item.result c.loop-answer-test.true c.answer-item.is) at c.loop-answer.invariant) c.in_ok-write_answer.ensures
