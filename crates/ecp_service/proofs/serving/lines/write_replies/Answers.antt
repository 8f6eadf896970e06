use Rattle.std.specs.Prelude.{flat_map}
use Rattle.ecp_service.specs.RunLines.{session_line}
use Rattle.ecp_service.specs.Served.{answer_line, answers_by}
use Rattle.ecp_service.proofs.Sending.{writes_first}
use Rattle.ecp_service.proofs.serving.lines.write_replies.Goals as goal

pub returns-in_err-write_session : goal.returns-in_err-write_session
returns-in_err-write_session g c =
    writes_first g.W.Sink c.in_err-write_session.field-0.0 c.from_residual.result (c.args.out.now, c.args.buffer.now) (c.write_session.new.out, c.write_session.new.buffer)
    (session_line c.args.number) (flat_map answer_line (answers_by c.args.replies.now c.args.number)) c.from_residual.ensures.0 c.in_err-write_session.ensures
