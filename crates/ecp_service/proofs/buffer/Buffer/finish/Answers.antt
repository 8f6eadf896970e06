use Rattle.ecp_service.proofs.Sending.{pending_part, flushed_pending}
use Rattle.ecp_service.proofs.buffer.Buffer.finish.Goals as goal

pub returns-in_err-send : goal.returns-in_err-send
returns-in_err-send g c =
    pending_part g.W.Sink c.in_err-send.field-0.0 c.from_residual.result c.args.sink.now c.args.self (c.send.new.sink, c.send.new.self)
    c.from_residual.ensures.0 c.in_err-send.ensures.sends

pub returns : goal.returns
returns g c =
    let e = c.flush.ensures in
    flushed_pending g.W.Sink c.in_ok-send.field-0 c.flush.result c.args.sink.now c.args.self (c.send.new.sink, c.send.new.self) c.flush.new.self
    c.in_ok-send.ensures.empty c.in_ok-send.ensures.sends e.all e.appended e.kept e.cause
