use Rattle.ecp_service.proofs.Sending.{sent_err}
use Rattle.ecp_service.proofs.buffer.Buffer.send.Goals as goal

pub returns-in_err-push_all-clause-sends : goal.returns-in_err-push_all-clause-sends
returns-in_err-push_all-clause-sends g c =
    sent_err g.W.Sink c.in_err-push_all.field-0.0 c.from_residual.result c.args.sink.now c.push_all.new.sink c.args.self.now c.args.self.now c.from_residual.ensures.0
    (rw (← c.self.view_is) (rw c.deref.ensures.value at c.in_err-push_all.ensures))
