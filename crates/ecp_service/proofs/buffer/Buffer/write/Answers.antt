use Rattle.std.proofs.Common.{[]}
use Rattle.ecp_service.proofs.Sending.{writes_first}
use Rattle.ecp_service.proofs.buffer.Buffer.write.Goals as goal

pub returns-in_err-send : goal.returns-in_err-send
returns-in_err-send g c =
    writes_first g.W.Sink c.in_err-send.field-0.0 c.from_residual.result (c.args.sink.now, c.args.self.now) (c.send.new.sink, c.send.new.self) [] c.args.text.now
    c.from_residual.ensures.0 c.in_err-send.ensures.sends
