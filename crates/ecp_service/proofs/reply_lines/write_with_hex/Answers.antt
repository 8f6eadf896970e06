use Rattle.std.proofs.Common.{◌++◌, [], ◌∷◌}
use Rattle.hex.specs.Hex.{encode_lower}
use Rattle.ecp_entry.specs.ReplyText.{reply_start}
use Rattle.ecp_service.proofs.Sending.{writes_first, writes_then}
use Rattle.ecp_service.proofs.reply_lines.write_with_hex.Goals as goal

pub returns-in_err-write_start : goal.returns-in_err-write_start
returns-in_err-write_start g c =
    writes_first g.W.Sink c.in_err-write_start.field-0.0 c.from_residual.result (c.args.out.now, c.args.buffer.now) (c.write_start.new.out, c.write_start.new.buffer)
    (reply_start c.args.reply.now) (encode_lower c.args.bytes.now ++ 10 ∷ []) c.from_residual.ensures.0 c.in_err-write_start.ensures

pub returns-in_err-write_hex : goal.returns-in_err-write_hex
returns-in_err-write_hex g c =
    let hex = encode_lower c.args.bytes.now in
    writes_then g.W.Sink c.in_ok-write_start.field-0 c.from_residual-in_err-write_hex.result (c.args.out.now, c.args.buffer.now) (c.write_start.new.out, c.write_start.new.buffer)
    (c.write_hex.new.out, c.write_hex.new.buffer) (reply_start c.args.reply.now) (hex ++ 10 ∷ []) c.in_ok-write_start.ensures
    (writes_first g.W.Sink c.in_err-write_hex.field-0.0 c.from_residual-in_err-write_hex.result (c.write_start.new.out, c.write_start.new.buffer) (c.write_hex.new.out, c.write_hex.new.buffer)
    hex (10 ∷ []) c.from_residual-in_err-write_hex.ensures.0 c.in_err-write_hex.ensures)

pub returns : goal.returns
returns g c =
    let hex = encode_lower c.args.bytes.now in
    writes_then g.W.Sink c.in_ok-write_start.field-0 c.write.result (c.args.out.now, c.args.buffer.now) (c.write_start.new.out, c.write_start.new.buffer)
    (c.write.new.sink, c.write.new.self) (reply_start c.args.reply.now) (hex ++ 10 ∷ []) c.in_ok-write_start.ensures
    (writes_then g.W.Sink c.in_ok-write_hex.field-0 c.write.result (c.write_start.new.out, c.write_start.new.buffer) (c.write_hex.new.out, c.write_hex.new.buffer)
    (c.write.new.sink, c.write.new.self) hex (10 ∷ []) c.in_ok-write_hex.ensures c.write.ensures)
