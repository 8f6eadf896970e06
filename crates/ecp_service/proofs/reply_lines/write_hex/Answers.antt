use Rattle.std.proofs.Common.{◌≡◌, length, arith}
use Rattle.hex.specs.Hex.{encode_lower}
use Rattle.ecp_service.proofs.Sending.{underway_step, underway_fail, underway_end}
use Rattle.ecp_service.proofs.ReplyLines.{encode_split, encode_none}
use Rattle.ecp_service.proofs.reply_lines.write_hex.Goals as goal

pub returns-in_err-write : goal.returns-in_err-write
returns-in_err-write g c =
    let piece = c.split_at.result.0.now in
    let behind = c.split_at.result.1.now in
    let step = encode_split c.loop-rest.rest.now piece behind c.min.result c.split_at.ensures.front c.split_at.ensures.back in
    underway_fail g.W.Sink c.in_err-write.field-0.0 c.from_residual.result (c.args.out.now, c.args.buffer.now) (c.loop-rest.out, c.loop-rest.buffer) (c.write.new.sink, c.write.new.self)
    (encode_lower piece) (encode_lower behind) (encode_lower c.args.bytes.now) c.from_residual.ensures.0
    (rw step at c.loop-rest.invariant) (rw c.put_hex-end.ensures.text at c.in_err-write.ensures)

pub loop-rest-preserved : goal.loop-rest-preserved
loop-rest-preserved g c =
    let piece = c.split_at.result.0.now in
    let behind = c.split_at.result.1.now in
    let step = encode_split c.loop-rest.rest.now piece behind c.min.result c.split_at.ensures.front c.split_at.ensures.back in
    underway_step g.W.Sink c.in_ok-write.field-0 (c.args.out.now, c.args.buffer.now) (c.loop-rest.out, c.loop-rest.buffer) (c.write.new.sink, c.write.new.self)
    (encode_lower piece) (encode_lower behind) (encode_lower c.args.bytes.now)
    (rw step at c.loop-rest.invariant) (rw c.put_hex-end.ensures.text at c.in_ok-write.ensures)

pub returns : goal.returns
returns g c =
    let done : length c.loop-rest.rest.now ≡ 0 = grind arith in
    underway_end g.W.Sink tt (c.args.out.now, c.args.buffer.now) (c.loop-rest.out, c.loop-rest.buffer) (encode_lower c.args.bytes.now)
    (rw (encode_none c.loop-rest.rest.now done) at c.loop-rest.invariant)
