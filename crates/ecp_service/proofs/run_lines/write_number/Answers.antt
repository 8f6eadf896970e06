use Rattle.std.proofs.Common.{◌++◌, [], ◌∷◌, decimal}
use Rattle.ecp_service.proofs.Sending.{writes_first, writes_then}
use Rattle.ecp_service.proofs.run_lines.write_number.Goals as goal

pub returns-in_err-write : goal.returns-in_err-write
returns-in_err-write g c =
    writes_first g.W.Sink c.in_err-write.field-0.0 c.from_residual.result (c.args.out.now, c.args.buffer.now) (c.write.new.sink, c.write.new.self)
    c.args.word.now (decimal c.args.number ++ 10 ∷ []) c.from_residual.ensures.0 c.in_err-write.ensures

pub returns-in_err-write-2 : goal.returns-in_err-write-2
returns-in_err-write-2 g c =
    let number = decimal c.args.number in
    writes_then g.W.Sink c.in_ok-write.field-0 c.from_residual-in_err-write-2.result (c.args.out.now, c.args.buffer.now) (c.write.new.sink, c.write.new.self) (c.write-2.new.sink, c.write-2.new.self)
    c.args.word.now (number ++ 10 ∷ []) c.in_ok-write.ensures
    (writes_first g.W.Sink c.in_err-write-2.field-0.0 c.from_residual-in_err-write-2.result (c.write.new.sink, c.write.new.self) (c.write-2.new.sink, c.write-2.new.self)
    number (10 ∷ []) c.from_residual-in_err-write-2.ensures.0 (rw (c.as_bytes.ensures.value, c.format.ensures.text) at c.in_err-write-2.ensures))

pub returns : goal.returns
returns g c =
    let number = decimal c.args.number in
    writes_then g.W.Sink c.in_ok-write.field-0 c.write-3.result (c.args.out.now, c.args.buffer.now) (c.write.new.sink, c.write.new.self) (c.write-3.new.sink, c.write-3.new.self)
    c.args.word.now (number ++ 10 ∷ []) c.in_ok-write.ensures
    (writes_then g.W.Sink c.in_ok-write-2.field-0 c.write-3.result (c.write.new.sink, c.write.new.self) (c.write-2.new.sink, c.write-2.new.self) (c.write-3.new.sink, c.write-3.new.self)
    number (10 ∷ []) (rw (c.as_bytes.ensures.value, c.format.ensures.text) at c.in_ok-write-2.ensures) c.write-3.ensures)
