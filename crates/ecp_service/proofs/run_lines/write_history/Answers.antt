use Rattle.std.proofs.Common.{◌++◌}
use Rattle.std.specs.Prelude.{codes}
use Rattle.ecp_service.specs.RunLines.{count_line, lines_from}
use Rattle.ecp_service.proofs.Sending.{writes_first, writes_then}
use Rattle.ecp_service.proofs.run_lines.write_history.Goals as goal

pub returns-in_err-write_number : goal.returns-in_err-write_number
returns-in_err-write_number g c =
    let lines = c.args.journal.now.lines in
    writes_first g.W.Sink c.in_err-write_number.field-0.0 c.from_residual.result (c.args.out.now, c.args.buffer.now) (c.write_number.new.out, c.write_number.new.buffer)
    (count_line lines) (lines_from 0 lines ++ codes "end\n") c.from_residual.ensures.0 (rw c.len.ensures at c.in_err-write_number.ensures)

pub returns-in_err-write_journal : goal.returns-in_err-write_journal
returns-in_err-write_journal g c =
    let lines = c.args.journal.now.lines in
    writes_then g.W.Sink c.in_ok-write_number.field-0 c.from_residual-in_err-write_journal.result (c.args.out.now, c.args.buffer.now) (c.write_number.new.out, c.write_number.new.buffer)
    (c.write_journal.new.out, c.write_journal.new.buffer)
    (count_line lines) (lines_from 0 lines ++ codes "end\n") (rw c.len.ensures at c.in_ok-write_number.ensures)
    (writes_first g.W.Sink c.in_err-write_journal.field-0.0 c.from_residual-in_err-write_journal.result (c.write_number.new.out, c.write_number.new.buffer) (c.write_journal.new.out, c.write_journal.new.buffer)
    (lines_from 0 lines) (codes "end\n") c.from_residual-in_err-write_journal.ensures.0 c.in_err-write_journal.ensures)

pub returns : goal.returns
returns g c =
    let lines = c.args.journal.now.lines in
    writes_then g.W.Sink c.in_ok-write_number.field-0 c.write.result (c.args.out.now, c.args.buffer.now) (c.write_number.new.out, c.write_number.new.buffer)
    (c.write.new.sink, c.write.new.self)
    (count_line lines) (lines_from 0 lines ++ codes "end\n") (rw c.len.ensures at c.in_ok-write_number.ensures)
    (writes_then g.W.Sink c.in_ok-write_journal.field-0 c.write.result (c.write_number.new.out, c.write_number.new.buffer) (c.write_journal.new.out, c.write_journal.new.buffer)
    (c.write.new.sink, c.write.new.self) (lines_from 0 lines) (codes "end\n") c.in_ok-write_journal.ensures c.write.ensures)
