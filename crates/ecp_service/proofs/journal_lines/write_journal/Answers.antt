use Rattle.std.proofs.Common.{◌+◌, drop}
use Rattle.ecp_entry.specs.JournalText.{journal_line}
use Rattle.ecp_service.specs.RunLines.{lines_from}
use Rattle.ecp_service.proofs.Sending.{underway_step, underway_fail}
use Rattle.ecp_service.proofs.JournalLines.{lines_step}
use Rattle.ecp_service.proofs.journal_lines.write_journal.Goals as goal

pub returns-in_err-write : goal.returns-in_err-write
returns-in_err-write g c =
    let lines = c.args.journal.now.lines in
    underway_fail g.W.Sink c.in_err-write.field-0.0 c.from_residual.result (c.args.out.now, c.args.buffer.now) (c.loop-at.out, c.loop-at.buffer) (c.write.new.sink, c.write.new.self)
    (journal_line c.loop-at.at c.line.result.now) (lines_from (c.loop-at.at + 1) (drop (c.loop-at.at + 1) lines)) (lines_from 0 lines) c.from_residual.ensures.0
    (rw (lines_step lines c.loop-at.at c.line.result.now c.line.ensures) at c.loop-at.invariant) (rw (c.bytes.ensures.bytes, c.put_line.ensures.text, c.clear.ensures) at c.in_err-write.ensures)

pub loop-at-preserved : goal.loop-at-preserved
loop-at-preserved g c =
    let lines = c.args.journal.now.lines in
    underway_step g.W.Sink c.in_ok-write.field-0 (c.args.out.now, c.args.buffer.now) (c.loop-at.out, c.loop-at.buffer) (c.write.new.sink, c.write.new.self)
    (journal_line c.loop-at.at c.line.result.now) (lines_from (c.loop-at.at + 1) (drop (c.loop-at.at + 1) lines)) (lines_from 0 lines)
    (rw (lines_step lines c.loop-at.at c.line.result.now c.line.ensures) at c.loop-at.invariant) (rw (c.bytes.ensures.bytes, c.put_line.ensures.text, c.clear.ensures) at c.in_ok-write.ensures)
