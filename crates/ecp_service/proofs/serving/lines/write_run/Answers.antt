use Rattle.std.proofs.Common.{◌++◌, List, ℕ, Ok, Err, refl}
use Rattle.std.specs.Prelude.{codes, flat_map}
use Rattle.ecp_service.specs.RunLines.{count_line, lines_from}
use Rattle.ecp_service.specs.Served.{numbered_replies}
use Rattle.ecp_service.proofs.Sending.{writes_first, writes_then, writes_part, delivered}
use Rattle.ecp_service.proofs.serving.lines.write_run.Goals as goal

pub returns-in_err-write_sessions : goal.returns-in_err-write_sessions
returns-in_err-write_sessions g c =
    let lines = c.args.journal.now.lines in
    let answers : List ℕ = flat_map (numbered_replies c.args.replies.now) c.args.numbers.now in
    let history : List ℕ = count_line lines ++ (lines_from 0 lines ++ codes "end\n") in
    let old : g.row.W.Denot × List ℕ = (c.args.out.now, c.args.buffer) in
    let new : g.row.W.Denot × List ℕ = (c.write_sessions.new.out, c.write_sessions.new.buffer) in
    writes_part g.W.Sink c.in_err-write_sessions.field-0.0 c.from_residual.result c.args.out.now new (answers ++ history) c.from_residual.ensures.0
    (rw c.requires at (writes_first g.W.Sink c.in_err-write_sessions.field-0.0 (Err c.in_err-write_sessions.field-0.0) old new answers history refl c.in_err-write_sessions.ensures))

pub returns-in_err-write_history : goal.returns-in_err-write_history
returns-in_err-write_history g c =
    let lines = c.args.journal.now.lines in
    let answers : List ℕ = flat_map (numbered_replies c.args.replies.now) c.args.numbers.now in
    let history : List ℕ = count_line lines ++ (lines_from 0 lines ++ codes "end\n") in
    let old : g.row.W.Denot × List ℕ = (c.args.out.now, c.args.buffer) in
    let mid : g.row.W.Denot × List ℕ = (c.write_sessions.new.out, c.write_sessions.new.buffer) in
    let new : g.row.W.Denot × List ℕ = (c.write_history.new.out, c.write_history.new.buffer) in
    writes_part g.W.Sink c.in_err-write_history.field-0.0 c.from_residual-in_err-write_history.result c.args.out.now new (answers ++ history) c.from_residual-in_err-write_history.ensures.0
    (rw c.requires at (writes_then g.W.Sink c.in_ok-write_sessions.field-0 (Err c.in_err-write_history.field-0.0) old mid new answers history
    c.in_ok-write_sessions.ensures c.in_err-write_history.ensures))

pub returns : goal.returns
returns g c =
    let lines = c.args.journal.now.lines in
    let answers : List ℕ = flat_map (numbered_replies c.args.replies.now) c.args.numbers.now in
    let history : List ℕ = count_line lines ++ (lines_from 0 lines ++ codes "end\n") in
    let old : g.row.W.Denot × List ℕ = (c.args.out.now, c.args.buffer) in
    let mid : g.row.W.Denot × List ℕ = (c.write_sessions.new.out, c.write_sessions.new.buffer) in
    let end : g.row.W.Denot × List ℕ = (c.write_history.new.out, c.write_history.new.buffer) in
    delivered g.W.Sink c.in_ok-write_history.field-0 c.finish.result c.args.out.now end c.finish.new.sink (answers ++ history)
    (rw c.requires at (writes_then g.W.Sink c.in_ok-write_sessions.field-0 (Ok c.in_ok-write_history.field-0) old mid end answers history
    c.in_ok-write_sessions.ensures c.in_ok-write_history.ensures)) c.finish.ensures
