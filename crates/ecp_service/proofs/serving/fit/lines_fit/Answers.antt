use Rattle.std.proofs.Common.{◌^◌, ◌<◌, All, List, length, sym, subst, arith}
use Rattle.std.proofs.lemmas.List.{take_all}
use Rattle.std.proofs.lemmas.List.Elements.{All-more}
use Rattle.std.proofs.lemmas.Option.{get_or_from_slice_get}
use Rattle.ecp_entry.specs.JournalText.{line_numbers}
use Rattle.ecp_entry.specs.declared.line.Line.{Line}
use Rattle.ecp_service.proofs.serving.fit.lines_fit.Goals as goal

-- a line with such numbers
abbrev Fits : Line → Type 0
Fits line = All (λ n. n < 2 ^ 32) (line_numbers line)

pub loop-at-preserved : goal.loop-at-preserved
loop-at-preserved c =
    let lines : List Line = c.args.journal.now.lines in
    let line : Line = c.line.result.now in
    let within : c.loop-at.at < length lines = omega arith in
    All-more Fits lines c.loop-at.at line within c.loop-at.invariant
    (subst (λ (x : Line). Fits x) (sym (get_or_from_slice_get lines c.loop-at.at line line c.line.ensures)) c.line_fits.ensures)

pub returns : goal.returns
returns c =
    let lines : List Line = c.args.journal.now.lines in
    record {
      few = omega arith;
      small = subst (λ (xs : List Line). All Fits xs) (take_all c.loop-at.at lines (omega arith)) c.loop-at.invariant;
    }
