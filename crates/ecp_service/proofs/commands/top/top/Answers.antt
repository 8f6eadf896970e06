use Rattle.std.proofs.Common.{refl, inl, inr, sym, subst, arith}
use Rattle.ecp_command.specs.Words.{texts}
use Rattle.ecp_command.specs.declared.words.commands.Command.{Command}
use Rattle.ecp_command.specs.declared.words.commands.Command.TheVariants.{Check, Mend, Run}
use Rattle.ecp_service.specs.Answers.{Asks, Only}
use Rattle.ecp_service.specs.Ends.{ends}
use Rattle.ecp_service.specs.Paid.{no_stores, storage}
use Rattle.ecp_service.proofs.Asked.{spelled_asked, no_script, script_spelled, told_asked, taken_asked, cut_asked, stopped_asked, mend_cut, check_cut}
use Rattle.ecp_service.proofs.commands.top.top.Goals as goal

pub returns-in-Some-Mend-clause-told : goal.returns-in-Some-Mend-clause-told
returns-in-Some-Mend-clause-told g c =
    let k = c.in-Some-Mend.k in
    let n = c.in-Some-Mend.n in
    let row = c.in-Some-Mend.row in
    let is = rw c.in-Some-Mend.field-0-is at c.in-Some-Mend.ensures.some in
    told_asked g.R.Source g.W.Sink g.E.Sink (Only (Mend k n row)) (Asks (texts c.args.words.now)) c.args.input.now c.mend.new.input c.mend.result
    (λ none. absurd (none (Mend k n row) is)) (λ script. absurd (no_script (texts c.args.words.now) k n row script is)) c.mend.ensures.told

pub returns-in-Some-Mend-clause-taken : goal.returns-in-Some-Mend-clause-taken
returns-in-Some-Mend-clause-taken g c =
    let k = c.in-Some-Mend.k in
    let n = c.in-Some-Mend.n in
    let row = c.in-Some-Mend.row in
    let is = rw c.in-Some-Mend.field-0-is at c.in-Some-Mend.ensures.some in
    taken_asked g.R.Source g.W.Sink g.E.Sink (Only (Mend k n row)) (Asks (texts c.args.words.now)) c.args.input.now c.mend.new.input
    (λ none. absurd (none (Mend k n row) is)) c.mend.ensures.taken

pub returns-in-Some-Mend-clause-cut_short : goal.returns-in-Some-Mend-clause-cut_short
returns-in-Some-Mend-clause-cut_short g c cut =
    let is = rw c.in-Some-Mend.field-0-is at c.in-Some-Mend.ensures.some in
    mend_cut g.R.Source g.W.Sink g.E.Sink (Asks (texts c.args.words.now)) c.in-Some-Mend.k c.in-Some-Mend.n c.in-Some-Mend.row no_stores
    (storage g.S.Store.tells g.S.Store.faults g.S.Store.faultless c.args.stores.items c.args.stores.items)
    (ends c.args.input.now c.args.out.now c.args.diag.now) (ends c.mend.new.input c.mend.new.out c.mend.new.diag) is (c.mend.ensures.cut_short cut)

pub returns-in-Some-Mend-clause-complete : goal.returns-in-Some-Mend-clause-complete
returns-in-Some-Mend-clause-complete g c command asks told short takes none =
    c.mend.ensures.complete (Mend c.in-Some-Mend.k c.in-Some-Mend.n c.in-Some-Mend.row) refl told short tt none

pub returns-in-Some-Run-clause-stopped : goal.returns-in-Some-Run-clause-stopped
returns-in-Some-Run-clause-stopped g c undone unfailed =
    let is : Asks (texts c.args.words.now) Run = rw c.in-Some-Run.field-0-is at c.in-Some-Run.ensures.some in
    stopped_asked g.R.Source g.W.Sink g.E.Sink (Only Run) (Asks (texts c.args.words.now)) (ends c.args.input.now c.args.out.now c.args.diag.now) (ends c.run.new.input c.run.new.out c.run.new.diag) c.run.result.0
    (λ command only. subst (λ (x : Command). Asks (texts c.args.words.now) x) (sym only) is) (λ none. absurd (none Run refl)) (c.run.ensures.stopped undone unfailed)

pub returns-in-Some-Run-clause-cut_short : goal.returns-in-Some-Run-clause-cut_short
returns-in-Some-Run-clause-cut_short g c cut =
    let is : Asks (texts c.args.words.now) Run = rw c.in-Some-Run.field-0-is at c.in-Some-Run.ensures.some in
    cut_asked g.R.Source g.W.Sink g.E.Sink (Only Run) (Asks (texts c.args.words.now)) (storage g.S.Store.tells g.S.Store.faults g.S.Store.faultless c.args.stores.items c.run.result.1.items) (ends c.args.input.now c.args.out.now c.args.diag.now) (ends c.run.new.input c.run.new.out c.run.new.diag)
    (λ command only. subst (λ (x : Command). Asks (texts c.args.words.now) x) (sym only) is) (λ none. absurd (none Run refl)) (c.run.ensures.cut_short cut)

pub returns-in-Some-Run-clause-told : goal.returns-in-Some-Run-clause-told
returns-in-Some-Run-clause-told g c =
    let is = rw c.in-Some-Run.field-0-is at c.in-Some-Run.ensures.some in
    told_asked g.R.Source g.W.Sink g.E.Sink (Only Run) (Asks (texts c.args.words.now)) c.args.input.now c.run.new.input c.run.result.0
    (λ none. absurd (none Run is)) (λ script. inl refl) c.run.ensures.told

pub returns-in-Some-Run-clause-taken : goal.returns-in-Some-Run-clause-taken
returns-in-Some-Run-clause-taken g c =
    let is = rw c.in-Some-Run.field-0-is at c.in-Some-Run.ensures.some in
    taken_asked g.R.Source g.W.Sink g.E.Sink (Only Run) (Asks (texts c.args.words.now)) c.args.input.now c.run.new.input
    (λ none. absurd (none Run is)) c.run.ensures.taken

pub returns-in-None-clause-told : goal.returns-in-None-clause-told
returns-in-None-clause-told g c = record {
  usage = λ none. c.refuse-in-None.ensures.status;
  too_long = λ told much. absurd (omega (arith, much told));
  refused = λ script told short sound r some may.
      let spelled = script_spelled (texts c.args.words.now) script in
      absurd (c.in-None.ensures.none spelled.0 spelled.1);
}

pub returns-in-None-clause-complete : goal.returns-in-None-clause-complete
returns-in-None-clause-complete g c command asks told short takes none = absurd (c.in-None.ensures.none command (spelled_asked _ command asks))

pub returns-in-Some-Check-clause-stopped : goal.returns-in-Some-Check-clause-stopped
returns-in-Some-Check-clause-stopped g c undone unfailed =
    let is : Asks (texts c.args.words.now) Check = rw c.in-Some-Check.field-0-is at c.in-Some-Check.ensures.some in
    stopped_asked g.R.Source g.W.Sink g.E.Sink (Only Check) (Asks (texts c.args.words.now)) (ends c.args.input.now c.args.out.now c.args.diag.now) (ends c.check.new.input c.check.new.out c.check.new.diag) c.check.result
    (λ command only. subst (λ (x : Command). Asks (texts c.args.words.now) x) (sym only) is) (λ none. absurd (none Check refl)) (c.check.ensures.stopped undone unfailed)

pub returns-in-Some-Check-clause-cut_short : goal.returns-in-Some-Check-clause-cut_short
returns-in-Some-Check-clause-cut_short g c cut =
    let is : Asks (texts c.args.words.now) Check = rw c.in-Some-Check.field-0-is at c.in-Some-Check.ensures.some in
    check_cut g.R.Source g.W.Sink g.E.Sink (Asks (texts c.args.words.now)) no_stores
    (storage g.S.Store.tells g.S.Store.faults g.S.Store.faultless c.args.stores.items c.args.stores.items)
    (ends c.args.input.now c.args.out.now c.args.diag.now) (ends c.check.new.input c.check.new.out c.check.new.diag) is (c.check.ensures.cut_short cut)

pub returns-in-Some-Check-clause-told : goal.returns-in-Some-Check-clause-told
returns-in-Some-Check-clause-told g c =
    let is = rw c.in-Some-Check.field-0-is at c.in-Some-Check.ensures.some in
    told_asked g.R.Source g.W.Sink g.E.Sink (Only Check) (Asks (texts c.args.words.now)) c.args.input.now c.check.new.input c.check.result
    (λ none. absurd (none Check is)) (λ script. inr refl) c.check.ensures.told

pub returns-in-Some-Check-clause-taken : goal.returns-in-Some-Check-clause-taken
returns-in-Some-Check-clause-taken g c =
    let is = rw c.in-Some-Check.field-0-is at c.in-Some-Check.ensures.some in
    taken_asked g.R.Source g.W.Sink g.E.Sink (Only Check) (Asks (texts c.args.words.now)) c.args.input.now c.check.new.input
    (λ none. absurd (none Check is)) c.check.ensures.taken
