use Rattle.std.proofs.Common.{◌≡◌, List, ℕ, inr, refl, sym, ◌∙◌, subst}
use Rattle.ecp_command.specs.Input.Accepted.{MayRefuse}
use Rattle.ecp_command.specs.declared.words.commands.Command.TheVariants.{Check}
use Rattle.ecp_command.proofs.Inputs.Unique.{not_refused}
use Rattle.ecp_service.specs.Answers.{Only, IsCountOf}
use Rattle.ecp_service.specs.Stops.{code_of, refusal_code, IsReason}
use Rattle.ecp_service.specs.declared.stop.Stop.TheVariants as stop
use Rattle.ecp_service.proofs.Stopping.{left_of_two, refused_code, accepted_code, code_or_fault}
use Rattle.ecp_service.proofs.commands.checking.check.Goals as goal

pub returns-in-Ok-clause-told : goal.returns-in-Ok-clause-told
returns-in-Ok-clause-told g c = record {
  usage = λ none. absurd (none Check refl);
  too_long = λ told much. absurd (cc (c.in-Ok.is, c.accepted_line.ensures.too_long told much));
  refused = λ script told short sound r some may.
      let line = rw c.in-Ok.is at c.accepted_line.ensures.line in
      let count : IsCountOf line.bytes _ = rw line.asked at line.answer in
      absurd (not_refused line.bytes count.content r some count.accepted (subst (λ (bytes : List ℕ). MayRefuse bytes r) (sym (line.read.given told)) may));
}

pub returns-in-Ok-clause-taken : goal.returns-in-Ok-clause-taken
returns-in-Ok-clause-taken g c = record { few = c.accepted_line.ensures.few; untouched = λ none. absurd (none Check refl) }

pub returns-in-Err-clause-told : goal.returns-in-Err-clause-told
returns-in-Err-clause-told g c =
    let e = c.refuse.ensures in
    let s = g.R.Source in
    let why : IsReason s (Only Check) c.args.input.now c.accepted_line.new.input c.in-Err.stop = rw c.in-Err.is at c.accepted_line.ensures.err in
    record {
      usage = λ none. absurd (none Check refl);
      too_long = λ told much.
          let is : c.in-Err.stop ≡ stop.TooLong = cc (c.in-Err.is, c.accepted_line.ensures.too_long told much) in
          rw is at e.status;
      refused = λ script told short sound r some may.
          code_or_fault c.refuse.result (code_of c.in-Err.stop) (refusal_code r) e.status
          (refused_code s (Only Check) c.args.input.now c.accepted_line.new.input c.in-Err.stop r (λ none. none Check refl) why told short sound some may);
    }

pub returns-in-Err-clause-complete : goal.returns-in-Err-clause-complete
returns-in-Err-clause-complete g c command is told short takes none =
    let e = c.refuse.ensures in
    let accepted = rw is at takes in
    let why : IsReason g.R.Source (Only Check) c.args.input.now c.accepted_line.new.input c.in-Err.stop = rw c.in-Err.is at c.accepted_line.ensures.err in
    inr (left_of_two e.status (λ fault. none.diag (e.cut_short fault).failed)
    ∙ accepted_code g.R.Source (Only Check) c.args.input.now c.accepted_line.new.input c.in-Err.stop accepted.0 (λ none. none Check refl) why told short none.input accepted.1)
