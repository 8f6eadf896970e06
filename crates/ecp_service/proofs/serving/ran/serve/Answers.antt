use Rattle.std.proofs.Common.{◌∙◌, List, map, sym, ap, arith}
use Rattle.std.proofs.lemmas.Simd.{map-map}
use Rattle.ecp_command.specs.Input.Accepted.{session_view}
use Rattle.ecp_command.specs.Input.Calls.{SessionCalls}
use Rattle.ecp_command.specs.declared.input.session.Session.{Session}
use Rattle.ecp_service.proofs.serving.ran.serve.Goals as goal

pub returns-in-Ok-clause-run : goal.returns-in-Ok-clause-run
returns-in-Ok-clause-run g c =
    let sessions = c.args.input.sessions.items in
    record {
      callers = c.callers_for-callers.result;
      numbers_are = c.in-Ok-Ok.ensures' ∙ ap (λ (ss : List Session). map (λ s. s.number) ss) c.deref.ensures.value ∙ sym (map-map (λ (s : SessionCalls). s.number) session_view sessions);
      served = rw c.in-Ok.is at c.serve_on-run.ensures.served;
      back = omega (arith, c.serve_on-run.ensures.back, c.serve_on-run.result.1.ok, c.args.stores.ok);
      unused = c.serve_on-run.ensures.unused;
      printable = c.lines_fit.ensures;
    }
