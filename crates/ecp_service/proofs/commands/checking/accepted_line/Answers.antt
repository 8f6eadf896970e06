use Rattle.std.proofs.Common.{◌≡◌, ◌<◌, ◌^◌, ℕ, List, [], ◌∷◌, ◌++◌, length, map, refl, sym, ◌∙◌, ap, subst, arith, append_assoc}
use Rattle.std.specs.Prelude.{codes, decimal, sum_by}
use Rattle.ecp_command.specs.Input.Accepted.{session_view, view}
use Rattle.ecp_command.specs.Input.Calls.{call_count}
use Rattle.ecp_command.specs.declared.input.session.Session.{Session}
use Rattle.ecp_command.specs.declared.words.commands.Command.TheVariants.{Check}
use Rattle.ecp_command.proofs.Inputs.Counting.{few_calls, count_viewed}
use Rattle.ecp_service.proofs.commands.checking.accepted_line.Goals as goal

pub call_count-requires : goal.call_count-requires
call_count-requires g c =
    let sessions = c.in_ok-script.script.sessions.items in
    let read = c.in_ok-script.ensures.read in
    let few = few_calls read.bytes (view c.in_ok-script.script) read.accepted in
    record {
      few = subst (λ (ss : List Session). sum_by (λ s. length s.calls.items) ss < 2 ^ 32) (sym c.deref.ensures.value) (omega (arith, few, count_viewed sessions));
    }

pub returns-clause-line : goal.returns-clause-line
returns-clause-line g c =
    let sessions = c.in_ok-script.script.sessions.items in
    let read = c.in_ok-script.ensures.read in
    let calls = call_count (map session_view sessions) in
    let count : c.call_count.result ≡ calls = c.call_count.ensures ∙ ap (λ (ss : List Session). sum_by (λ s. length s.calls.items) ss) c.deref.ensures.value ∙ count_viewed sessions in
    let word : c.put.new.self ≡ codes "accepted " = c.put.ensures.bytes ∙ ap (λ (t : List ℕ). t ++ codes "accepted ") c.new-line.ensures in
    let digits : c.put_digits.new.self ≡ codes "accepted " ++ decimal calls =
    c.put_digits.ensures.text ∙ ap (λ (t : List ℕ). t ++ decimal c.call_count.result) word ∙ ap (λ (n : ℕ). codes "accepted " ++ decimal n) count in
    record {
      bytes = read.bytes;
      read = read.read;
      command = Check;
      asked = refl;
      answer = record {
        content = view c.in_ok-script.script;
        accepted = read.accepted;
        says = c.end_line.ensures.text ∙ ap (λ (t : List ℕ). t ++ 10 ∷ []) digits ∙ append_assoc (codes "accepted ") (decimal calls) (10 ∷ []);
      };
    }
