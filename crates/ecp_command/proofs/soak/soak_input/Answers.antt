use Rattle.std.proofs.Common.{◌≡◌, ℕ, ◌+◌, ◌++◌, ◌∷◌, [], List, map, sym, ◌∙◌, ap, arith}
use Rattle.std.specs.List.{range_with_len}
use Rattle.std.proofs.lemmas.List.{map-append}
use Rattle.ecp_command.specs.declared.input.planned.Planned.{Planned}
use Rattle.ecp_command.specs.declared.input.session.Session.{Session}
use Rattle.ecp_command.specs.Input.Accepted.{Content, session_view}
use Rattle.ecp_command.specs.Input.Calls.{SessionCalls}
use Rattle.ecp_command.specs.Soak.{soak_head, soak_session}
use Rattle.ecp_command.proofs.Inputs.Gathering.{range_more}
use Rattle.ecp_command.proofs.soak.soak_input.Goals as goal

abbrev one : ℕ → List Planned → SessionCalls
one number calls = record { number = number; calls = calls }

abbrev content : List SessionCalls → Content
content sessions = record { head = soak_head; sessions = sessions; phases = 6 }

pub loop-number-preserved : goal.loop-number-preserved
loop-number-preserved c =
    let i : ℕ = c.loop-number.number in
    let seed : ℕ = c.args.seed in
    ap (map session_view) c.in_ok-push.ensures.items
    ∙ map-append session_view c.loop-number.sessions.items (_ ∷ [])
    ∙ ap (λ (xs : List SessionCalls). xs ++ one i c.in_ok-calls.calls.items ∷ []) c.loop-number.invariant
    ∙ ap (λ (calls : List Planned). map (soak_session seed) (range_with_len 0 i) ++ one i calls ∷ []) c.in_ok-calls.ensures
    ∙ sym (ap (map (soak_session seed)) (range_more 0 i ∙ ap (λ (n : ℕ). range_with_len 0 i ++ n ∷ []) (omega arith)) ∙ map-append (soak_session seed) (range_with_len 0 i) (i ∷ []))

pub returns-clause-content : goal.returns-clause-content
returns-clause-content c =
    let all : c.loop-number.number ≡ 4 = omega (arith, c.loop-number-test.false, c.loop-number.auto.number-end) in
    ap content (c.loop-number.invariant ∙ ap (λ (n : ℕ). map (soak_session c.args.seed) (range_with_len 0 n)) all)
