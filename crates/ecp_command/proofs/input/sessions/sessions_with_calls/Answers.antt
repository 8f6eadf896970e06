use Rattle.std.proofs.Common.{◌≡◌, ◌<◌, length, get_or, rules, arith}
use Rattle.std.proofs.lemmas.Iterator.Adapters.{YieldsList-from_vec}
use Rattle.std.proofs.lemmas.Iterator.Consumers.{YieldsList-turn, YieldsList-end}
use Rattle.ecp_command.proofs.Inputs.Gathering.{push_session, push_barrier, push_call, session_below, is_next, few_fit, all_yielded}
use Rattle.ecp_command.proofs.input.sessions.sessions_with_calls.Goals as goal

pub lines-preserved-in-Session : goal.lines-preserved-in-Session
lines-preserved-in-Session c =
    let turn : (length c.lines.yielded < length c.args.forms.items) × (c.in-Some.numbered ≡ get_or c.args.forms.items (length c.lines.yielded) c.in-Some.numbered) =
    YieldsList-turn (YieldsList-from_vec {s = c.into_iter-numbered-iterator.result} c.args.forms.items (search rules) (search rules)) c.lines.yielded c.lines.numbered-iterator c.lines.yielded_by c.next.result c.next.new.self c.in-Some.numbered c.in-Some.is c.next.ensures.steps in
    push_session c.lines.yielded c.in-Some.numbered c.in-Session.number c.lines.sessions.items c.lines.session c.lines.phase c.in-Session.is
    (session_below c.in-Some.numbered c.in-Session.number c.in-Session.is (is_next c.args.forms.items c.lines.yielded c.in-Some.numbered c.requires.sessions turn.0 turn.1))
    c.lines.invariant

pub lines-preserved-in-Barrier : goal.lines-preserved-in-Barrier
lines-preserved-in-Barrier c = push_barrier c.lines.yielded c.in-Some.numbered c.lines.sessions.items c.lines.session c.lines.phase c.in-Barrier.is c.lines.invariant

pub lines-preserved : goal.lines-preserved
lines-preserved c =
    push_call c.lines.yielded c.in-Some.numbered c.in-Call.call _ c.lines.sessions.items c.add_call.new.sessions.items c.lines.session c.lines.phase c.in-Call.is c.in-Call.call-is c.lines.invariant c.in_ok-add_call-in-Call.ensures

pub overflow_add-phase : goal.overflow_add-phase
overflow_add-phase c =
    let turn : (length c.lines.yielded < length c.args.forms.items) × (c.in-Some.numbered ≡ get_or c.args.forms.items (length c.lines.yielded) c.in-Some.numbered) =
    YieldsList-turn (YieldsList-from_vec {s = c.into_iter-numbered-iterator.result} c.args.forms.items (search rules) (search rules)) c.lines.yielded c.lines.numbered-iterator c.lines.yielded_by c.next.result c.next.new.self c.in-Some.numbered c.in-Some.is c.next.ensures.steps in
    omega (arith, few_fit c.lines.yielded c.args.forms.items c.lines.sessions.items c.lines.session c.lines.phase c.lines.invariant (omega (arith, turn.0)) c.requires.few)

pub overflow_add-result : goal.overflow_add-result
overflow_add-result c =
    let ended = YieldsList-end (YieldsList-from_vec {s = c.into_iter-numbered-iterator.result} c.args.forms.items (search rules) (search rules)) c.lines.yielded c.lines.numbered-iterator c.lines.yielded_by c.next.result c.next.new.self c.in-None.is c.next.ensures.steps in
    omega (arith, few_fit c.lines.yielded c.args.forms.items c.lines.sessions.items c.lines.session c.lines.phase c.lines.invariant (omega (arith, ended.1)) c.requires.few)

pub returns-clause-sessions : goal.returns-clause-sessions
returns-clause-sessions c =
    (all_yielded c.args.forms.items c.lines.yielded c.lines.sessions.items c.drop_empty.new.sessions.items c.lines.session c.lines.phase
    ((YieldsList-end (YieldsList-from_vec {s = c.into_iter-numbered-iterator.result} c.args.forms.items (search rules) (search rules)) c.lines.yielded c.lines.numbered-iterator c.lines.yielded_by c.next.result c.next.new.self c.in-None.is c.next.ensures.steps).0)
    c.lines.invariant
    c.drop_empty.ensures).0

pub returns-clause-phases : goal.returns-clause-phases
returns-clause-phases c =
    (all_yielded c.args.forms.items c.lines.yielded c.lines.sessions.items c.drop_empty.new.sessions.items c.lines.session c.lines.phase
    ((YieldsList-end (YieldsList-from_vec {s = c.into_iter-numbered-iterator.result} c.args.forms.items (search rules) (search rules)) c.lines.yielded c.lines.numbered-iterator c.lines.yielded_by c.next.result c.next.new.self c.in-None.is c.next.ensures.steps).0)
    c.lines.invariant
    c.drop_empty.ensures).1
