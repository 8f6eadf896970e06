use Rattle.std.proofs.Common.{◌-◌, ◌<◌, length, sym, arith}
use Rattle.ecp_shape.specs.declared.limits.TheConstants.{MAX_SESSIONS}
use Rattle.ecp_service.proofs.SeatLaws.{last_below, none_greater}
use Rattle.ecp_service.proofs.serving.ran.callers_for.Goals as goal

pub overflow_add-result : goal.overflow_add-result
overflow_add-result c =
    let ss = c.args.sessions.now in
    let below : c.in-Some.session.now.number < MAX_SESSIONS = last_below c.requires.0 ss c.requires.1 (length ss - 1) c.in-Some.session.now (sym c.in-Some.ensures.value) in
    omega (arith, below)

pub returns-in-Some-clause-some : goal.returns-in-Some-clause-some
returns-in-Some-clause-some c =
    let ss = c.args.sessions.now in
    let below : c.in-Some.session.now.number < MAX_SESSIONS = last_below c.requires.0 ss c.requires.1 (length ss - 1) c.in-Some.session.now (sym c.in-Some.ensures.value) in
    (omega arith, omega (arith, below))

pub returns-in-Some-clause-room : goal.returns-in-Some-clause-room
returns-in-Some-clause-room c = none_greater c.requires.0 c.args.sessions.now c.requires.1 c.in-Some.session.now (sym c.in-Some.ensures.value)
