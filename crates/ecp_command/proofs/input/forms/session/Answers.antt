use Rattle.std.proofs.Common.{◌≡◌, sym, ◌∙◌, arith}
use Rattle.ecp_command.proofs.Decimals.{same_number}
use Rattle.ecp_command.proofs.Inputs.Spelled.{session_is}
use Rattle.ecp_command.proofs.input.forms.session.Goals as goal

pub returns-else-number-lt-MAX_SESSIONS : goal.returns-else-number-lt-MAX_SESSIONS
returns-else-number-lt-MAX_SESSIONS c = λ f h _.
    let p = session_is c.args.rest.now f h in
    let e : c.in_ok-number.number ≡ p.0 = same_number c.in_ok-number.number p.0 (omega arith) (omega arith) (sym c.in_ok-number.ensures.some ∙ p.2) in
    omega arith
