use Rattle.std.proofs.Common.{arith}
use Rattle.ecp_command.proofs.Decimals.{narrowed}
use Rattle.ecp_command.proofs.words.numbers.number.Goals as goal

pub returns-clause-none : goal.returns-clause-none
returns-clause-none c =
    narrowed c.in_ok-number.number c.args.text.now c.try_from.result c.ok.result (omega arith) c.in_ok-number.ensures.some c.try_from.ensures c.ok.ensures.value
