use Rattle.std.proofs.Common.{rules, tests}
use Rattle.std.proofs.lemmas.Fn.{filter_same}
use Rattle.ecp_command.proofs.Inputs.Gathering.{is_kept}
use Rattle.ecp_command.proofs.input.sessions.drop_empty.Goals as goal

pub returns : goal.returns
returns c = filter_same _ is_kept _ (λ s b g h. (search (rules, tests), search (rules, tests))) _ _ c.retain.ensures.filtered
