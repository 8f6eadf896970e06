use Rattle.ecp_command.proofs.Inputs.Unique.{same_content, not_refused, same_refusal}
use Rattle.ecp_command.proofs.input.laws.one_reading.Goals as goal

pub returns : goal.returns
returns c = record { content = same_content; accepted = not_refused; refused = same_refusal }
