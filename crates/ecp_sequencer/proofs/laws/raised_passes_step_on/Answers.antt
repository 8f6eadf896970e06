use Rattle.std.proofs.Common.{refl}
use Rattle.ecp_sequencer.proofs.StepLaws.{steps_raised}
use Rattle.ecp_sequencer.proofs.laws.raised_passes_step_on.Goals as goal

pub returns : goal.returns
returns c = λ u w front mine more longer noted s. steps_raised u (record u { front = front }) w mine more refl refl refl refl refl longer noted s
