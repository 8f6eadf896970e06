use Rattle.ecp_code.proofs.WeightLaws.{range-distinct}
use Rattle.ecp_code.proofs.tests.weights_interpolate_through_the_rows.Goals as goal

pub weights-five-requires-clause-distinct : goal.weights-five-requires-clause-distinct
weights-five-requires-clause-distinct g c = range-distinct 0 3

pub weights-four-requires-clause-distinct : goal.weights-four-requires-clause-distinct
weights-four-requires-clause-distinct g c = range-distinct 2 2
