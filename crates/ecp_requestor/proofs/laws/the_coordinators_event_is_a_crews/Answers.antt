use Rattle.ecp_requestor.proofs.CrewLaws.{crew_of}
use Rattle.ecp_requestor.proofs.laws.the_coordinators_event_is_a_crews.Goals as goal

pub returns : goal.returns
returns g c = λ s t v w old new answer planned right did. crew_of g.N.Names.shape g.N.Names.told s t v w old new answer planned right did
