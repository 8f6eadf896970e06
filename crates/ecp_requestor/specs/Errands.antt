-- A fetch under way, as its private calls speak of it.
use Rattle.std.specs.Prelude.{Bool}
use Rattle.ecp_shape.specs.declared.shape.Shape.{Shape}
use Rattle.ecp_plan.specs.declared.plan.Plan.{Plan}
use Rattle.ecp_plan.specs.Plans.{IsSound}
use Rattle.ecp_requestor.specs.Assemblies.{AssemblyState}
use Rattle.ecp_requestor.specs.Renewing.{IsFor}

-- its plan, and what came home of the block
pub record ErrandState (N : Type 0) : Type 0 where
  pub plan : Plan N
  pub assembly : AssemblyState

-- the plan is sound, and the assembly takes the slices of its attempt
pub record IsErrand {N : Type 0} (shape : Shape) (told : Bool) (plan : Plan N) (a : AssemblyState) : Type 0 where
  pub sound : IsSound shape told plan
  pub is_for : IsFor plan a
