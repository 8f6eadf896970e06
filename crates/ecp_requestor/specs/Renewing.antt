-- When a plan makes the block of an assembly, and the assembly of its next attempt.
use Rattle.std.specs.Prelude.{◌≡◌, false, length, replicate}
use Rattle.ecp_plan.specs.declared.plan.Plan.{Plan}
use Rattle.ecp_requestor.specs.Assemblies.{AssemblyState}

-- the plan is of the assembly's repair, and makes its block, as long, in slices as large
pub record IsOfBlock {N : Type 0} (plan : Plan N) (a : AssemblyState) : Type 0 where
  pub repair : plan.repair ≡ a.repair
  pub stripe : plan.stripe ≡ a.stripe
  pub row : plan.row ≡ a.row
  pub block : plan.block ≡ a.block
  pub size : plan.slice ≡ a.size

-- the assembly of this attempt: no slice is there
abbrev pub renewed : {N : Type 0} → AssemblyState → Plan N → AssemblyState
renewed a plan = record a { attempt = plan.attempt; front = plan.front.items; there = replicate (length a.there) false }

-- the assembly takes the slices of this attempt
pub record IsFor {N : Type 0} (plan : Plan N) (a : AssemblyState) : Type 0 where
  pub block : IsOfBlock plan a
  pub attempt : a.attempt ≡ plan.attempt
  pub front : a.front ≡ plan.front.items
