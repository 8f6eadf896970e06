use Rattle.std.proofs.Common.{◌≡◌, ◌-◌, ◌++◌, take, replicate}
use Rattle.ecp_shape.specs.declared.limits.TheConstants.{MAX_NAME}
use Rattle.ecp_entry.proofs.name.filled.Given as goal

abbrev pub invariant-loop-i : goal.invariant-loop-i
invariant-loop-i l = l.at ≡ take l.i l.text ++ replicate (MAX_NAME - l.i) 0
