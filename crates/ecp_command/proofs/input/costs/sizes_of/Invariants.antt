use Rattle.std.proofs.Common.{take}
use Rattle.ecp_command.specs.Input.Costs.{AreMost}
use Rattle.ecp_command.specs.Input.Script.{forms_of}
use Rattle.ecp_command.proofs.input.costs.sizes_of.Given as goal

abbrev pub invariant-loop-numbered : goal.invariant-loop-numbered
invariant-loop-numbered l = AreMost l.fn.head (forms_of (take l.numbered-index l.fn.forms)) l.sizes
