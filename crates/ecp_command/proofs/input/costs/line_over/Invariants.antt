use Rattle.std.proofs.Common.{◌≡◌, ◌≤◌, take}
use Rattle.ecp_shape.specs.declared.limits.TheConstants.{MAX_ENTRIES}
use Rattle.ecp_command.specs.Input.Limits.{costs}
use Rattle.ecp_command.specs.Input.Script.{forms_of}
use Rattle.ecp_command.proofs.input.costs.line_over.Given as goal

abbrev pub invariant-loop-numbered : goal.invariant-loop-numbered
invariant-loop-numbered l = (l.spent ≡ costs l.fn.head (forms_of l.fn.forms) (forms_of (take l.numbered-index l.fn.forms))) × (l.spent ≤ MAX_ENTRIES)
