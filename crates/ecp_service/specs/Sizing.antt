-- The sizes of a service, by the head of an input.
use Rattle.std.specs.Prelude.{ℕ, max}
use Rattle.ecp_cluster.specs.Opening.{CanServe}
use Rattle.ecp_command.specs.Input.Settings.{shape_of}
use Rattle.ecp_command.specs.declared.input.head.Head.{Head}
use Rattle.ecp_service.specs.declared.serving.sizes.Sizes.{Sizes}

-- the sizes that a head asks for, with so many callers
abbrev pub sizes_for : Head → ℕ → Sizes
sizes_for head callers = record {
  shape = shape_of head;
  slice = head.slice;
  cyclic = head.cyclic;
  window = head.window;
  hands = max head.workers 1;
  callers = callers;
}

-- a service of these sizes can be opened over so many logs
abbrev pub AreSizes : Sizes → ℕ → Type 0
AreSizes sizes logs = CanServe sizes.shape sizes.slice sizes.window sizes.hands sizes.callers logs
