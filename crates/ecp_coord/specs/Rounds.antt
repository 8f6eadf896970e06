-- A worked caller: rounds of calls that lose nodes.
use Rattle.std.specs.Prelude.{ℕ, Bool, [], Some}
use Rattle.ecp_shape.specs.declared.shape.Shape.{Shape}
use Rattle.ecp_entry.specs.declared.deed.Deed.TheVariants as deed
use Rattle.ecp_entry.specs.declared.entry.Entry.{Entry}
use Rattle.ecp_entry.specs.declared.part.Part.TheVariants as part
use Rattle.ecp_entry.specs.ReadBack.{line_with, entry_with}
use Rattle.ecp_sequencer.specs.Passes.{PassState}
use Rattle.ecp_sequencer.specs.Steps.{Called}
use Rattle.ecp_coord.specs.declared.node_act.NodeAct.{NodeAct}
use Rattle.ecp_coord.specs.Losing.{act_of}

-- the one entry of the next call of a pass, which asks for the loss of a node and says what was found
abbrev pub losing_entry : PassState → ℕ → ℕ → NodeAct → Entry
losing_entry v node point found = entry_with (line_with v.caller v.calls point part.End (act_of found)) (Some (deed.Lose node)) [] []

-- a call that loses this node, and finds this: it has that one entry
pub record CalledLose (shape : Shape) (told : Bool) (v : PassState) (node : ℕ) (found : NodeAct) (w : PassState) : Type 0 where
  pub point : ℕ
  pub called : Called shape told v (deed.Lose node) [] (losing_entry v node point found) w
