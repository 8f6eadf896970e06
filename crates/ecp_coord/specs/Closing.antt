-- With which act a call may end that is read part by part.
use Rattle.std.specs.Prelude.{List, length, Some}
use Rattle.ecp_entry.specs.declared.act.Act.{Act}
use Rattle.ecp_entry.specs.declared.act.Act.TheVariants.{Whole, Broken}
use Rattle.ecp_entry.specs.declared.deed.Deed.{Deed}
use Rattle.ecp_entry.specs.declared.entry.Entry.{Entry}
use Rattle.ecp_entry.specs.Told.{history_of}
use Rattle.ecp_history.specs.Acts.{BreaksAt, IsWhole}
use Rattle.ecp_history.specs.Calls.{AtEnd, FitsCall, kind_of}
use Rattle.ecp_sequencer.specs.Passes.{PassState}
use Rattle.ecp_coord.specs.Calls.{IsOpen, ended}

-- it is the act that the parts of the call of e give, which stand in a history: each has data, or which is the first that has none
abbrev pub IsByParts : List Entry → Entry → Act → Type 0
IsByParts before e Whole = IsWhole before e
IsByParts before e (Broken j) = BreaksAt before e j
IsByParts before e _ = ⊥

-- the open call of a pass is one that ends so, and the act is the one that its parts give, which all stand in the pass's front
pub record MayClose (p : PassState) (act : Act) : Type 0 where
  pub asked : Deed
  pub is_open : IsOpen p asked
  pub fits : FitsCall (kind_of (Some asked)) AtEnd act
  pub by_parts : IsByParts (history_of p.front) (ended p asked (length p.front) act) act
