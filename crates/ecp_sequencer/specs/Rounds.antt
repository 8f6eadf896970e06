-- A worked caller: rounds of calls that name a node that is not there.
use Rattle.std.specs.Prelude.{◌≡◌, ℕ, ◌+◌, ◌≤◌, Bool, List, [], ◌∷◌, map, Some}
use mathlib.Core.List.{IsPrefix}
use Rattle.ecp_shape.specs.declared.shape.Shape.{Shape}
use Rattle.ecp_book.specs.Logs.{Log}
use Rattle.ecp_entry.specs.declared.act.Act.TheVariants.{NoSuchNode}
use Rattle.ecp_entry.specs.declared.deed.Deed.{Deed}
use Rattle.ecp_entry.specs.declared.deed.Deed.TheVariants as deed
use Rattle.ecp_entry.specs.declared.entry.Entry.{Entry}
use Rattle.ecp_entry.specs.declared.line.Line.{Line}
use Rattle.ecp_entry.specs.declared.part.Part.TheVariants as part
use Rattle.ecp_entry.specs.Items.{item}
use Rattle.ecp_entry.specs.ReadBack.{line_with, entry_with}
use Rattle.ecp_entry.specs.Told.{items_by}
use Rattle.ecp_history.specs.Legal.{TellsLegal}
use Rattle.ecp_sequencer.specs.Facts.{facts_of, entries_noted, room_noted}
use Rattle.ecp_sequencer.specs.Hands.{own_hand}
use Rattle.ecp_sequencer.specs.Histories.{lines_of}
use Rattle.ecp_sequencer.specs.Passes.{PassState}
use Rattle.ecp_sequencer.specs.Steps.{Steps, Called, call_with}

-- the one entry of such a call
abbrev pub no_node : ℕ → ℕ → ℕ → ℕ → Entry
no_node caller call point node = entry_with (line_with caller call point part.End NoSuchNode) (Some (deed.Lose node)) [] []

-- the next call of the pass began with this deed: its hand entered nothing, and has room for its end
pub record Began (v : PassState) (asked : Deed) (w : PassState) : Type 0 where
  pub more : Log
  pub steps : Steps v [] more w
  pub calls : w.calls ≡ v.calls + 1
  pub call : (facts_of w.notes).call ≡ Some (call_with v.calls asked)
  pub room : 1 ≤ room_noted w.notes

-- a call that names this node, with its one entry
pub record CalledNone (shape : Shape) (told : Bool) (v : PassState) (node : ℕ) (w : PassState) : Type 0 where
  pub point : ℕ
  pub called : Called shape told v (deed.Lose node) [] (no_node v.caller v.calls point node) w

-- the calls of these entries have rising numbers, from n on and below m
abbrev pub AreNumbered : ℕ → List Entry → ℕ → Type 0
AreNumbered n [] m = n ≤ m
AreNumbered n (e ∷ entries) m = (n ≤ e.line.call) × AreNumbered (e.line.call + 1) entries m

-- several calls in a row: the pass has just these entries more, one for each call that was not refused
pub record Worked (v w : PassState) : Type 0 where
  pub mine : List Entry
  pub more : Log
  pub steps : Steps v mine more w
  pub numbered : AreNumbered v.calls mine w.calls

-- the front of a pass was raised, and nothing else of it changed
pub record Raised (v w : PassState) : Type 0 where
  pub same : w ≡ record v { front = w.front }
  pub longer : IsPrefix v.front w.front
  pub noted : IsPrefix (entries_noted v.notes) (items_by v.hand v.front)

-- of a caller with so many spare hands the history has just these entries, each of another call
pub record Counted (history : Log) (spares caller calls : ℕ) : Type 0 where
  pub mine : List Entry
  pub just : items_by (own_hand spares caller) history ≡ map (item (own_hand spares caller)) mine
  pub numbered : AreNumbered 0 mine calls

-- the lines are those of one legal history, which has of each caller just the entries that its pass counted
pub record Finished (shape : Shape) (told : Bool) (spares callers : ℕ) (lines : List Line) : Type 0 where
  pub history : Log
  pub legal : TellsLegal shape told history
  pub printed : lines ≡ lines_of history
  pub each : (caller : ℕ) → caller + 1 ≤ callers → (calls : ℕ) × Counted history spares caller calls
