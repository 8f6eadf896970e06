-- A history that agrees with what the hands noted.
use Rattle.std.specs.Prelude.{◌≡◌, ◌≢◌, ℕ, ◌<◌, ◌≤◌, Bool, List, [], length, take, map, All, slice_get, slice_index_or, Some}
use Rattle.ecp_shape.specs.declared.limits.TheConstants.{MAX_SESSIONS}
use Rattle.ecp_shape.specs.declared.shape.Shape.{Shape}
use Rattle.ecp_book.specs.Logs.{Log}
use Rattle.ecp_entry.specs.declared.line.Line.{Line}
use Rattle.ecp_entry.specs.Told.{Made, made_of, made_from, history_of, items_by}
use Rattle.ecp_history.specs.Legal.{TellsLegal}
use Rattle.ecp_history.specs.Counted.{DropsCounted}
use Rattle.ecp_sequencer.specs.Hands.{hands_of, IsHandOf}
use Rattle.ecp_sequencer.specs.Notes.{began, entered, kind_of, point_of, says_of, call_of, call_from}
use Rattle.ecp_sequencer.specs.Facts.{facts_of, entries_noted}

-- the lines of a history, in their order
abbrev pub lines_of : Log → List Line
lines_of items = map (λ e. e.line) (history_of items)

-- an entry of a session is of one of its hands, which there is, and one of a node carries the number that is no hand's
pub record FitsMaker (callers spares : ℕ) (m : Made) : Type 0 where
  pub session : m.entry.line.caller < MAX_SESSIONS → IsHandOf spares m.entry.line.caller m.hand
  pub there : m.entry.line.caller < MAX_SESSIONS → m.hand < hands_of callers spares
  pub node : MAX_SESSIONS ≤ m.entry.line.caller → m.hand ≡ hands_of callers spares

-- A note of a hand, behind these notes of it, fits the history. Before its point the hand has just the entries that it noted
-- before; the number of a call that begins is new; an entry is of the open call
pub record FitsNote (hand : ℕ) (history before : Log) (x : List ℕ) : Type 0 where
  pub within : point_of x ≤ length history
  pub stamped : items_by hand (take (point_of x) history) ≡ entries_noted before
  pub rises : kind_of x ≡ began → (facts_of before).calls ≤ (call_from (says_of x)).number
  pub of_call : kind_of x ≡ entered → (facts_of before).call ≡ Some (call_of (made_from (says_of x)).entry)

-- each note of the hand fits
abbrev pub AllFit : ℕ → Log → Log → Type 0
AllFit hand history notes = (i : ℕ) (x : List ℕ) → slice_get notes i ≡ Some x → FitsNote hand history (take i notes) x

-- the history has of this hand just the entries that it noted, each after its call began
pub record Stands (history : Log) (hand : ℕ) (notes : Log) : Type 0 where
  pub entries : items_by hand history ≡ entries_noted notes
  pub fit : AllFit hand history notes

-- the notes of a hand, by its number; past the last hand there are none
abbrev pub notes_at : List Log → ℕ → Log
notes_at notes hand = slice_index_or notes hand []

-- The history is legal, its entries of nodes are counted, each entry carries a hand of its caller, and of each hand it has just
-- the entries that the hand noted, and none past the last
pub record IsKept (shape : Shape) (told : Bool) (callers spares : ℕ) (history : Log) (notes : List Log) : Type 0 where
  pub legal : TellsLegal shape told history
  pub counted : DropsCounted shape (history_of history)
  pub made : All (FitsMaker callers spares) (made_of history)
  pub hands : length notes ≡ hands_of callers spares
  pub stand : (hand : ℕ) → hand ≢ hands_of callers spares → Stands history hand (notes_at notes hand)
