-- What is known once the sequencer and the passes have met for the last time.
use Rattle.std.specs.Prelude.{◌≡◌, ℕ, ◌<◌, ◌≤◌, Bool, List, [], All}
use mathlib.Core.List.{IsPrefix}
use Rattle.ecp_shape.specs.declared.shape.Shape.{Shape}
use Rattle.ecp_entry.specs.declared.line.Line.{Line}
use Rattle.ecp_entry.specs.Told.{items_by}
use Rattle.ecp_sequencer.specs.Hands.{hands_of}
use Rattle.ecp_sequencer.specs.Passes.{HandNotes, PassState}
use Rattle.ecp_sequencer.specs.Facts.{facts_of}
use Rattle.ecp_sequencer.specs.Histories.{IsKept, Stands, lines_of, notes_at}
use Rattle.ecp_sequencer.specs.Sequencers.{SequencerState}

-- the sequencer heard of a hand just what it noted, and the history has of it just the entries in these notes
pub record IsHeard (s : SequencerState) (h : HandNotes) : Type 0 where
  pub heard : notes_at s.notes h.hand ≡ h.notes
  pub stands : Stands s.history h.hand h.notes

-- the front begins the history, each hand of the pass was heard, and the calls that its own hand began are among those that it counted
pub record IsSettled (s : SequencerState) (p : PassState) : Type 0 where
  pub begins : IsPrefix p.front s.history
  pub numbered : (facts_of p.notes).calls ≤ p.calls
  pub heard : notes_at s.notes p.hand ≡ p.notes
  pub own : Stands s.history p.hand p.notes
  pub held : All (IsHeard s) p.spare

-- The lines are those of this one history. It is legal, its entries of nodes are counted, each entry carries a hand of its caller, and it
-- has of each hand just the entries that the hand noted: none past the last one, and of each pass's hands those that the pass knows of
pub record Closed (shape : Shape) (told : Bool) (callers spares : ℕ) (s : SequencerState) (lines : List Line) (passes : List PassState) : Type 0 where
  pub kept : IsKept shape told callers spares s.history s.notes
  pub none : (hand : ℕ) → hands_of callers spares < hand → items_by hand s.history ≡ []
  pub printed : lines ≡ lines_of s.history
  pub settled : All (IsSettled s) passes
