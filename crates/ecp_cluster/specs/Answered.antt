-- What a call of a service does to the pass of its caller.
use Rattle.std.specs.Prelude.{◌≡◌, ℕ, ◌+◌, ◌≤◌, Bool, List, []}
use Rattle.ecp_shape.specs.declared.shape.Shape.{Shape}
use Rattle.ecp_book.specs.Logs.{Log}
use Rattle.ecp_entry.specs.declared.act.Act.{Act}
use Rattle.ecp_entry.specs.declared.deed.Deed.{Deed}
use Rattle.ecp_entry.specs.declared.entry.Entry.{Entry}
use Rattle.ecp_sequencer.specs.Facts.{room_noted}
use Rattle.ecp_sequencer.specs.Passes.{PassState}
use Rattle.ecp_sequencer.specs.Rounds.{Raised}
use Rattle.ecp_sequencer.specs.Sequencers.{SequencerState}
use Rattle.ecp_sequencer.specs.Steps.{Steps, Called}
use Rattle.ecp_coord.specs.Calls.{Ends, IsFresh}

-- The next call of a pass, which asks for this, was answered by this act and with these bytes: it has one entry, which says so
pub record Answered (shape : Shape) (told : Bool) (v : PassState) (asked : Deed) (what : Act) (given : List ℕ) (w : PassState) : Type 0 where
  pub entry : Entry
  pub called : Called shape told v asked [] entry w
  pub act : entry.line.act ≡ what
  pub bytes : entry.bytes ≡ given

-- a call that found no memory: it has no entry
pub record FoundNone (v w : PassState) : Type 0 where
  pub more : Log
  pub steps : Steps v [] more w
  pub calls : v.calls ≤ w.calls

-- the next call of a pass, which asks for this, began: nothing else was noted of it, and the hand has room for its first entries
pub record HasBegun (v : PassState) (asked : Deed) (w : PassState) : Type 0 where
  pub more : Log
  pub steps : Steps v [] more w
  pub calls : w.calls ≡ v.calls + 1
  pub fresh : IsFresh w asked
  pub room : 3 ≤ room_noted w.notes

-- The open call of a pass, which asks for this, ended with this act: the pass was raised, or was not, and then an event of a legal history
-- ended the call
pub record Finishes (shape : Shape) (told : Bool) (v : PassState) (asked : Deed) (what : Act) (w : PassState) : Type 0 where
  pub raised : PassState
  pub before : SequencerState
  pub after : SequencerState
  pub rises : Raised v raised
  pub ends : Ends shape told before raised asked what after w
