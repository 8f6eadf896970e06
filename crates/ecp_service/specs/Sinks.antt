-- What a sink got of a text. Each word takes the members of the sink's type.
use Rattle.std.specs.Prelude.{ℕ, ◌≡◌, IsTrue, List, ◌++◌, length, take, Result, Ok, Err, OnOk}
use mathlib.Core.List.{IsPrefix}
use Rattle.ecp_store.specs.Faults.{Rose, Counts}
use Rattle.ecp_store.specs.declared.sink.Sink.{Ghosts}

-- what it has more than before is this text, where it tells
abbrev pub Got : {W : Type 0} → Ghosts W → W → W → List ℕ → Type 0
Got g old new text = IsTrue g.tells → g.appended new ≡ g.appended old ++ text

-- what it has more than before is a beginning of this text, where it tells
abbrev pub GotSome : {W : Type 0} → Ghosts W → W → W → List ℕ → Type 0
GotSome g old new text = IsTrue g.tells → (count : ℕ) × (g.appended new ≡ g.appended old ++ take count text)

-- it got all of this text and no more, has flushed what it has, and did not fail
pub record GotAll {W : Type 0} (g : Ghosts W) (old new : W) (text : List ℕ) : Type 0 where
  pub got : Got g old new text
  pub flushed : IsTrue g.tells → g.flushed new ≡ length (g.appended new)
  pub sound : g.faults new ≡ g.faults old

-- it failed, and got a beginning of this text and no more
pub record GotPart {W : Type 0} (g : Ghosts W) (old new : W) (text : List ℕ) : Type 0 where
  pub got : GotSome g old new text
  pub failed : Rose (g.faults old) (g.faults new)

-- the call delivered this text: all of it, flushed, where it is `Ok`, and else the part before a failure
abbrev pub Delivers : {W T E : Type 0} → Ghosts W → Result T E → W → W → List ℕ → Type 0
Delivers g (Ok _) old new text = GotAll g old new text
Delivers g (Err _) old new text = GotPart g old new text

-- the call appended this text: all of it where it is `Ok`, and else a beginning
pub record Appends {W T E : Type 0} (g : Ghosts W) (result : Result T E) (old new : W) (text : List ℕ) : Type 0 where
  pub all : OnOk result (Got g old new text)
  pub some : GotSome g old new text
  pub counts : Counts result (g.faults old) (g.faults new)

-- what was written on the way to a sink: what the sink has, and behind it what is pending
abbrev pub written : {W : Type 0} → Ghosts W → W × List ℕ → List ℕ
written g at = g.appended at.0 ++ at.1

-- the call wrote this text on the way to a sink: all of it where it is `Ok`. What the sink has only grows, and lies within
-- what was written
pub record Writes {W T E : Type 0} (g : Ghosts W) (result : Result T E) (old new : W × List ℕ) (text : List ℕ) : Type 0 where
  pub all : IsTrue g.tells → OnOk result (written g new ≡ written g old ++ text)
  pub grows : IsTrue g.tells → IsPrefix (g.appended old.0) (g.appended new.0)
  pub within : IsTrue g.tells → IsPrefix (g.appended new.0) (written g old ++ text)
  pub counts : Counts result (g.faults old.0) (g.faults new.0)
