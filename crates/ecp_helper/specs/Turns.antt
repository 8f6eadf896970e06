-- What each answer of a turn says of the helper and of the message.
use Rattle.std.specs.Prelude.{◌≡◌, ℕ, ◌≤◌, ◌⊎◌, Bool, true, IsTrue, [], ◌∷◌, ◌++◌, Option, Result, Err}
use Rattle.ecp_node.specs.declared.node_read.NodeRead.{NodeRead}
use Rattle.ecp_node.specs.declared.node_read.NodeRead.TheVariants as read
use Rattle.ecp_link.specs.Links.{FindsNothing}
use Rattle.ecp_slice.specs.Cancels.{Finds}
use Rattle.ecp_slice.specs.Messages.{Message}
use Rattle.ecp_slice.specs.declared.next.Next.{Next}
use Rattle.ecp_slice.specs.declared.reasons.TheConstants.{HELPER_LOST, STORE_FAILED}
use Rattle.ecp_helper.specs.Helpers.{HelperState}
use Rattle.ecp_helper.specs.Steps.{Terms, GoesOn, StaysHeld, NoneGoesOn, Comes, WaitedLongest, HasNone, GoesOut, IsKept, looked, given_up, IsHere, IsToAdd, question, Reads, Adds}
use Rattle.ecp_helper.specs.declared.turn.Turn.{Turn}
use Rattle.ecp_helper.specs.declared.turn.Turn.TheVariants.{Passed, Held, Waited, Dropped, Astray, Lost, Fault, Idle}

-- the helper with the node as it is after the turn
abbrev pub with_node : HelperState → HelperState → HelperState
with_node old new = record old { node = new.node }

-- it was added here, and went on
pub record Passes (told tells : Bool) (old new : HelperState) (m : Message) : Type 0 where
  pub added : Message
  pub adds : Adds told tells old.node new.node m added
  pub out : GoesOut (with_node old new) new added

-- it was added here, and could not go on
pub record IsAddedAndHeld (told tells : Bool) (old new : HelperState) (m : Message) (to : Next) : Type 0 where
  pub added : Message
  pub adds : Adds told tells old.node new.node m added
  pub kept : IsKept (with_node old new) new added to

-- the node gave this answer in place of its slice, and its cancel word has this reason or an earlier one
pub record GivesUp (result : Result (Unit {0}) NodeRead) (reason : ℕ) (old new : HelperState) (m back : Message) : Type 0 where
  pub reads : Reads result old.node new.node m
  pub found : ℕ
  pub finds : Finds m.cancel.known found
  pub back_is : back ≡ given_up m reason found
  pub is : new ≡ with_node old new

-- what becomes of a message that is wanted, is here, and may go on
abbrev pub Works : {N : Type 0} → Bool → Bool → HelperState → HelperState → Message → Turn N → Type 0
Works told tells old new m Passed = Passes told tells old new m
Works told tells old new m (Held to) = IsAddedAndHeld told tells old new m to
Works told tells old new m (Lost back now) = GivesUp (Err (read.Lost now)) HELPER_LOST old new m back
Works told tells old new m (Fault back) = GivesUp (Err read.Failed) STORE_FAILED old new m back
Works told tells old new m Waited = ⊥
Works told tells old new m (Dropped back) = ⊥
Works told tells old new m (Astray back) = ⊥
Works told tells old new m Idle = ⊥

-- the gate, which is not open, held it up, and it is the newest of those that wait. Nothing was read
pub record Waits (terms : Terms) (old new : HelperState) (m : Message) : Type 0 where
  pub not_open : terms.is_open ≡ true → ⊥
  pub shut : IsTrue (terms.shuts (question old.node.number m))
  pub is : new ≡ record old { waiting = old.waiting ++ m ∷ [] }

-- its cancel word has a reason, which its handle knows
pub record Drops (old new : HelperState) (m back : Message) : Type 0 where
  pub found : ℕ
  pub reason : HELPER_LOST ≤ found
  pub finds : Finds m.cancel.known found
  pub back_is : back ≡ looked m found
  pub is : new ≡ old

-- it is wanted, and is not here
pub record Strays (old new : HelperState) (m back : Message) : Type 0 where
  pub wanted : m.cancel.known ≡ 0
  pub astray : IsHere old m → ⊥
  pub back_is : back ≡ looked m 0
  pub is : new ≡ old

-- what becomes of the turn's message: what is wanted and here is so at the look that found no reason
abbrev pub Serves : {N : Type 0} → Terms → HelperState → HelperState → Message → Turn N → Type 0
Serves terms old new m (Dropped back) = Drops old new m back
Serves terms old new m (Astray back) = Strays old new m back
Serves terms old new m Waited = IsToAdd old m × Waits terms old new (looked m 0)
Serves terms old new m answer = IsToAdd old m × Works terms.told terms.tells old new (looked m 0) answer

-- the turn's message is the one that comes from the link, else the oldest that waits
abbrev pub Draws : HelperState → HelperState → Message → Type 0
Draws old new m = Comes old new m ⊎ WaitedLongest old new m

-- the turn's message is drawn, and this becomes of it
pub record IsServed {N : Type 0} (terms : Terms) (old new : HelperState) (answer : Turn N) : Type 0 where
  pub drawn : HelperState
  pub message : Message
  pub draws : Draws old drawn message
  pub serves : Serves terms drawn new message answer

-- a turn with a message: none that was added before goes on, and then the turn's message is served
pub record HasMessage {N : Type 0} (terms : Terms) (old new : HelperState) (answer : Turn N) : Type 0 where
  pub full : Option Next
  pub tried : HelperState
  pub first : NoneGoesOn old tried full
  pub served : IsServed terms tried new answer

-- a turn with no message but one that finds its link full
pub record IsStuck (old new : HelperState) (to : Next) : Type 0 where
  pub tried : HelperState
  pub first : StaysHeld old tried to
  pub none : HasNone tried new

-- nothing is held, and the link is empty
pub record IsIdle (old new : HelperState) : Type 0 where
  pub none_added : old.added ≡ []
  pub none_waits : old.waiting ≡ []
  pub empty : FindsNothing old.taker new.taker
  pub is : new ≡ record old { taker = new.taker }

-- a turn with no message to add to: one that was added before goes on, or finds its link full, or there is none
abbrev pub HasNothing : {N : Type 0} → HelperState → HelperState → Turn N → Type 0
HasNothing old new Passed = GoesOn old new
HasNothing old new (Held to) = IsStuck old new to
HasNothing old new Idle = IsIdle old new
HasNothing old new answer = ⊥

-- what each answer says
abbrev pub Turns : {N : Type 0} → Terms → HelperState → HelperState → Turn N → Type 0
Turns terms old new answer = HasNothing old new answer ⊎ HasMessage terms old new answer

-- what each answer says of a message that was added here
abbrev pub SendsOut : {N : Type 0} → HelperState → HelperState → Message → Turn N → Type 0
SendsOut old new m Passed = GoesOut old new m
SendsOut old new m (Held to) = IsKept old new m to
SendsOut old new m answer = ⊥
