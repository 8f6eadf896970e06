-- Hands that are lent: branches of a pass, and what the spare hands of a pass note.
use Rattle.std.specs.Prelude.{◌≡◌, ◌≢◌, ℕ, ◌+◌, ◌-◌, ◌^◌, ◌<◌, ◌≤◌, if◌then◌else◌, List, [], ◌∷◌, ◌++◌, length, All, Some, MatchOption, ⊤}
use Rattle.ecp_entry.specs.Told.{items_by}
use Rattle.ecp_sequencer.specs.declared.limits.TheConstants.{ROOM}
use Rattle.ecp_sequencer.specs.Closed.{IsHeard}
use Rattle.ecp_sequencer.specs.Facts.{facts_of, is_open, entries_noted, room_noted}
use Rattle.ecp_sequencer.specs.Hands.{own_hand, hands_of}
use Rattle.ecp_sequencer.specs.Notes.{Call, note, being_over}
use Rattle.ecp_sequencer.specs.Passes.{HandNotes, PassState, with_note}
use Rattle.ecp_book.specs.Logs.{Log}
use Rattle.ecp_sequencer.specs.Sequencers.{SequencerState}

-- the hand that acts by a pass, with what it noted
abbrev pub acting : PassState → HandNotes
acting p = record { hand = p.hand; notes = p.notes }

-- the pass has a spare hand behind these others, and the open call of it is that of the hand that acts
pub record CanLend (p : PassState) : Type 0 where
  pub others : List HandNotes
  pub last : HandNotes
  pub split : p.spare ≡ others ++ last ∷ []
  pub call : (facts_of last.notes).call ≡ (facts_of p.notes).call

-- A pass lent the last of its spare hands, and is w from then on. The branch is a pass of that hand, of the same caller, calls and
-- front, with no spare hand
pub record Lent (v branch w : PassState) : Type 0 where
  pub pass : w ≡ record v { spare = w.spare }
  pub spare : v.spare ≡ w.spare ++ acting branch ∷ []
  pub hand : branch ≡ record v { hand = branch.hand; notes = branch.notes; spare = [] }

-- the pass is its caller's own, and has place for a hand that it lent
pub record HasPlace (spares : ℕ) (p : PassState) : Type 0 where
  pub own : p.hand ≡ own_hand spares p.caller
  pub lent : length p.spare < spares

-- the branch is a pass of a spare hand of the same caller, and counts no call that the pass does not count
pub record IsBranch (spares : ℕ) (p branch : PassState) : Type 0 where
  pub caller : branch.caller ≡ p.caller
  pub hand : own_hand spares p.caller < branch.hand
  pub calls : branch.calls ≤ p.calls

-- the sequencer heard of a hand just what it noted, and both the front and the history have of it just the entries in these notes
pub record IsKnown (s : SequencerState) (front : Log) (h : HandNotes) : Type 0 where
  pub is : IsHeard s h
  pub known : items_by h.hand front ≡ entries_noted h.notes

-- the hand that acts has an open call, and no spare hand noted one with this number or a greater one
pub record IsNews (p : PassState) : Type 0 where
  pub call : Call
  pub begun : (facts_of p.notes).call ≡ Some call
  pub news : All (λ h. (facts_of h.notes).calls ≤ call.number) p.spare

-- the hand is one of those that there are, noted no call with this number or a greater one, and its log has places for a call
pub record CanBegin (callers spares number : ℕ) (h : HandNotes) : Type 0 where
  pub in_range : h.hand < hands_of callers spares
  pub rises : (facts_of h.notes).calls ≤ number
  pub places : length h.notes + 1 + ROOM < 2 ^ 32 - 1

-- a hand whose call is open has room for a note
abbrev pub CanEnd : HandNotes → Type 0
CanEnd h = MatchOption (facts_of h.notes).call ⊤ (λ _. 1 ≤ room_noted h.notes)

-- the hand with the note that its call is over, where it is open
abbrev pub released : ℕ → HandNotes → HandNotes
released point h = if is_open h.notes then with_note h (note point 0 being_over) else h

-- this hand is none of these
abbrev pub IsNone : List HandNotes → ℕ → Type 0
IsNone hands hand = All (λ h. h.hand ≢ hand) hands
