-- What contracts see of a pass, and what holds of every pass.
use Rattle.std.specs.Prelude.{◌≡◌, ℕ, zero, suc, ◌+◌, ◌<◌, ◌≤◌, nat_lt, if◌then◌else◌, List, [], ◌∷◌, ◌++◌, length, map, All, Option, MatchOption, ⊤}
use Rattle.std.specs.List.{range_with_len}
use mathlib.Core.List.{IsPrefix}
use Rattle.ecp_shape.specs.declared.limits.TheConstants.{MAX_SESSIONS}
use Rattle.ecp_book.specs.Logs.{Log, history_log}
use Rattle.ecp_entry.specs.declared.deed.Deed.{Deed}
use Rattle.ecp_entry.specs.Told.{items_by}
use Rattle.ecp_sequencer.specs.Hands.{own_hand, hands_of, IsHandOf}
use Rattle.ecp_sequencer.specs.Notes.{Call}
use Rattle.ecp_sequencer.specs.Facts.{facts_of, entries_noted}

-- a hand by its number, and all that it noted
pub record HandNotes : Type 0 where
  pub hand : ℕ
  pub notes : Log

-- a pass: its caller and the hand that acts by it, how many spare hands the caller has, the number of the caller's calls, a beginning
-- of the history, what the hand noted, and the spare hands that the pass holds
pub record PassState : Type 0 where
  pub caller : ℕ
  pub hand : ℕ
  pub places : ℕ
  pub calls : ℕ
  pub front : Log
  pub notes : Log
  pub spare : List HandNotes

-- The hand is a spare one of the caller, the entries that it noted are the first of it in the front, and the calls that it noted
-- are among those that were counted
pub record IsHeld (callers spares caller calls : ℕ) (front : Log) (h : HandNotes) : Type 0 where
  pub own : IsHandOf spares caller h.hand
  pub spare : own_hand spares caller < h.hand
  pub in_range : h.hand < hands_of callers spares
  pub noted : IsPrefix (entries_noted h.notes) (items_by h.hand front)
  pub numbered : (facts_of h.notes).calls ≤ calls

-- The front is one on the history, the hands are the caller's, and the entries that each noted are the first of it in the front.
-- The hand that acts is the caller's own, or a spare one that is lent
pub record IsPass (callers spares log : ℕ) (p : PassState) : Type 0 where
  pub on_history : log ≡ history_log
  pub places : p.places ≡ spares
  pub own : IsHandOf spares p.caller p.hand
  pub session : p.caller < MAX_SESSIONS
  pub in_range : p.hand < hands_of callers spares
  pub noted : IsPrefix (entries_noted p.notes) (items_by p.hand p.front)
  pub numbered : (facts_of p.notes).calls ≤ p.calls
  pub held : All (IsHeld callers spares p.caller p.calls p.front) p.spare

-- a pass that is its caller's own, and has all its spare hands, in their order
pub record IsWhole (p : PassState) : Type 0 where
  pub own : p.hand ≡ own_hand p.places p.caller
  pub all : map (λ h. h.hand) p.spare ≡ range_with_len (own_hand p.places p.caller + 1) p.places

-- what the open call of a hand with these notes asks for, where it has one
abbrev pub AsksFor : Log → Option Deed → Type 0
AsksFor notes deed = MatchOption (facts_of notes).call ⊤ (λ c. c.deed ≡ deed)

-- the open call of a hand with these notes, where it has one, is this one
abbrev pub IsLastCall : Log → Call → Type 0
IsLastCall notes call = MatchOption (facts_of notes).call ⊤ (λ c. c ≡ call)

-- a call with these parts
abbrev pub call_seen : ℕ → Option Deed → Call
call_seen number deed = record { number = number; deed = deed }

-- a pass with these parts
abbrev pub pass_seen : ℕ → ℕ → ℕ → Log → HandNotes → List HandNotes → PassState
pass_seen spares caller calls front own spare =
    record { caller = caller; hand = own.hand; places = spares; calls = calls; front = front; notes = own.notes; spare = spare }

-- the hand with one more note
abbrev pub with_note : HandNotes → List ℕ → HandNotes
with_note h x = record { hand = h.hand; notes = h.notes ++ x ∷ [] }

-- the longer of two lists of which the one begins the other
abbrev pub longer : Log → Log → Log
longer xs ys = if nat_lt (length xs) (length ys) then ys else xs

-- so many hands with the numbers from `from` on, which noted nothing
abbrev pub new_hands : ℕ → ℕ → List HandNotes
new_hands from zero = []
new_hands from (suc n) = new_hands from n ++ record { hand = from + n; notes = [] } ∷ []

-- the pass of a caller that did nothing yet
abbrev pub first_pass : ℕ → ℕ → PassState
first_pass spares caller = record {
  caller = caller;
  hand = own_hand spares caller;
  places = spares;
  calls = 0;
  front = [];
  notes = [];
  spare = new_hands (own_hand spares caller + 1) spares;
}

-- those of the callers below n
abbrev pub first_passes : ℕ → ℕ → List PassState
first_passes spares zero = []
first_passes spares (suc n) = first_passes spares n ++ first_pass spares n ∷ []
