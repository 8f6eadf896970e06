-- How many stripe numbers are used up, and by which calls.
use Rattle.std.specs.Prelude.{◌≡◌, ℕ, ◌+◌, ◌*◌, ◌<◌, ◌≤◌, true, List, [], ◌∷◌, ◌++◌, map, filter, take, sum_by, slice_get, Contains, Option, Some, None}
use Rattle.std.specs.List.{list_any}
use Rattle.std.specs.Option.{option_map_or}
use Rattle.ecp_shape.specs.declared.shape.Shape.{Shape}
use Rattle.ecp_book.specs.Logs.{Log}
use Rattle.ecp_code.specs.Stripes.{stripe_count}
use Rattle.ecp_entry.specs.declared.deed.Deed.{Deed}
use Rattle.ecp_entry.specs.declared.deed.Deed.TheVariants as deed
use Rattle.ecp_entry.specs.declared.entry.Entry.{Entry}
use Rattle.ecp_entry.specs.Told.{history_of}
use Rattle.ecp_history.specs.Files.{Storing, numbers_of}
use Rattle.ecp_history.specs.Spans.{ends, is_end}
use Rattle.ecp_sequencer.specs.Facts.{facts_of}
use Rattle.ecp_sequencer.specs.Hands.{own_hand}
use Rattle.ecp_sequencer.specs.Histories.{notes_at}
use Rattle.ecp_sequencer.specs.Notes.{began, kind_of}
use Rattle.ecp_sequencer.specs.Passes.{PassState}
use Rattle.ecp_sequencer.specs.Sequencers.{SequencerState}
use Rattle.ecp_coord.specs.Bookings.{booked_attempt, booking}

-- how many stripes a call may store that asks for this: those of a put's file
abbrev pub stripes_asked : Shape → Option Deed → ℕ
stripes_asked shape (Some (deed.Put name len)) = stripe_count shape.k shape.block len
stripes_asked shape _ = 0

-- the call of an entry, with the stripes that it may store
abbrev pub storing_of : Shape → Entry → Storing
storing_of shape e = record { caller = e.line.caller; call = e.line.call; stripes = stripes_asked shape e.deed }

-- the calls that have their end in a history
abbrev pub calls_ended : Shape → List Entry → List Storing
calls_ended shape history = map (storing_of shape) (filter (λ e. is_end e.line.part) history)

-- how many stripe numbers these may use up together
abbrev pub numbers_by : Shape → List Entry → ℕ
numbers_by shape history = sum_by (numbers_of history) (calls_ended shape history)

-- it is this caller's pass, and each call that it counted has its end in the history
pub record HasEnded (spares caller : ℕ) (history : List Entry) (p : PassState) : Type 0 where
  pub own : p.hand ≡ own_hand spares caller
  pub ended : (n : ℕ) → n < p.calls → list_any (ends caller n) history ≡ true

-- the pass of each caller is among these, and each call that it counted has its end
abbrev pub AllEnded : ℕ → ℕ → List Entry → List PassState → Type 0
AllEnded callers spares history passes = (caller : ℕ) → caller < callers → (p : PassState) × Contains passes p × HasEnded spares caller history p

-- which attempt of a reservation a hand with these notes has open; 0 where it has none
abbrev pub attempt_noted : Log → ℕ
attempt_noted notes = option_map_or booked_attempt (booking notes) 0

-- how many stripe numbers a hand with these notes took in its open call
abbrev pub open_numbers : Shape → Log → ℕ
open_numbers shape notes = attempt_noted notes * option_map_or (λ c. stripes_asked shape c.deed) (facts_of notes).call 0

-- each call of a hand with these notes had its end before the next one began
abbrev pub EachEnded : Log → Type 0
EachEnded notes = (i : ℕ) (x : List ℕ) → slice_get notes i ≡ Some x → kind_of x ≡ began → (facts_of (take i notes)).call ≡ None

-- where no call was left open, the numbers taken are no more than the calls that ended may use up, and those that open calls took
abbrev pub AreCovered : Shape → SequencerState → ℕ → Type 0
AreCovered shape s stripes = ((hand : ℕ) → EachEnded (notes_at s.notes hand)) → stripes ≤ numbers_by shape (history_of s.history) + sum_by (open_numbers shape) s.notes

-- an entry that ends the open call of a pass lets it use up as many numbers as it took
abbrev pub IsCovered : Shape → SequencerState → PassState → Entry → Type 0
IsCovered shape s v e = numbers_by shape (history_of s.history) + open_numbers shape v.notes ≤ numbers_by shape (history_of s.history ++ e ∷ [])
