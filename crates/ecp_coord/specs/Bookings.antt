-- What a coordinator keeps of all reservations: no two have one stripe number, and those of an open call can still be stored.
use Rattle.std.specs.Prelude.{◌≡◌, ◌≢◌, ℕ, ◌+◌, ◌-◌, ◌*◌, ◌≤◌, ◌==◌, ◌⊎◌, Bool, true, if◌then◌else◌, List, [], length, map, filter, sum, sum_by, count_by, slice_get, slice_index, is_some, option_and_then, All, Option, Some}
use Rattle.std.specs.Option.{option_map_or}
use Rattle.ecp_shape.specs.declared.limits.TheConstants.{MAX_ATTEMPTS}
use Rattle.ecp_book.specs.Logs.{Log}
use Rattle.ecp_entry.specs.declared.entry.Entry.{Entry}
use Rattle.ecp_entry.specs.Entries.{deed_name}
use Rattle.ecp_entry.specs.Told.{history_of}
use Rattle.ecp_history.specs.Acts.{AreFresh}
use Rattle.ecp_history.specs.Files.{StripesBelow}
use Rattle.ecp_catalog.specs.declared.limits.TheConstants.{END_OF_STRIPES}
use Rattle.ecp_catalog.specs.Catalogs.{CatalogState, is_entered}
use Rattle.ecp_sequencer.specs.Notes.{kind_of, says_of}
use Rattle.ecp_sequencer.specs.Facts.{facts_of}
use Rattle.ecp_sequencer.specs.Histories.{notes_at}
use Rattle.ecp_sequencer.specs.Sequencers.{SequencerState}

-- the kind of a note of a reservation, or of a later attempt of it
abbrev pub reserved : ℕ
reserved = 4

-- whether a note is of that kind
abbrev pub is_reserved : List ℕ → Bool
is_reserved x = kind_of x == reserved

-- what some notes say of reservations
abbrev pub bookings_in : Log → List (List ℕ)
bookings_in notes = map says_of (filter is_reserved notes)

-- what a hand with these notes noted of reservations since its call began
abbrev pub bookings_noted : Log → List (List ℕ)
bookings_noted notes = bookings_in (facts_of notes).since

-- the stripe numbers of a reservation, as its note says them: the first, and how many there are; and which attempt it is
abbrev pub booked_first : List ℕ → ℕ
booked_first says = slice_index says 0

abbrev pub booked_count : List ℕ → ℕ
booked_count says = slice_index says 1

abbrev pub booked_attempt : List ℕ → ℕ
booked_attempt says = slice_index says 2

-- the last of these
abbrev pub last_of : List (List ℕ) → Option (List ℕ)
last_of xs = slice_get xs (length xs - 1)

-- the reservation that a hand with these notes has open: the last one of its open call
abbrev pub booking : Log → Option (List ℕ)
booking notes = option_and_then (λ c. last_of (bookings_noted notes)) (facts_of notes).call

-- how many stripe numbers the later attempts of a reservation may take
abbrev pub still_due : List ℕ → ℕ
still_due b = (MAX_ATTEMPTS - booked_attempt b) * booked_count b

-- how many stripe numbers a hand with these notes may still take for the later attempts of the one that it has open
abbrev pub promised : Log → ℕ
promised notes = option_map_or still_due (booking notes) 0

-- how many stripe numbers a note took
abbrev pub taken_at : List ℕ → ℕ
taken_at x = if is_reserved x then booked_count (says_of x) else 0

-- how many stripe numbers a hand with these notes took by all its reservations
abbrev pub taken_by : Log → ℕ
taken_by notes = sum_by taken_at notes

-- the name in the deed of an open call, if it has one
abbrev pub name_open : Log → List ℕ
name_open notes = option_map_or (λ c. deed_name c.deed) (facts_of notes).call []

-- A reservation that a hand has open can be stored: its numbers are those of no file, its name is entered
pub record CanBeStored (history : List Entry) (c : CatalogState) (stripes : ℕ) (notes : Log) (b : List ℕ) : Type 0 where
  pub below : booked_first b + booked_count b ≤ stripes
  pub fresh : AreFresh history (booked_first b) (booked_count b)
  pub entered : is_entered c.names (name_open notes) ≡ true

-- two reservations have no number in common
abbrev pub AreApart : List ℕ → List ℕ → Type 0
AreApart a b = (booked_first a + booked_count a ≤ booked_first b) ⊎ (booked_first b + booked_count b ≤ booked_first a)

-- how many hands have a reservation open
abbrev pub bookers : List Log → ℕ
bookers notes = count_by (λ ns. is_some (booking ns)) notes

-- What is kept of all reservations. So many stripe numbers are taken by all of them together; no file has another. Each that is open can be
-- stored, no two of those have a number in common, and there is room for a file of each. For the later attempts of each there are numbers
pub record AreBooked (s : SequencerState) (c : CatalogState) (stripes : ℕ) (promises : List ℕ) : Type 0 where
  pub counted : stripes ≡ sum_by taken_by s.notes
  pub stored : All (λ e. StripesBelow stripes e.line.act) (history_of s.history)
  pub each : (hand : ℕ) (b : List ℕ) → booking (notes_at s.notes hand) ≡ Some b → CanBeStored (history_of s.history) c stripes (notes_at s.notes hand) b
  pub apart : (g h : ℕ) (a b : List ℕ) → g ≢ h → booking (notes_at s.notes g) ≡ Some a → booking (notes_at s.notes h) ≡ Some b → AreApart a b
  pub room : bookers s.notes ≤ c.room
  pub due : (hand : ℕ) → promised (notes_at s.notes hand) ≤ slice_index promises hand
  pub numbers : stripes + sum promises ≤ END_OF_STRIPES
  pub sized : length promises ≡ length s.notes
