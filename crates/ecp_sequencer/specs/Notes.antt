-- What a hand notes: that a call began, an entry that it made, that its call is over, or what the layer above notes.
use Rattle.std.specs.Prelude.{ℕ, List, [], ◌∷◌, drop, flat_map, slice_index, Option}
use Rattle.ecp_entry.specs.declared.deed.Deed.{Deed}
use Rattle.ecp_entry.specs.declared.entry.Entry.{Entry}
use Rattle.ecp_entry.specs.Entries.{deed_word, deed_name, deed_numbers}
use Rattle.ecp_entry.specs.Items.{item, sized}
use Rattle.ecp_entry.specs.ReadBack.{deed_from, unsized, at}

-- the kinds of note. Those from `other` on are the layer's above
abbrev pub began : ℕ
began = 0

abbrev pub entered : ℕ
entered = 1

-- that the hand's call is over: its caller ended it by its own hand
abbrev pub over : ℕ
over = 2

abbrev pub other : ℕ
other = 3

-- The item of a note: its kind, how long the history was before it, the room of the hand after it, and what it says.
-- `what` is its kind, and behind that what it says
abbrev pub note : ℕ → ℕ → List ℕ → List ℕ
note point room what = slice_index what 0 ∷ point ∷ room ∷ drop 1 what

abbrev pub kind_of : List ℕ → ℕ
kind_of x = slice_index x 0

abbrev pub point_of : List ℕ → ℕ
point_of x = slice_index x 1

abbrev pub room_of : List ℕ → ℕ
room_of x = slice_index x 2

abbrev pub says_of : List ℕ → List ℕ
says_of x = drop 3 x

-- a call of a caller: its number, and what it asks for
pub record Call : Type 0 where
  pub number : ℕ
  pub deed : Option Deed

-- the call that an entry is of
abbrev pub call_of : Entry → Call
call_of e = record { number = e.line.call; deed = e.deed }

-- that this call began: its number, and then the word, the name and the numbers of its deed, each with its size before it
abbrev pub beginning_of : Call → List ℕ
beginning_of c = began ∷ c.number ∷ flat_map sized (deed_word c.deed ∷ deed_name c.deed ∷ deed_numbers c.deed ∷ [])

-- that this hand made this entry: its item
abbrev pub entering_of : ℕ → Entry → List ℕ
entering_of hand e = entered ∷ item hand e

-- that the hand's call is over: it says no more
abbrev pub being_over : List ℕ
being_over = over ∷ []

-- the call that a note of a beginning says began: it reads back what `beginning_of` wrote
unfoldable pub call_from : List ℕ → Call
call_from says =
    let fields : List (List ℕ) = unsized 3 (drop 1 says) in
    record { number = slice_index says 0; deed = deed_from (at fields 0) (at fields 1) (at fields 2) }
