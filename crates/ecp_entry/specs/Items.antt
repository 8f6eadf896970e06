-- The item by which a log has an entry: a list of whole numbers that nobody stores.
use Rattle.std.specs.Prelude.{ℕ, List, [], ◌∷◌, ◌++◌, length, flat_map}
use Rattle.ecp_shape.specs.Losses.{loss_mark}
use Rattle.ecp_entry.specs.declared.entry.Entry.{Entry}
use Rattle.ecp_entry.specs.Entries.{act_word, act_numbers, part_numbers, deed_word, deed_name, deed_numbers, loss_of}

-- some numbers, and before them how many they are
abbrev pub sized : List ℕ → List ℕ
sized xs = length xs ∷ xs

-- all that an entry says, and before it the number of the hand that made it
abbrev pub fields : ℕ → Entry → List (List ℕ)
fields hand e =
    (hand ∷ e.line.caller ∷ e.line.call ∷ e.line.point ∷ [])
    ∷ part_numbers e.line.part
    ∷ act_word e.line.act ∷ act_numbers e.line.act
    ∷ deed_word e.deed ∷ deed_name e.deed ∷ deed_numbers e.deed
    ∷ e.name ∷ e.bytes ∷ []

-- the item of an entry that this hand made. That of a loss of node m begins with 1 and m, that of any other entry with 0
abbrev pub item : ℕ → Entry → List ℕ
item hand e = loss_mark (loss_of e) ++ flat_map sized (fields hand e)
