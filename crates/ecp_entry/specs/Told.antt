-- What the items of a log tell: the entries of a history, and which hand made each.
use Rattle.std.specs.Prelude.{◌≡◌, ℕ, ◌==◌, List, map, filter}
use Rattle.ecp_entry.specs.declared.entry.Entry.{Entry}
use Rattle.ecp_entry.specs.Items.{item}
use Rattle.ecp_entry.specs.ReadBack.{entry_from, hand_from, unsized, after_mark}

-- an entry, and the number of the hand that made it
pub record Made : Type 0 where
  pub hand : ℕ
  pub entry : Entry

-- the items of these entries, each made by its hand
abbrev pub items_of : List Made → List (List ℕ)
items_of made = map (λ m. item m.hand m.entry) made

-- the entries, whoever made them
abbrev pub entries_of : List Made → List Entry
entries_of made = map (λ m. m.entry) made

-- these are the items of these entries, each made by its hand
abbrev pub Tells : List (List ℕ) → List Made → Type 0
Tells items made = items ≡ items_of made

-- the hand and the entry that an item tells: it reads back what `item` wrote
unfoldable pub made_from : List ℕ → Made
made_from x =
    let fields : List (List ℕ) = unsized 9 (after_mark x) in
    record { hand = hand_from fields; entry = entry_from fields }

-- what items tell, each by itself
abbrev pub made_of : List (List ℕ) → List Made
made_of items = map made_from items

-- the history that items tell
abbrev pub history_of : List (List ℕ) → List Entry
history_of items = entries_of (made_of items)

-- the items of this hand among others, in their order
abbrev pub items_by : ℕ → List (List ℕ) → List (List ℕ)
items_by hand items = filter (λ x. (made_from x).hand == hand) items

-- the entries that this hand made among those that items tell, in their order
abbrev pub by_hand : ℕ → List (List ℕ) → List Entry
by_hand hand items = history_of (items_by hand items)
