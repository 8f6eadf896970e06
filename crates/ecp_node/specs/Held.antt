-- What the log of a node says: how often the node was wiped and its store failed, and which blocks it holds. It is all
-- said of lists of items, so that it can be said of a node's log and of each beginning of it.
use Rattle.std.specs.Prelude.{◌≡◌, ℕ, ◌+◌, ◌-◌, ◌≤◌, Bool, ◌||◌, if◌then◌else◌, List, length, drop, count_by, slice_get, Option, Some, None}
use Rattle.std.specs.List.{list_any}
use Rattle.std.specs.Option.{option_and_then}
use Rattle.ecp_book.specs.Logs.{Log}
use Rattle.ecp_node.specs.declared.limits.TheConstants.{LOG_END}
use Rattle.ecp_node.specs.Items.{Kept, kept_item, kept_as, is_wiped, is_removed, is_faulted, is_spent}

-- how often the node was wiped: the number of its incarnation
abbrev pub wipes : Log → ℕ
wipes log = count_by is_wiped log

-- how many failures of the store the log has
abbrev pub faults : Log → ℕ
faults log = count_by is_faulted log

-- how many of them were spent
abbrev pub spends : Log → ℕ
spends log = count_by is_spent log

-- The block with this serial was kept. A serial is the length that the log had then, so it is the item's place
abbrev pub IsKept : Log → Kept → Type 0
IsKept log kept = slice_get log kept.serial ≡ Some (kept_item kept)

-- whether the item gives up the block with this serial
abbrev pub gives_up : ℕ → List ℕ → Bool
gives_up serial item = is_wiped item || is_removed serial item

-- whether the block with this serial is lost: an item after its own gives it up
abbrev pub is_lost : Log → ℕ → Bool
is_lost log serial = list_any (gives_up serial) (drop (serial + 1) log)

-- the block with this serial, where the log holds it: it was kept, and no later item gives it up
abbrev pub held_at : Log → ℕ → Option Kept
held_at log serial = if is_lost log serial then None else option_and_then (kept_as serial) (slice_get log serial)

-- the log holds this block
abbrev pub IsHeld : Log → Kept → Type 0
IsHeld log kept = held_at log kept.serial ≡ Some kept

-- How many places of the log are taken or promised: each failure that is not spent has the place of its spending
abbrev pub places : Log → ℕ
places log = length log + (faults log - spends log)

-- the log is at its end: what is left is for wipes and spendings alone
abbrev pub IsAtEnd : Log → Type 0
IsAtEnd log = LOG_END ≤ places log
