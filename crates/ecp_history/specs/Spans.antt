-- Which entries are of a call, and the losses from its start to its end.
use Rattle.std.specs.Prelude.{ℕ, ◌==◌, Bool, true, false, ◌&&◌, List, take, drop, count_by, position, slice_get, is_some}
use Rattle.std.specs.Option.{option_map_or}
use Rattle.ecp_entry.specs.declared.entry.Entry.{Entry}
use Rattle.ecp_entry.specs.declared.part.Part.{Part}
use Rattle.ecp_entry.specs.declared.part.Part.TheVariants as part
use Rattle.ecp_entry.specs.Entries.{loss_of, is_numbered}
use Rattle.ecp_history.specs.Follows.{follows}

-- whether a part is the end
abbrev pub is_end : Part → Bool
is_end part.End = true
is_end (part.Part j) = false

-- whether an entry is of this call
abbrev pub is_of : ℕ → ℕ → Entry → Bool
is_of caller call e = (e.line.caller == caller) && (e.line.call == call)

-- whether an entry ends this call
abbrev pub ends : ℕ → ℕ → Entry → Bool
ends caller call e = is_of caller call e && is_end e.line.part

-- whether an entry is this part of this call
abbrev pub is_part : ℕ → ℕ → ℕ → Entry → Bool
is_part caller call j e = is_of caller call e && is_numbered j e.line.part

-- how many losses stand from the entry that the one at position i must follow to that position
abbrev pub losses_until : List Entry → ℕ → ℕ
losses_until history i =
    option_map_or (λ e. count_by (λ x. is_some (loss_of x)) (drop (follows (take i history) e) (take i history))) (slice_get history i) 0

-- how many losses stand between the entry that the end of a call follows and that end
abbrev pub losses_in : List Entry → ℕ → ℕ → ℕ
losses_in history caller call = option_map_or (losses_until history) (position (ends caller call) history) 0
