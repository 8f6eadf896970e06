-- What is found by listing the blocks that a rebuild is to restore, and what is entered for it.
use Rattle.std.specs.Prelude.{◌≡◌, ℕ, ◌^◌, ◌<◌, nat_lt, Bool, if◌then◌else◌, ◌⊎◌, List, [], length, Option, Some, None, Result, Ok, Err, Vec}
use Rattle.std.specs.declared.alloc.Global.{Global}
use Rattle.ecp_shape.specs.declared.shape.Shape.{Shape}
use Rattle.ecp_entry.specs.declared.act.Act.{Act}
use Rattle.ecp_entry.specs.declared.act.Act.TheVariants as act
use Rattle.ecp_entry.specs.declared.deed.Deed.TheVariants.{Rebuild}
use Rattle.ecp_entry.specs.declared.entry.Entry.{Entry}
use Rattle.ecp_history.specs.declared.task.Task.{Task}
use Rattle.ecp_history.specs.table.Tables.{PlainTable, is_up, lost_on}
use Rattle.ecp_catalog.specs.LostBlocks.{tasks_of}
use Rattle.ecp_sequencer.specs.Passes.{PassState}
use Rattle.ecp_sequencer.specs.Sequencers.{SequencerState}
use Rattle.ecp_coord.specs.declared.no_list.NoList.{NoList}
use Rattle.ecp_coord.specs.declared.no_list.NoList.TheVariants.{NoSuchNode, TargetDown, NoMemory}
use Rattle.ecp_coord.specs.Calls.{Enters, ended, part_of}
use Rattle.ecp_coord.specs.Refusals.{EndsWhere}

-- what hinders a rebuild of the first node onto the second, by a table: the first is none, or else the second is none, or else it is down
abbrev pub hindrance : Shape → PlainTable → ℕ → ℕ → Option NoList
hindrance shape t from to =
    if nat_lt from shape.nodes then (if nat_lt to shape.nodes then (if is_up t to then None else Some (TargetDown to)) else Some (NoSuchNode to))
    else Some (NoSuchNode from)

-- the act that says so in the history. Want of memory says nothing
abbrev pub act_hindering : NoList → Option Act
act_hindering (NoSuchNode node) = Some (act.NoNode node)
act_hindering (TargetDown node) = Some (act.TargetDown node)
act_hindering NoMemory = None

-- By a table: a task for each block that is lost and stands on the first node, where nothing hinders that; else what hinders it. Want of
-- memory comes only where nothing else hinders
abbrev pub AnswersList : Shape → PlainTable → ℕ → ℕ → Result (Vec Task Global) NoList → Type 0
AnswersList shape t from to (Ok tasks) = (hindrance shape t from to ≡ None) × (tasks.items ≡ tasks_of (lost_on t from))
AnswersList shape t from to (Err why) = (hindrance shape t from to ≡ Some why) ⊎ ((why ≡ NoMemory) × (hindrance shape t from to ≡ None))

-- The event: part 0 of the call says how many tasks there are. Where there are none to give, the call ends with the reason, and for want of
-- memory nothing is noted
abbrev pub Lists : Shape → Bool → SequencerState → PassState → ℕ → ℕ → Result (Vec Task Global) NoList → SequencerState → PassState → Type 0
Lists shape told s v from to (Ok tasks) t w = Enters shape told s v (Rebuild from to) 0 (act.Listed (length tasks.items)) t w
Lists shape told s v from to (Err why) t w = EndsWhere shape told s v (Rebuild from to) (act_hindering why) t w
