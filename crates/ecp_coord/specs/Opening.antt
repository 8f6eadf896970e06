-- What is found by opening a file, and what is entered for it.
use Rattle.std.specs.Prelude.{ℕ, Bool, List}
use Rattle.std.specs.Option.{option_map_or}
use Rattle.ecp_shape.specs.declared.shape.Shape.{Shape}
use Rattle.ecp_entry.specs.declared.act.Act.TheVariants as act
use Rattle.ecp_entry.specs.declared.deed.Deed.TheVariants.{Cat}
use Rattle.ecp_entry.specs.declared.entry.Entry.{Entry}
use Rattle.ecp_history.specs.declared.table.file.File.{File}
use Rattle.ecp_history.specs.table.Tables.{PlainTable, block_count, file_of}
use Rattle.ecp_sequencer.specs.Passes.{PassState}
use Rattle.ecp_sequencer.specs.Sequencers.{SequencerState}
use Rattle.ecp_coord.specs.declared.opened.Opened.{Opened}
use Rattle.ecp_coord.specs.declared.opened.Opened.TheVariants as found
use Rattle.ecp_coord.specs.Calls.{Ends, Enters, ended, part_of}

-- its bytes, its blocks, and its first stripe
abbrev pub opened_of : Shape → File → Opened
opened_of shape f = found.Opened f.len (block_count shape f) f.first

-- by a table: these of the file with this name, where there is one
abbrev pub found_by_opening : Shape → PlainTable → List ℕ → Opened
found_by_opening shape t name = option_map_or (opened_of shape) (file_of t name) found.NoSuchFile

-- the entry that says so: part 0 of the call that asks for the file, or the end of the call where there is none
abbrev pub opening : PassState → List ℕ → ℕ → Opened → Entry
opening p name position (found.Opened len count first) = part_of p (Cat name) 0 position (act.Opened len count first)
opening p name position found.NoSuchFile = ended p (Cat name) position act.NoSuchFile

-- an event that enters it
abbrev pub Opens : Shape → Bool → SequencerState → PassState → List ℕ → Opened → SequencerState → PassState → Type 0
Opens shape told s v name (found.Opened len count first) t w = Enters shape told s v (Cat name) 0 (act.Opened len count first) t w
Opens shape told s v name found.NoSuchFile t w = Ends shape told s v (Cat name) act.NoSuchFile t w
