-- What is found by stating a file.
use Rattle.std.specs.Prelude.{ℕ, ◌+◌, ◌≤◌, List}
use Rattle.std.specs.Option.{option_map_or}
use Rattle.ecp_shape.specs.declared.shape.Shape.{Shape}
use Rattle.ecp_entry.specs.declared.act.Act.{Act}
use Rattle.ecp_entry.specs.declared.act.Act.TheVariants as act
use Rattle.ecp_history.specs.declared.table.file.File.{File}
use Rattle.ecp_history.specs.table.Tables.{PlainTable, block_count, file_live, file_of}
use Rattle.ecp_catalog.specs.declared.limits.TheConstants.{END_OF_STRIPES}

-- its bytes, its blocks, and how many blocks are live over all rows of all its stripes
abbrev pub stat_of : Shape → PlainTable → File → Act
stat_of shape t f = act.Stat f.len (block_count shape f) (file_live t f)

-- by a table: these of the file with this name, where there is one
abbrev pub found_by_stating : Shape → PlainTable → List ℕ → Act
found_by_stating shape t name = option_map_or (stat_of shape t) (file_of t name) act.NoSuchFile

-- the stripes of a file have numbers that a catalog keeps
abbrev pub HasNumbers : File → Type 0
HasNumbers f = f.first + f.stripes ≤ END_OF_STRIPES
