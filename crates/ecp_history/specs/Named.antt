-- What an entry speaks of: a file block, a node, or the two nodes of a rebuild.
use Rattle.std.specs.Prelude.{ℕ, zero, suc, nat_lt, if◌then◌else◌, List, Option, Some, None, IsSomeAnd, option_and_then}
use Rattle.ecp_entry.specs.declared.deed.Deed.{Deed}
use Rattle.ecp_entry.specs.declared.deed.Deed.TheVariants as deed
use Rattle.ecp_entry.specs.declared.entry.Entry.{Entry}
use Rattle.ecp_entry.specs.declared.part.Part.{Part}
use Rattle.ecp_entry.specs.declared.part.Part.TheVariants as part
use Rattle.ecp_shape.specs.declared.shape.Shape.{Shape}
use Rattle.ecp_entry.specs.Entries.{deed_node}
use Rattle.ecp_history.specs.table.Tables.{PlainTable, BlockName, file_of, block_count, file_block}

-- a file block of the file with this name in the table, if there is one of this index
abbrev pub block_at : Shape → PlainTable → List ℕ → ℕ → Option BlockName
block_at shape t name j =
    option_and_then (λ f. if nat_lt j (block_count shape f) then Some (file_block shape f j) else None) (file_of t name)

-- the block that part j + 1 of a `cat` speaks of
abbrev pub part_block : Shape → PlainTable → List ℕ → Part → Option BlockName
part_block shape t name (part.Part zero) = None
part_block shape t name (part.Part (suc j)) = block_at shape t name j
part_block shape t name part.End = None

-- the file block that a deed and a part name, as far as the table has it
abbrev pub deed_block : Shape → PlainTable → Part → Option Deed → Option BlockName
deed_block shape t at (Some (deed.Read name index)) = block_at shape t name index
deed_block shape t at (Some (deed.Sum name index)) = block_at shape t name index
deed_block shape t at (Some (deed.Cat name)) = part_block shape t name at
deed_block shape t at _ = None

-- the file block that an entry speaks of, as far as the table has it
abbrev pub named_block : Shape → PlainTable → Entry → Option BlockName
named_block shape t e = deed_block shape t e.line.part e.deed

-- the index that a deed names, if it names one
abbrev pub deed_index : Option Deed → Option ℕ
deed_index (Some (deed.Read name index)) = Some index
deed_index (Some (deed.Sum name index)) = Some index
deed_index _ = None

-- the node whose blocks a rebuild restores
abbrev pub source_of : Option Deed → Option ℕ
source_of (Some (deed.Rebuild from to)) = Some from
source_of _ = None

-- the node that a rebuild restores them onto
abbrev pub target_of : Option Deed → Option ℕ
target_of (Some (deed.Rebuild from to)) = Some to
target_of _ = None

-- P holds of the node that the deed makes go down or come up
abbrev pub OfNode : Option Deed → (ℕ → Type 0) → Type 0
OfNode deed P = IsSomeAnd (deed_node deed) P

-- P holds of the node that a rebuild restores from, and of the one that it restores onto
abbrev pub OfRebuild : Option Deed → (ℕ → ℕ → Type 0) → Type 0
OfRebuild deed P = IsSomeAnd (source_of deed) (λ from. IsSomeAnd (target_of deed) (P from))

-- P holds of the node that a rebuild restores onto
abbrev pub OfTarget : Option Deed → (ℕ → Type 0) → Type 0
OfTarget deed P = IsSomeAnd (target_of deed) P
