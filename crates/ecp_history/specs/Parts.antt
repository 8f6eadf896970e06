-- What must stand before a part of a `cat` or a rebuild, and which block it is about.
use Rattle.std.specs.Prelude.{◌≡◌, ℕ, zero, suc, ◌-◌, ◌==◌, Bool, true, false, ◌&&◌, List, slice_get, Option, Some, None, IsTrue, IfSome}
use Rattle.std.specs.List.{list_any}
use Rattle.ecp_entry.specs.declared.act.Act.{Act}
use Rattle.ecp_entry.specs.declared.act.Act.TheVariants.{Data, NoSuchFile, Opened, NoNode, TargetDown, Restored, AlreadyLive, Clash, Gone, MendFailed, MendUnsteady, MendDown}
use Rattle.ecp_entry.specs.declared.deed.Deed.{Deed}
use Rattle.ecp_entry.specs.declared.deed.Deed.TheVariants as deed
use Rattle.ecp_entry.specs.declared.entry.Entry.{Entry}
use Rattle.ecp_entry.specs.declared.part.Part.{Part}
use Rattle.ecp_entry.specs.declared.part.Part.TheVariants as part
use Rattle.ecp_shape.specs.declared.shape.Shape.{Shape}
use Rattle.ecp_entry.specs.Entries.{is_part_of, is_same_call}
use Rattle.ecp_history.specs.table.Tables.{BlockName, lost_on}
use Rattle.ecp_history.specs.table.Steps.{table_at}
use Rattle.ecp_history.specs.Follows.{follows}

-- the blocks that part 0 of this rebuild listed: those lost on the node at its position
abbrev pub listed : Shape → List Entry → Entry → ℕ → List BlockName
listed shape before e from = lost_on (table_at shape before (follows before e - 1)) from

-- the block that a part of a rebuild says it is about
abbrev pub mended : Act → Option BlockName
mended (Restored stripe row node inc) = Some (record { stripe = stripe; row = row })
mended (AlreadyLive stripe row) = Some (record { stripe = stripe; row = row })
mended (Clash stripe row other) = Some (record { stripe = stripe; row = row })
mended (Gone stripe row live) = Some (record { stripe = stripe; row = row })
mended (MendFailed stripe row node) = Some (record { stripe = stripe; row = row })
mended (MendUnsteady stripe row at) = Some (record { stripe = stripe; row = row })
mended (MendDown stripe row node) = Some (record { stripe = stripe; row = row })
mended _ = None

-- the node that a part of a rebuild names, if it names one
abbrev pub mending_node : Act → Option ℕ
mending_node (Restored stripe row node inc) = Some node
mending_node (MendFailed stripe row node) = Some node
mending_node (MendDown stripe row node) = Some node
mending_node _ = None

-- whether an act is data
abbrev pub is_data : Act → Bool
is_data Data = true
is_data _ = false

-- whether an act opens a file of this many blocks
abbrev pub opens : ℕ → Act → Bool
opens c (Opened len count first) = count == c
opens c _ = false

-- whether an act opens a file
abbrev pub is_opened : Act → Bool
is_opened (Opened len count first) = true
is_opened _ = false

-- some part j of the call of e stands before it, with an act that passes the test
abbrev pub HasPart : List Entry → Entry → ℕ → (Act → Bool) → Type 0
HasPart before e j test = IsTrue (list_any (λ x. is_part_of e j x && test x.line.act) before)

-- part j + 1 of a `cat` has before it the `Opened` where j is 0, and else a part with data
abbrev pub FollowsData : List Entry → Entry → ℕ → Type 0
FollowsData before e zero = HasPart before e 0 is_opened
FollowsData before e (suc j) = HasPart before e (suc j) is_data

-- part j of a rebuild, from 1, is about the block at place j of its list, and on the node that the deed names
pub record IsMending (shape : Shape) (before : List Entry) (e : Entry) (from to j : ℕ) : Type 0 where
  pub listed_block : mended e.line.act ≡ slice_get (listed shape before e from) j
  pub onto : IfSome (mending_node e.line.act) (λ node. node ≡ to)

-- what must stand before a part from 1 on of a call with this deed
abbrev pub LaterPartFits : Shape → List Entry → Entry → ℕ → Option Deed → Type 0
LaterPartFits shape before e j (Some (deed.Cat name)) = FollowsData before e j
LaterPartFits shape before e j (Some (deed.Rebuild from to)) = IsMending shape before e from to j
LaterPartFits shape before e j _ = ⊥

-- whether an act refuses a whole call
abbrev pub refuses : Act → Bool
refuses NoSuchFile = true
refuses (NoNode node) = true
refuses (TargetDown node) = true
refuses _ = false

-- no earlier entry is of the call of e
abbrev pub IsAlone : List Entry → Entry → Type 0
IsAlone before e = list_any (is_same_call e) before ≡ false

-- what must stand before a part of a call with this deed: nothing of the call before part 0, nor before the end of one
-- that is refused as a whole
abbrev pub PartFits : Shape → List Entry → Entry → Part → Type 0
PartFits shape before e (part.Part zero) = IsAlone before e
PartFits shape before e (part.Part (suc j)) = LaterPartFits shape before e j e.deed
PartFits shape before e part.End = IsTrue (refuses e.line.act) → IsAlone before e
