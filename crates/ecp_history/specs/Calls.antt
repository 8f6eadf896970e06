-- Which act fits which deed and part, and what an entry says beside its act.
use Rattle.std.specs.Prelude.{◌≡◌, ℕ, zero, suc, ◌<◌, ◌≤◌, ◌⊎◌, List, [], length, Option, Some, None, ⊤}
use Rattle.ecp_shape.specs.declared.limits.TheConstants.{MAX_SESSIONS}
use Rattle.ecp_entry.specs.declared.act.Act.{Act}
use Rattle.ecp_entry.specs.declared.act.Act.TheVariants.{Stored, NameTaken, TooFewNodes, StoreFailed, Data, NoSuchFile, NoSuchBlock, Unrecoverable, Unsteady, Opened, Whole, Broken, Lost, NoSuchNode, NodeDown, Joined, NodeUp, Listed, NoNode, TargetDown, Restored, AlreadyLive, Clash, Gone, MendFailed, MendUnsteady, MendDown, Rebuilt, Stat, Drop}
use Rattle.ecp_entry.specs.declared.deed.Deed.{Deed}
use Rattle.ecp_entry.specs.declared.deed.Deed.TheVariants as deed
use Rattle.ecp_entry.specs.declared.entry.Entry.{Entry}
use Rattle.ecp_entry.specs.declared.part.Part.{Part}
use Rattle.ecp_entry.specs.declared.part.Part.TheVariants as part
use Rattle.ecp_entry.specs.Entries.{deed_name}

-- the kinds of call
pub data Kind : Type 0 where
  ToPut : Kind
  ToRead : Kind
  ToCat : Kind
  ToLose : Kind
  ToJoin : Kind
  ToRebuild : Kind
  ToStat : Kind
  ToDrop : Kind

-- the places of an entry in its call: its end, its part 0, or a later part
pub data Place : Type 0 where
  AtEnd : Place
  AtFirst : Place
  AtLater : Place

-- the kind of a call with this deed; a `sum` is a kind of read
abbrev pub kind_of : Option Deed → Kind
kind_of (Some (deed.Put name len)) = ToPut
kind_of (Some (deed.Read name index)) = ToRead
kind_of (Some (deed.Sum name index)) = ToRead
kind_of (Some (deed.Cat name)) = ToCat
kind_of (Some (deed.Lose node)) = ToLose
kind_of (Some (deed.Join node)) = ToJoin
kind_of (Some (deed.Rebuild from to)) = ToRebuild
kind_of (Some (deed.Stat name)) = ToStat
kind_of None = ToDrop

-- where this part stands in its call
abbrev pub place_of : Part → Place
place_of (part.Part zero) = AtFirst
place_of (part.Part (suc j)) = AtLater
place_of part.End = AtEnd

-- the one reply of a read, a `sum` or a later part of a `cat`
abbrev pub OfBlock : Kind → Place → Type 0
OfBlock kind at = ((kind ≡ ToRead) × (at ≡ AtEnd)) ⊎ ((kind ≡ ToCat) × (at ≡ AtLater))

-- the act is one that a call of this kind has at this place
abbrev pub FitsCall : Kind → Place → Act → Type 0
FitsCall kind at (Stored first stripes up) = (kind ≡ ToPut) × (at ≡ AtEnd)
FitsCall kind at NameTaken = (kind ≡ ToPut) × (at ≡ AtEnd)
FitsCall kind at (TooFewNodes up) = (kind ≡ ToPut) × (at ≡ AtEnd)
FitsCall kind at (StoreFailed node) = (kind ≡ ToPut) × (at ≡ AtEnd)
FitsCall kind at Data = OfBlock kind at
FitsCall kind at NoSuchFile = ((kind ≡ ToRead) ⊎ ((kind ≡ ToCat) ⊎ (kind ≡ ToStat))) × (at ≡ AtEnd)
FitsCall kind at (NoSuchBlock count) = (kind ≡ ToRead) × (at ≡ AtEnd)
FitsCall kind at (Unrecoverable live) = OfBlock kind at
FitsCall kind at (Unsteady positions) = OfBlock kind at ⊎ ((kind ≡ ToPut) × (at ≡ AtEnd))
FitsCall kind at (Opened len count first) = (kind ≡ ToCat) × (at ≡ AtFirst)
FitsCall kind at Whole = (kind ≡ ToCat) × (at ≡ AtEnd)
FitsCall kind at (Broken index) = (kind ≡ ToCat) × (at ≡ AtEnd)
FitsCall kind at (Lost count) = (kind ≡ ToLose) × (at ≡ AtEnd)
FitsCall kind at NoSuchNode = ((kind ≡ ToLose) ⊎ (kind ≡ ToJoin)) × (at ≡ AtEnd)
FitsCall kind at NodeDown = (kind ≡ ToLose) × (at ≡ AtEnd)
FitsCall kind at (Joined inc) = (kind ≡ ToJoin) × (at ≡ AtEnd)
FitsCall kind at NodeUp = (kind ≡ ToJoin) × (at ≡ AtEnd)
FitsCall kind at (Listed count) = (kind ≡ ToRebuild) × (at ≡ AtFirst)
FitsCall kind at (NoNode node) = (kind ≡ ToRebuild) × (at ≡ AtEnd)
FitsCall kind at (TargetDown node) = (kind ≡ ToRebuild) × (at ≡ AtEnd)
FitsCall kind at (Restored stripe row node inc) = (kind ≡ ToRebuild) × (at ≡ AtLater)
FitsCall kind at (AlreadyLive stripe row) = (kind ≡ ToRebuild) × (at ≡ AtLater)
FitsCall kind at (Clash stripe row other) = (kind ≡ ToRebuild) × (at ≡ AtLater)
FitsCall kind at (Gone stripe row live) = (kind ≡ ToRebuild) × (at ≡ AtLater)
FitsCall kind at (MendFailed stripe row node) = (kind ≡ ToRebuild) × (at ≡ AtLater)
FitsCall kind at (MendUnsteady stripe row positions) = (kind ≡ ToRebuild) × (at ≡ AtLater)
FitsCall kind at (MendDown stripe row node) = (kind ≡ ToRebuild) × (at ≡ AtLater)
FitsCall kind at (Rebuilt restored live clash gone failed unsteady down) = (kind ≡ ToRebuild) × (at ≡ AtEnd)
FitsCall kind at (Stat len count live) = (kind ≡ ToStat) × (at ≡ AtEnd)
FitsCall kind at (Drop stripe row) = (kind ≡ ToDrop) × (at ≡ AtEnd)

-- callers below the number of sessions are sessions; the others are nodes, and have no call but to give a block up
abbrev pub FitsCaller : ℕ → Option Deed → Type 0
FitsCaller caller None = MAX_SESSIONS ≤ caller
FitsCaller caller (Some _) = caller < MAX_SESSIONS

-- the length of the file of a put
abbrev pub put_len : Option Deed → Option ℕ
put_len (Some (deed.Put name len)) = Some len
put_len _ = None

-- an entry has the file's bytes if it stored one, and a block's if it is one that was read, and else none
abbrev pub FitsBytes : Option Deed → List ℕ → Act → Type 0
FitsBytes deed bytes (Stored first stripes up) = put_len deed ≡ Some (length bytes)
FitsBytes deed bytes Data = ⊤
FitsBytes deed bytes _ = bytes ≡ []

-- the act, the deed, the part, the name and the bytes of an entry agree
pub record Agrees (e : Entry) : Type 0 where
  pub call : FitsCall (kind_of e.deed) (place_of e.line.part) e.line.act
  pub caller : FitsCaller e.line.caller e.deed
  pub name : e.name ≡ deed_name e.deed
  pub bytes : FitsBytes e.deed e.bytes e.line.act
