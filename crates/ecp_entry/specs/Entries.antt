-- What an entry says, as words and numbers: of its part, its act and its deed.
use Rattle.std.specs.Prelude.{ℕ, ◌==◌, List, [], ◌∷◌, Bool, true, false, ◌&&◌, codes, Option, Some, None}
use Rattle.ecp_entry.specs.declared.act.Act.{Act}
use Rattle.ecp_entry.specs.declared.act.Act.TheVariants.{Stored, NameTaken, TooFewNodes, StoreFailed, Data, NoSuchFile, NoSuchBlock, Unrecoverable, Unsteady, Opened, Whole, Broken, Lost, NoSuchNode, NodeDown, Joined, NodeUp, Listed, NoNode, TargetDown, Restored, AlreadyLive, Clash, Gone, MendFailed, MendUnsteady, MendDown, Rebuilt, Stat, Drop}
use Rattle.ecp_entry.specs.declared.deed.Deed.{Deed}
use Rattle.ecp_entry.specs.declared.deed.Deed.TheVariants as deed
use Rattle.ecp_entry.specs.declared.entry.Entry.{Entry}
use Rattle.ecp_entry.specs.declared.part.Part.{Part}
use Rattle.ecp_entry.specs.declared.part.Part.TheVariants as part

-- the word for an act
abbrev pub act_word : Act → List ℕ
act_word (Stored first stripes up) = codes "stored"
act_word NameTaken = codes "name-taken"
act_word (TooFewNodes up) = codes "few-nodes"
act_word (StoreFailed node) = codes "store-failed"
act_word Data = codes "data"
act_word NoSuchFile = codes "no-file"
act_word (NoSuchBlock count) = codes "no-block"
act_word (Unrecoverable live) = codes "unrecoverable"
act_word (Unsteady at) = codes "unsteady"
act_word (Opened len count first) = codes "opened"
act_word Whole = codes "whole"
act_word (Broken index) = codes "broken"
act_word (Lost count) = codes "lost"
act_word NoSuchNode = codes "no-node"
act_word NodeDown = codes "node-down"
act_word (Joined inc) = codes "joined"
act_word NodeUp = codes "node-up"
act_word (Listed count) = codes "listed"
act_word (NoNode node) = codes "no-node"
act_word (TargetDown node) = codes "node-down"
act_word (Restored stripe row node inc) = codes "restored"
act_word (AlreadyLive stripe row) = codes "already-live"
act_word (Clash stripe row other) = codes "clash"
act_word (Gone stripe row live) = codes "gone"
act_word (MendFailed stripe row node) = codes "mend-failed"
act_word (MendUnsteady stripe row at) = codes "mend-unsteady"
act_word (MendDown stripe row node) = codes "mend-down"
act_word (Rebuilt restored live clash gone failed unsteady down) = codes "rebuilt"
act_word (Stat len count live) = codes "stat"
act_word (Drop stripe row) = codes "drop"

-- the numbers of an act, in their order
abbrev pub act_numbers : Act → List ℕ
act_numbers (Stored first stripes up) = first ∷ stripes ∷ up ∷ []
act_numbers NameTaken = []
act_numbers (TooFewNodes up) = up ∷ []
act_numbers (StoreFailed node) = node ∷ []
act_numbers Data = []
act_numbers NoSuchFile = []
act_numbers (NoSuchBlock count) = count ∷ []
act_numbers (Unrecoverable live) = live ∷ []
act_numbers (Unsteady at) = at
act_numbers (Opened len count first) = len ∷ count ∷ first ∷ []
act_numbers Whole = []
act_numbers (Broken index) = index ∷ []
act_numbers (Lost count) = count ∷ []
act_numbers NoSuchNode = []
act_numbers NodeDown = []
act_numbers (Joined inc) = inc ∷ []
act_numbers NodeUp = []
act_numbers (Listed count) = count ∷ []
act_numbers (NoNode node) = node ∷ []
act_numbers (TargetDown node) = node ∷ []
act_numbers (Restored stripe row node inc) = stripe ∷ row ∷ node ∷ inc ∷ []
act_numbers (AlreadyLive stripe row) = stripe ∷ row ∷ []
act_numbers (Clash stripe row other) = stripe ∷ row ∷ other ∷ []
act_numbers (Gone stripe row live) = stripe ∷ row ∷ live ∷ []
act_numbers (MendFailed stripe row node) = stripe ∷ row ∷ node ∷ []
act_numbers (MendUnsteady stripe row at) = stripe ∷ row ∷ at
act_numbers (MendDown stripe row node) = stripe ∷ row ∷ node ∷ []
act_numbers (Rebuilt restored live clash gone failed unsteady down) =
    restored ∷ live ∷ clash ∷ gone ∷ failed ∷ unsteady ∷ down ∷ []
act_numbers (Stat len count live) = len ∷ count ∷ live ∷ []
act_numbers (Drop stripe row) = stripe ∷ row ∷ []

-- the number of a part, and none for the end
abbrev pub part_numbers : Part → List ℕ
part_numbers (part.Part j) = j ∷ []
part_numbers part.End = []

-- the word for a deed, and none where there is no deed
abbrev pub deed_word : Option Deed → List ℕ
deed_word (Some (deed.Put name len)) = codes "put"
deed_word (Some (deed.Read name index)) = codes "read"
deed_word (Some (deed.Sum name index)) = codes "sum"
deed_word (Some (deed.Cat name)) = codes "cat"
deed_word (Some (deed.Lose node)) = codes "lose"
deed_word (Some (deed.Join node)) = codes "join"
deed_word (Some (deed.Rebuild from to)) = codes "rebuild"
deed_word (Some (deed.Stat name)) = codes "stat"
deed_word None = []

-- the name in a deed, and none where it has none
abbrev pub deed_name : Option Deed → List ℕ
deed_name (Some (deed.Put name len)) = name
deed_name (Some (deed.Read name index)) = name
deed_name (Some (deed.Sum name index)) = name
deed_name (Some (deed.Cat name)) = name
deed_name (Some (deed.Lose node)) = []
deed_name (Some (deed.Join node)) = []
deed_name (Some (deed.Rebuild from to)) = []
deed_name (Some (deed.Stat name)) = name
deed_name None = []

-- the numbers of a deed, in their order
abbrev pub deed_numbers : Option Deed → List ℕ
deed_numbers (Some (deed.Put name len)) = len ∷ []
deed_numbers (Some (deed.Read name index)) = index ∷ []
deed_numbers (Some (deed.Sum name index)) = index ∷ []
deed_numbers (Some (deed.Cat name)) = []
deed_numbers (Some (deed.Lose node)) = node ∷ []
deed_numbers (Some (deed.Join node)) = node ∷ []
deed_numbers (Some (deed.Rebuild from to)) = from ∷ to ∷ []
deed_numbers (Some (deed.Stat name)) = []
deed_numbers None = []

-- the node that a deed makes go down or come up, if it does
abbrev pub deed_node : Option Deed → Option ℕ
deed_node (Some (deed.Put name len)) = None
deed_node (Some (deed.Read name index)) = None
deed_node (Some (deed.Sum name index)) = None
deed_node (Some (deed.Cat name)) = None
deed_node (Some (deed.Lose node)) = Some node
deed_node (Some (deed.Join node)) = Some node
deed_node (Some (deed.Rebuild from to)) = None
deed_node (Some (deed.Stat name)) = None
deed_node None = None

-- the node that an act of this deed loses, if it is a loss
abbrev pub lost_node : Act → Option Deed → Option ℕ
lost_node (Lost count) deed = deed_node deed
lost_node _ deed = None

-- the node that an entry loses, if it is a loss
abbrev pub loss_of : Entry → Option ℕ
loss_of e = lost_node e.line.act e.deed

-- whether an option is this number
abbrev pub is_number : Option ℕ → ℕ → Bool
is_number None m = false
is_number (Some x) m = x == m

-- whether an entry is a loss of this node
abbrev pub is_loss : ℕ → Entry → Bool
is_loss node e = is_number (loss_of e) node

-- whether an act can bring a block to a node: a file stored, or a block restored onto the node
abbrev pub brings : ℕ → Act → Bool
brings node (Stored first stripes up) = true
brings node (Restored stripe row onto inc) = onto == node
brings node _ = false

-- the stripe of an act that gives a block up, if it is one
abbrev pub dropped_stripe : Act → Option ℕ
dropped_stripe (Drop stripe row) = Some stripe
dropped_stripe _ = None

-- whether two entries are of one call
abbrev pub is_same_call : Entry → Entry → Bool
is_same_call e other = (other.line.caller == e.line.caller) && (other.line.call == e.line.call)

-- whether a part is this one
abbrev pub is_numbered : ℕ → Part → Bool
is_numbered j (part.Part i) = i == j
is_numbered j part.End = false

-- whether another entry is this part of the call of e
abbrev pub is_part_of : Entry → ℕ → Entry → Bool
is_part_of e j other = is_same_call e other && is_numbered j other.line.part
