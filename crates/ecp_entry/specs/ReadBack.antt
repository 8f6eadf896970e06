-- An entry read back from the words and numbers by which an item has it.
use Rattle.std.specs.Prelude.{ℕ, zero, suc, if◌then◌else◌, List, [], ◌∷◌, take, drop, Option, Some, None, slice_index, slice_index_or, bytes_eq, codes}
use Rattle.ecp_entry.specs.declared.act.Act.{Act}
use Rattle.ecp_entry.specs.declared.act.Act.TheVariants.{Stored, NameTaken, TooFewNodes, StoreFailed, Data, NoSuchFile, NoSuchBlock, Unrecoverable, Unsteady, Opened, Whole, Broken, Lost, NoSuchNode, NodeDown, Joined, NodeUp, Listed, NoNode, TargetDown, Restored, AlreadyLive, Clash, Gone, MendFailed, MendUnsteady, MendDown, Rebuilt, Stat, Drop}
use Rattle.ecp_entry.specs.declared.deed.Deed.{Deed}
use Rattle.ecp_entry.specs.declared.deed.Deed.TheVariants as deed
use Rattle.ecp_entry.specs.declared.entry.Entry.{Entry}
use Rattle.ecp_entry.specs.declared.line.Line.{Line}
use Rattle.ecp_entry.specs.declared.part.Part.{Part}
use Rattle.ecp_entry.specs.declared.part.Part.TheVariants as part

-- the number of a part, if there is one, gives the part
abbrev pub part_from : List ℕ → Part
part_from [] = part.End
part_from (j ∷ js) = part.Part j

-- `no-node` and `node-down` have a number only in a rebuild
abbrev pub no_node_from : List ℕ → Act
no_node_from [] = NoSuchNode
no_node_from (x ∷ xs) = NoNode x

abbrev pub node_down_from : List ℕ → Act
node_down_from [] = NodeDown
node_down_from (x ∷ xs) = TargetDown x

-- the act with this word and these numbers: those of calls that are no rebuilds
abbrev pub act_from : List ℕ → List ℕ → Act
act_from w ns =
    if bytes_eq w (codes "stored") then Stored (slice_index ns 0) (slice_index ns 1) (slice_index ns 2)
    else if bytes_eq w (codes "name-taken") then NameTaken
    else if bytes_eq w (codes "few-nodes") then TooFewNodes (slice_index ns 0)
    else if bytes_eq w (codes "store-failed") then StoreFailed (slice_index ns 0)
    else if bytes_eq w (codes "data") then Data
    else if bytes_eq w (codes "no-file") then NoSuchFile
    else if bytes_eq w (codes "no-block") then NoSuchBlock (slice_index ns 0)
    else if bytes_eq w (codes "unrecoverable") then Unrecoverable (slice_index ns 0)
    else if bytes_eq w (codes "unsteady") then Unsteady ns
    else if bytes_eq w (codes "opened") then Opened (slice_index ns 0) (slice_index ns 1) (slice_index ns 2)
    else if bytes_eq w (codes "whole") then Whole
    else if bytes_eq w (codes "broken") then Broken (slice_index ns 0)
    else if bytes_eq w (codes "lost") then Lost (slice_index ns 0)
    else if bytes_eq w (codes "no-node") then no_node_from ns
    else if bytes_eq w (codes "node-down") then node_down_from ns
    else if bytes_eq w (codes "joined") then Joined (slice_index ns 0)
    else if bytes_eq w (codes "node-up") then NodeUp
    else if bytes_eq w (codes "listed") then Listed (slice_index ns 0)
    else if bytes_eq w (codes "restored") then Restored (slice_index ns 0) (slice_index ns 1) (slice_index ns 2) (slice_index ns 3)
    else if bytes_eq w (codes "already-live") then AlreadyLive (slice_index ns 0) (slice_index ns 1)
    else if bytes_eq w (codes "clash") then Clash (slice_index ns 0) (slice_index ns 1) (slice_index ns 2)
    else if bytes_eq w (codes "gone") then Gone (slice_index ns 0) (slice_index ns 1) (slice_index ns 2)
    else if bytes_eq w (codes "mend-failed") then MendFailed (slice_index ns 0) (slice_index ns 1) (slice_index ns 2)
    else if bytes_eq w (codes "mend-unsteady") then MendUnsteady (slice_index ns 0) (slice_index ns 1) (drop 2 ns)
    else if bytes_eq w (codes "mend-down") then MendDown (slice_index ns 0) (slice_index ns 1) (slice_index ns 2)
    else if bytes_eq w (codes "rebuilt") then Rebuilt (slice_index ns 0) (slice_index ns 1) (slice_index ns 2) (slice_index ns 3) (slice_index ns 4) (slice_index ns 5) (slice_index ns 6)
    else if bytes_eq w (codes "stat") then Stat (slice_index ns 0) (slice_index ns 1) (slice_index ns 2)
    else Drop (slice_index ns 0) (slice_index ns 1)

-- the deed with this word, this name and these numbers
abbrev pub deed_from : List ℕ → List ℕ → List ℕ → Option Deed
deed_from w name ns =
    if bytes_eq w (codes "put") then Some (deed.Put name (slice_index ns 0))
    else if bytes_eq w (codes "read") then Some (deed.Read name (slice_index ns 0))
    else if bytes_eq w (codes "sum") then Some (deed.Sum name (slice_index ns 0))
    else if bytes_eq w (codes "cat") then Some (deed.Cat name)
    else if bytes_eq w (codes "lose") then Some (deed.Lose (slice_index ns 0))
    else if bytes_eq w (codes "join") then Some (deed.Join (slice_index ns 0))
    else if bytes_eq w (codes "rebuild") then Some (deed.Rebuild (slice_index ns 0) (slice_index ns 1))
    else if bytes_eq w (codes "stat") then Some (deed.Stat name)
    else None

-- the list at a place, and none past the end
abbrev pub at : List (List ℕ) → ℕ → List ℕ
at xs i = slice_index_or xs i []

-- the line with these fields
abbrev pub line_with : ℕ → ℕ → ℕ → Part → Act → Line
line_with caller call point part act = record { caller = caller; call = call; part = part; point = point; act = act }

-- the entry with these
abbrev pub entry_with : Line → Option Deed → List ℕ → List ℕ → Entry
entry_with line deed name bytes = record { line = line; deed = deed; name = name; bytes = bytes }

-- the entry with these fields
abbrev pub entry_from : List (List ℕ) → Entry
entry_from fs = entry_with
    (line_with (slice_index (at fs 0) 1) (slice_index (at fs 0) 2) (slice_index (at fs 0) 3) (part_from (at fs 1)) (act_from (at fs 2) (at fs 3)))
    (deed_from (at fs 4) (at fs 5) (at fs 6)) (at fs 7) (at fs 8)

-- the hand before them
abbrev pub hand_from : List (List ℕ) → ℕ
hand_from fs = slice_index (at fs 0) 0

-- the lists of which these are the sizes and the elements, n of them
abbrev pub unsized : ℕ → List ℕ → List (List ℕ)
unsized zero xs = []
unsized (suc n) [] = [] ∷ unsized n []
unsized (suc n) (k ∷ xs) = take k xs ∷ unsized n (drop k xs)

-- what follows the mark of an item
abbrev pub after_mark : List ℕ → List ℕ
after_mark [] = []
after_mark (zero ∷ xs) = xs
after_mark (suc n ∷ xs) = drop 1 xs
