-- What must hold where an act is said. t is the table before the entry, and p the one at its point.
use Rattle.std.specs.Prelude.{◌≡◌, ◌≢◌, ℕ, suc, ◌+◌, ◌<◌, ◌≤◌, ◌⊎◌, ◌==◌, nat_le, nat_lt, Bool, true, false, not, ◌&&◌, ◌||◌, List, length, count_by, None, IsTrue, IsSome, IsSomeAnd, is_some}
use Rattle.std.specs.List.{list_any}
use Rattle.ecp_shape.specs.declared.limits.TheConstants.{MAX_SESSIONS}
use Rattle.ecp_code.specs.Stripes.{stripes}
use Rattle.ecp_entry.specs.declared.act.Act.{Act}
use Rattle.ecp_entry.specs.declared.act.Act.TheVariants.{Stored, NameTaken, TooFewNodes, StoreFailed, Data, NoSuchFile, NoSuchBlock, Unrecoverable, Unsteady, Opened, Whole, Broken, Lost, NoSuchNode, NodeDown, Joined, NodeUp, Listed, NoNode, TargetDown, Restored, AlreadyLive, Clash, Gone, MendFailed, MendUnsteady, MendDown, Rebuilt, Stat, Drop}
use Rattle.ecp_entry.specs.declared.entry.Entry.{Entry}
use Rattle.ecp_shape.specs.declared.shape.Shape.{Shape}
use Rattle.ecp_entry.specs.Entries.{loss_of, is_loss, is_same_call}
use Rattle.ecp_history.specs.table.Tables.{PlainTable, BlockName, File, file_of, is_live, is_lost, is_live_on, live_rows, live_on, lost_on, block, block_count, file_live, is_up, is_down, inc_of, up_count, up_mask}
use Rattle.ecp_history.specs.Recoverable.{IsRecoverable}
use Rattle.ecp_history.specs.Follows.{follows, NoLossFrom, is_voiding, AreOvertaking}
use Rattle.ecp_history.specs.Calls.{Kind, ToPut, kind_of}
use Rattle.ecp_history.specs.Named.{named_block, deed_index, OfNode, OfRebuild, OfTarget}
use Rattle.ecp_history.specs.Parts.{HasPart, is_data, opens}

-- whether an act stores a file that has a stripe of this number
abbrev pub has_stripe : ℕ → Act → Bool
has_stripe s (Stored first stripes up) = nat_le first s && nat_lt s (first + stripes)
has_stripe s _ = false

-- no earlier file has one of these stripe numbers
abbrev pub AreFresh : List Entry → ℕ → ℕ → Type 0
AreFresh before first count =
    (s : ℕ) → first ≤ s → s < first + count → list_any (λ x. has_stripe s x.line.act) before ≡ false

-- a file may be stored under a free name, with fresh stripe numbers, on the nodes that were up at the point and were not lost since
pub record Stores (shape : Shape) (before : List Entry) (t p : PlainTable) (e : Entry) (first count up : ℕ) : Type 0 where
  pub free : file_of t e.name ≡ None
  pub counted : count ≡ length (stripes shape.k shape.block e.bytes)
  pub fresh : AreFresh before first count
  pub mask : up ≡ up_mask p
  pub enough : shape.n ≤ up_count p
  pub steady : (node : ℕ) → IsTrue (is_up p node) → NoLossFrom before e.line.point node

-- the name is free, and this many nodes are up, fewer than a stripe has rows
pub record LacksNodes (shape : Shape) (t : PlainTable) (e : Entry) (up : ℕ) : Type 0 where
  pub free : file_of t e.name ≡ None
  pub counted : up ≡ up_count t
  pub few : up < shape.n

-- the block was recoverable at the point, and where payloads are told these are its bytes
pub record Reads (shape : Shape) (told : Bool) (p : PlainTable) (e : Entry) (b : BlockName) : Type 0 where
  pub recoverable : IsRecoverable shape p b.stripe b.row
  pub bytes : IsTrue told → e.bytes ≡ block p b.stripe b.row

-- the file has this many blocks, and the index is none of them
pub record LacksBlock (shape : Shape) (e : Entry) (count : ℕ) (f : File) : Type 0 where
  pub counted : count ≡ block_count shape f
  pub beyond : IsSomeAnd (deed_index e.deed) (λ index. count ≤ index)

-- the block is lost, and this many rows of its stripe are live, too few to make it
pub record LacksRows (shape : Shape) (t : PlainTable) (live : ℕ) (b : BlockName) : Type 0 where
  pub lost : IsTrue (is_lost t b.stripe b.row)
  pub counted : live ≡ live_rows t b.stripe
  pub few : live < shape.k

-- the name is free and enough nodes are up, but for each attempt a loss came between
pub record PutUnsteady (shape : Shape) (before : List Entry) (t : PlainTable) (e : Entry) (at : List ℕ) : Type 0 where
  pub free : file_of t e.name ≡ None
  pub enough : shape.n ≤ up_count t
  pub losses : AreOvertaking shape before (follows before e) (λ _ x. is_some (loss_of x)) at

-- the block is recoverable, but for each attempt an entry came between that is voiding for its stripe
pub record ReadUnsteady (shape : Shape) (before : List Entry) (t : PlainTable) (e : Entry) (at : List ℕ) (b : BlockName) : Type 0 where
  pub recoverable : IsRecoverable shape t b.stripe b.row
  pub voids : AreOvertaking shape before (follows before e) (λ u x. is_voiding u b.stripe x) at

-- the numbers are those of the file
pub record Opens (shape : Shape) (f : File) (len count first : ℕ) : Type 0 where
  pub bytes : len ≡ f.len
  pub blocks : count ≡ block_count shape f
  pub stripe : first ≡ f.first

-- the numbers are those of the file and of its live blocks
pub record Measures (shape : Shape) (t : PlainTable) (f : File) (len count live : ℕ) : Type 0 where
  pub bytes : len ≡ f.len
  pub blocks : count ≡ block_count shape f
  pub counted : live ≡ file_live t f

-- the call opened a file of c blocks, and the parts of the first j of them have data
pub record HasDataBelow (before : List Entry) (e : Entry) (c j : ℕ) : Type 0 where
  pub opened : HasPart before e 0 (opens c)
  pub each : (i : ℕ) → i < j → HasPart before e (suc i) is_data

-- every part has data
abbrev pub IsWhole : List Entry → Entry → Type 0
IsWhole before e = (c : ℕ) × HasDataBelow before e c c

-- the part of block j is the first without data
abbrev pub BreaksAt : List Entry → Entry → ℕ → Type 0
BreaksAt before e j = (c : ℕ) × (j < c) × HasDataBelow before e c j × HasPart before e (suc j) (λ act. not (is_data act))

-- the node is up, and this many live blocks stand on it
pub record Loses (t : PlainTable) (count node : ℕ) : Type 0 where
  pub up : IsTrue (is_up t node)
  pub counted : count ≡ live_on t node

-- the node is down, and comes up in its next incarnation
pub record Joins (t : PlainTable) (inc node : ℕ) : Type 0 where
  pub down : IsTrue (is_down t node)
  pub next : inc ≡ inc_of t node + 1

-- both nodes are there, the second is up, and this many lost blocks stand on the first
pub record Lists (shape : Shape) (t : PlainTable) (count from to : ℕ) : Type 0 where
  pub source : from < shape.nodes
  pub target : IsTrue (is_up t to)
  pub counted : count ≡ length (lost_on t from)

-- the number is that of the first node if that is none, else that of the second, which is none
abbrev pub IsNoNode : Shape → ℕ → ℕ → ℕ → Type 0
IsNoNode shape x from to =
    ((shape.nodes ≤ from) × (x ≡ from)) ⊎ ((from < shape.nodes) × (shape.nodes ≤ to) × (x ≡ to))

-- both nodes are there, and the second, which has this number, is down
pub record IsTargetDown (shape : Shape) (t : PlainTable) (x from to : ℕ) : Type 0 where
  pub source : from < shape.nodes
  pub target : x ≡ to
  pub down : IsTrue (is_down t to)

-- no other row of the stripe is live on the node
abbrev pub NoOtherLive : PlainTable → ℕ → ℕ → ℕ → Type 0
NoOtherLive t s r node = (other : ℕ) → other ≢ r → is_live_on t s other node ≡ false

-- the block was recoverable at the point and is lost; the node was up at the point in this incarnation and was not
-- lost since; no other row of the stripe is live on it
pub record Restores (shape : Shape) (before : List Entry) (t p : PlainTable) (e : Entry) (s r node inc : ℕ) : Type 0 where
  pub recoverable : IsRecoverable shape p s r
  pub lost : IsTrue (is_lost t s r)
  pub up : IsTrue (is_up p node)
  pub inc_is : inc ≡ inc_of p node
  pub steady : NoLossFrom before e.line.point node
  pub alone : NoOtherLive t s r node

-- the block is lost, and the target is up
pub record IsMendable (t : PlainTable) (s r to : ℕ) : Type 0 where
  pub lost : IsTrue (is_lost t s r)
  pub up : IsTrue (is_up t to)

-- this is the least other row of the stripe that is live on the target
pub record Clashes (t : PlainTable) (s r other to : ℕ) : Type 0 where
  pub mendable : IsMendable t s r to
  pub another : other ≢ r
  pub live : IsTrue (is_live_on t s other to)
  pub least : (less : ℕ) → less < other → less ≢ r → is_live_on t s less to ≡ false

-- the block is lost and the target up, and this many rows of the stripe are live, too few to make it
pub record IsGone (shape : Shape) (t : PlainTable) (s r live to : ℕ) : Type 0 where
  pub mendable : IsMendable t s r to
  pub counted : live ≡ live_rows t s
  pub few : live < shape.k

-- the target is up and the block recoverable, but for each attempt an entry came between that is voiding for its
-- stripe or a loss of the target
pub record MendsUnsteady (shape : Shape) (before : List Entry) (t : PlainTable) (e : Entry) (s r : ℕ) (at : List ℕ) (to : ℕ) : Type 0 where
  pub up : IsTrue (is_up t to)
  pub recoverable : IsRecoverable shape t s r
  pub voids : AreOvertaking shape before (follows before e) (λ u x. is_voiding u s x || is_loss to x) at

-- whether an act ends a part of a rebuild as restored, already live, clash, unrecoverable, store failed, unsteady or target down
abbrev pub is_restored : Act → Bool
is_restored (Restored stripe row node inc) = true
is_restored _ = false

abbrev pub is_already_live : Act → Bool
is_already_live (AlreadyLive stripe row) = true
is_already_live _ = false

abbrev pub is_clash : Act → Bool
is_clash (Clash stripe row other) = true
is_clash _ = false

abbrev pub is_gone : Act → Bool
is_gone (Gone stripe row live) = true
is_gone _ = false

abbrev pub is_mend_failed : Act → Bool
is_mend_failed (MendFailed stripe row node) = true
is_mend_failed _ = false

abbrev pub is_mend_unsteady : Act → Bool
is_mend_unsteady (MendUnsteady stripe row at) = true
is_mend_unsteady _ = false

abbrev pub is_mend_down : Act → Bool
is_mend_down (MendDown stripe row node) = true
is_mend_down _ = false

-- how many entries of the call of e have an act that passes the test
abbrev pub parts_that : List Entry → Entry → (Act → Bool) → ℕ
parts_that before e test = count_by (λ x. is_same_call e x && test x.line.act) before

-- whether an act lists this many blocks
abbrev pub lists : ℕ → Act → Bool
lists c (Listed count) = count == c
lists c _ = false

-- every listed block has its part, and the seven numbers count how the parts ended
pub record Rebuilds (before : List Entry) (e : Entry) (restored live clash gone failed unsteady down : ℕ) : Type 0 where
  pub complete : (c : ℕ) × HasPart before e 0 (lists c) × ((j : ℕ) → j < c → HasPart before e (suc j) (λ _. true))
  pub restored_is : restored ≡ parts_that before e is_restored
  pub live_is : live ≡ parts_that before e is_already_live
  pub clash_is : clash ≡ parts_that before e is_clash
  pub gone_is : gone ≡ parts_that before e is_gone
  pub failed_is : failed ≡ parts_that before e is_mend_failed
  pub unsteady_is : unsteady ≡ parts_that before e is_mend_unsteady
  pub down_is : down ≡ parts_that before e is_mend_down

-- the caller is the node on which the block is live
abbrev pub GivesUp : PlainTable → Entry → ℕ → ℕ → Type 0
GivesUp t e s r = (node : ℕ) × (e.line.caller ≡ MAX_SESSIONS + node) × IsTrue (is_live_on t s r node)

-- the overtaking entries of a put, and otherwise those of the block that the entry speaks of
abbrev pub UnsteadyFor : Shape → List Entry → PlainTable → Entry → List ℕ → Kind → Type 0
UnsteadyFor shape before t e at ToPut = PutUnsteady shape before t e at
UnsteadyFor shape before t e at _ = IsSomeAnd (named_block shape t e) (ReadUnsteady shape before t e at)

-- what an act says holds, where t is the table before the entry and p the one at its point
abbrev pub HoldsIn : Shape → Bool → List Entry → PlainTable → PlainTable → Entry → Act → Type 0
HoldsIn shape told before t p e (Stored first stripes up) = Stores shape before t p e first stripes up
HoldsIn shape told before t p e NameTaken = IsSome (file_of t e.name)
HoldsIn shape told before t p e (TooFewNodes up) = LacksNodes shape t e up
HoldsIn shape told before t p e (StoreFailed node) = node < shape.nodes
HoldsIn shape told before t p e Data = IsSomeAnd (named_block shape p e) (Reads shape told p e)
HoldsIn shape told before t p e NoSuchFile = file_of t e.name ≡ None
HoldsIn shape told before t p e (NoSuchBlock count) = IsSomeAnd (file_of t e.name) (LacksBlock shape e count)
HoldsIn shape told before t p e (Unrecoverable live) = IsSomeAnd (named_block shape t e) (LacksRows shape t live)
HoldsIn shape told before t p e (Unsteady at) = UnsteadyFor shape before t e at (kind_of e.deed)
HoldsIn shape told before t p e (Opened len count first) = IsSomeAnd (file_of t e.name) (λ f. Opens shape f len count first)
HoldsIn shape told before t p e Whole = IsWhole before e
HoldsIn shape told before t p e (Broken index) = BreaksAt before e index
HoldsIn shape told before t p e (Lost count) = OfNode e.deed (Loses t count)
HoldsIn shape told before t p e NoSuchNode = OfNode e.deed (λ node. shape.nodes ≤ node)
HoldsIn shape told before t p e NodeDown = OfNode e.deed (λ node. IsTrue (is_down t node))
HoldsIn shape told before t p e (Joined inc) = OfNode e.deed (Joins t inc)
HoldsIn shape told before t p e NodeUp = OfNode e.deed (λ node. IsTrue (is_up t node))
HoldsIn shape told before t p e (Listed count) = OfRebuild e.deed (Lists shape t count)
HoldsIn shape told before t p e (NoNode node) = OfRebuild e.deed (IsNoNode shape node)
HoldsIn shape told before t p e (TargetDown node) = OfRebuild e.deed (IsTargetDown shape t node)
HoldsIn shape told before t p e (Restored stripe row node inc) = Restores shape before t p e stripe row node inc
HoldsIn shape told before t p e (AlreadyLive stripe row) = IsTrue (is_live t stripe row)
HoldsIn shape told before t p e (Clash stripe row other) = OfTarget e.deed (Clashes t stripe row other)
HoldsIn shape told before t p e (Gone stripe row live) = OfTarget e.deed (IsGone shape t stripe row live)
HoldsIn shape told before t p e (MendFailed stripe row node) = node < shape.nodes
HoldsIn shape told before t p e (MendUnsteady stripe row at) = OfTarget e.deed (MendsUnsteady shape before t e stripe row at)
HoldsIn shape told before t p e (MendDown stripe row node) = IsTrue (is_down t node)
HoldsIn shape told before t p e (Rebuilt restored live clash gone failed unsteady down) =
    Rebuilds before e restored live clash gone failed unsteady down
HoldsIn shape told before t p e (Stat len count live) = IsSomeAnd (file_of t e.name) (λ f. Measures shape t f len count live)
HoldsIn shape told before t p e (Drop stripe row) = GivesUp t e stripe row
