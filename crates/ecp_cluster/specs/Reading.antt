-- How a call goes on that reads a file whole.
use Rattle.std.specs.Prelude.{◌≡◌, ℕ, ◌+◌, ◌-◌, ◌<◌, ◌≤◌, Bool, false, List, [], ◌∷◌, length, take, IsSome}
use Rattle.sha2.specs.Hashers.{Holds256}
use Rattle.ecp_shape.specs.declared.shape.Shape.{Shape}
use Rattle.ecp_entry.specs.declared.act.Act.TheVariants as act
use Rattle.ecp_entry.specs.declared.deed.Deed.TheVariants.{Cat}
use Rattle.ecp_entry.specs.declared.entry.Entry.{Entry}
use Rattle.ecp_entry.specs.Told.{history_of, items_by}
use Rattle.ecp_history.specs.Acts.{HasDataBelow}
use Rattle.ecp_history.specs.Fronts.{told_table}
use Rattle.ecp_history.specs.Named.{block_at}
use Rattle.ecp_sequencer.specs.Facts.{entries_noted, room_noted}
use Rattle.ecp_sequencer.specs.Passes.{PassState}
use Rattle.ecp_coord.specs.declared.opened.Opened.{Opened}
use Rattle.ecp_coord.specs.declared.opened.Opened.TheVariants as found
use Rattle.ecp_coord.specs.Calls.{IsOpen, ended}
use Rattle.ecp_cluster.specs.declared.answer.Answer.{Answer}
use Rattle.ecp_cluster.specs.declared.file_sum.FileSum.{FileSum}
use Rattle.ecp_cluster.specs.Concluded.{Concludes}
use Rattle.ecp_cluster.specs.Whole.{HasMade, cause_in, digest_by, first_bytes, parts_by}

-- The open call of a pass reads this file whole. In the pass's front it opened a file of so many blocks, which are there, and the parts of the
-- first i of them have data. The hand has room for the entry of a part, and for the end of the call, and its entries are those that it noted
pub record IsReading (shape : Shape) (p : PassState) (name : List ℕ) (count i : ℕ) : Type 0 where
  pub is_open : IsOpen p (Cat name)
  pub room : 2 ≤ room_noted p.notes
  pub known : items_by p.hand p.front ≡ entries_noted p.notes
  pub has : HasDataBelow (history_of p.front) (ended p (Cat name) (length p.front) act.Whole) count i
  pub there : (j : ℕ) → j < count → IsSome (block_at shape (told_table shape p.front) name j)

-- a file was opened by part 0 of a call, and its first block may be asked for; or there is none, which ended the call
abbrev pub OpensFrom : Shape → Bool → PassState → List ℕ → Opened → PassState → Type 0
OpensFrom shape told v name (found.Opened len count first) w =
    (e : Entry) × (e.line.act ≡ act.Opened len count first) × HasMade v (Cat name) 0 (e ∷ []) w × IsReading shape w name count 0
OpensFrom shape told v name found.NoSuchFile w = Concludes shape told v (Cat name) act.NoSuchFile [] w

-- What is behind part 0 of a call that opened a file of so many bytes and blocks: a part for each block, or for each up to the first without
-- data, and the end, which says so
pub record ReadsOn (shape : Shape) (told : Bool) (p : PassState) (name : List ℕ) (len count : ℕ) (a : Answer) (w : PassState) : Type 0 where
  pub blocks : List Entry
  pub until : PassState
  pub made : HasMade p (Cat name) 1 blocks until
  pub ends : Concludes shape told until (Cat name) a.act [] w
  pub counted : length blocks + 1 ≡ parts_by count a.act
  pub len_is : a.len ≡ len
  pub cause : (e : Entry) → a.cause ≡ cause_in a.act (e ∷ blocks)
  pub digest : a.digest ≡ digest_by a.act (first_bytes len blocks)
  pub none : (a.bytes ≡ []) × (a.by_digest ≡ false)

-- it stopped short of its end
pub record StopsShort (p : PassState) (name : List ℕ) (w : PassState) : Type 0 where
  pub blocks : List Entry
  pub made : HasMade p (Cat name) 1 blocks w

-- a sum has taken these bytes of a file of this length, and no byte past its end
pub record HasTaken (len : ℕ) (s : FileSum) (bytes : List ℕ) : Type 0 where
  pub holds : Holds256 s.hasher (take len bytes)
  pub left : s.left ≡ len - length bytes
