-- A file that is read whole: the parts of its call, and what they say.
use Rattle.std.specs.Prelude.{◌≡◌, ℕ, suc, ◌+◌, ◌-◌, ◌≤◌, Bool, false, List, [], ◌∷◌, ◌++◌, length, take, drop, flat_map, All, ⊤}
use Rattle.sha2.specs.Sha256.{sha256}
use Rattle.ecp_shape.specs.declared.shape.Shape.{Shape}
use Rattle.ecp_book.specs.Logs.{Log}
use Rattle.ecp_entry.specs.declared.act.Act.{Act}
use Rattle.ecp_entry.specs.declared.act.Act.TheVariants.{Broken, Opened, Whole}
use Rattle.ecp_entry.specs.declared.deed.Deed.{Deed}
use Rattle.ecp_entry.specs.declared.deed.Deed.TheVariants.{Cat}
use Rattle.ecp_entry.specs.declared.entry.Entry.{Entry}
use Rattle.ecp_entry.specs.declared.part.Part.TheVariants as part
use Rattle.ecp_sequencer.specs.Passes.{PassState}
use Rattle.ecp_sequencer.specs.Steps.{Called, IsOfCall, Steps, call_with}
use Rattle.ecp_cluster.specs.declared.answer.Answer.{Answer}
use Rattle.ecp_cluster.specs.Summed.{no_digest}

-- ---- the parts of a call

-- these entries are of a call's parts from j on, one after another
abbrev pub AreParts : ℕ → List Entry → Type 0
AreParts j [] = ⊤
AreParts j (e ∷ es) = (e.line.part ≡ part.Part j) × AreParts (suc j) es

-- The open call of a pass, which asks for this, went on, and its parts from j on were entered, one after another, each with its point past
-- the old front
pub record HasMade (v : PassState) (asked : Deed) (j : ℕ) (parts : List Entry) (w : PassState) : Type 0 where
  pub more : Log
  pub steps : Steps v parts more w
  pub calls : w.calls ≡ v.calls
  pub own : All (IsOfCall v.caller (call_with (v.calls - 1) asked)) parts
  pub late : All (λ e. length v.front ≤ e.line.point) parts
  pub numbered : AreParts j parts

-- a call that found no memory: it has no end, and its parts until then stand
pub record StoppedShort (v : PassState) (asked : Deed) (w : PassState) : Type 0 where
  pub parts : List Entry
  pub more : Log
  pub steps : Steps v parts more w
  pub own : All (IsOfCall v.caller (call_with v.calls asked)) parts
  pub late : All (λ e. length v.front ≤ e.line.point) parts
  pub numbered : AreParts 0 parts
  pub calls : v.calls ≤ w.calls

-- ---- what they say

-- the length of the file that an act opens, and how many blocks it has
abbrev pub opened_bytes : Act → ℕ
opened_bytes (Opened len count first) = len
opened_bytes _ = 0

abbrev pub opened_count : Act → ℕ
opened_count (Opened len count first) = count
opened_count _ = 0

-- of the file that the first of these parts opens
abbrev pub len_in : List Entry → ℕ
len_in [] = 0
len_in (e ∷ blocks) = opened_bytes e.line.act

abbrev pub count_in : List Entry → ℕ
count_in [] = 0
count_in (e ∷ blocks) = opened_count e.line.act

-- so many bytes of the blocks of these parts
abbrev pub first_bytes : ℕ → List Entry → List ℕ
first_bytes len blocks = take len (flat_map (λ e. e.bytes) blocks)

-- the file: as many bytes as it has of the blocks of the parts behind the one that opened it
abbrev pub file_in : List Entry → List ℕ
file_in parts = first_bytes (len_in parts) (drop 1 parts)

-- how many parts a call has that read a file whole, by the blocks of the file and the act that ended the call: one that opened it, and one for
-- each block, or for each up to the first without data
abbrev pub parts_by : ℕ → Act → ℕ
parts_by count Whole = count + 1
parts_by count (Broken index) = index + 2
parts_by count _ = 0

-- the act of the last of these entries
abbrev pub last_act : Act → List Entry → Act
last_act what [] = what
last_act what (e ∷ es) = last_act e.line.act es

-- how the part ended that broke such a call off; the act of its end where none did
abbrev pub cause_in : Act → List Entry → Act
cause_in (Broken index) parts = last_act (Broken index) parts
cause_in what parts = what

-- the digest of these bytes where a file was read whole, else none
abbrev pub digest_by : Act → List ℕ → List ℕ
digest_by Whole bytes = sha256 bytes
digest_by _ bytes = no_digest

-- A call by which a file was read whole, or was not, was answered so
pub record ReadWhole (shape : Shape) (told : Bool) (v : PassState) (name : List ℕ) (a : Answer) (w : PassState) : Type 0 where
  pub parts : List Entry
  pub last : Entry
  pub called : Called shape told v (Cat name) parts last w
  pub numbered : AreParts 0 parts
  pub counted : length parts ≡ parts_by (count_in parts) a.act
  pub act : last.line.act ≡ a.act
  pub len : a.len ≡ len_in parts
  pub cause : a.cause ≡ cause_in a.act parts
  pub digest : a.digest ≡ digest_by a.act (file_in parts)
  pub none : (a.bytes ≡ []) × (a.by_digest ≡ false)
