-- The entries of nodes, and the faults that entries spend.
use Rattle.std.specs.Prelude.{◌≡◌, ℕ, ◌+◌, ◌<◌, ◌≤◌, ◌==◌, Bool, false, List, take, count_by, slice_get, Some}
use Rattle.ecp_shape.specs.declared.limits.TheConstants.{MAX_SESSIONS}
use Rattle.ecp_shape.specs.declared.shape.Shape.{Shape}
use Rattle.ecp_entry.specs.declared.act.Act.{Act}
use Rattle.ecp_entry.specs.declared.act.Act.TheVariants.{StoreFailed, MendFailed, Drop}
use Rattle.ecp_entry.specs.declared.entry.Entry.{Entry}
use Rattle.ecp_history.specs.Follows.{is_same_caller}

-- an entry of no session is of a node that is there, and has as its number how many that node made before
pub record IsCounted (shape : Shape) (before : List Entry) (e : Entry) : Type 0 where
  pub there : e.line.caller < MAX_SESSIONS + shape.nodes
  pub numbered : e.line.call ≡ count_by (is_same_caller e) before

-- the entries of each node are numbered from 0, in their order
abbrev pub DropsCounted : Shape → List Entry → Type 0
DropsCounted shape history =
    (i : ℕ) (e : Entry) → slice_get history i ≡ Some e → MAX_SESSIONS ≤ e.line.caller → IsCounted shape (take i history) e

-- whether an act of this caller tells that the store of this node failed: the node gave a block up, or a write to it failed
abbrev pub spends : ℕ → ℕ → Act → Bool
spends node caller (StoreFailed m) = m == node
spends node caller (MendFailed stripe row m) = m == node
spends node caller (Drop stripe row) = caller == MAX_SESSIONS + node
spends node caller _ = false

-- whether an entry spends a fault of this node's store
abbrev pub spends_fault : ℕ → Entry → Bool
spends_fault node e = spends node e.line.caller e.line.act

-- how many entries spend a fault of this node's store
abbrev pub faults_spent : ℕ → List Entry → ℕ
faults_spent node history = count_by (spends_fault node) history
