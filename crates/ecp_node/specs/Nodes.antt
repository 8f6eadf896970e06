-- What contracts see of a node, and what its calls leave.
use Rattle.std.specs.Prelude.{◌≡◌, ◌≢◌, ℕ, ◌+◌, ◌-◌, ◌^◌, ◌<◌, ◌≤◌, nat_lt, Bool, true, false, if◌then◌else◌, IsTrue, List, [], ◌∷◌, ◌++◌, slice_index_or, Option, Some, None, IfSome, Result, Ok, Err}
use Rattle.ecp_book.specs.Logs.{Log}
use Rattle.ecp_book.specs.Names.{StoreStart}
use Rattle.ecp_shape.specs.Losses.{losses}
use Rattle.ecp_store.specs.Faults.{Rose}
use Rattle.ecp_store.specs.Stores.{and_served}
use Rattle.ecp_node.specs.declared.fault.Fault.{Fault}
use Rattle.ecp_node.specs.declared.limits.TheConstants.{LOG_END}
use Rattle.ecp_node.specs.declared.node_keep.NodeKeep.{NodeKeep}
use Rattle.ecp_node.specs.declared.node_keep.NodeKeep.TheVariants as keep
use Rattle.ecp_node.specs.declared.node_read.NodeRead.{NodeRead}
use Rattle.ecp_node.specs.declared.node_read.NodeRead.TheVariants as read
use Rattle.ecp_node.specs.Counted.{NodeItems}
use Rattle.ecp_node.specs.Items.{Kept, kept_item, removed_item, wiped_item, faulted_item}
use Rattle.ecp_node.specs.Held.{wipes, faults, spends, places, is_lost, IsAtEnd}

-- its number, the items of its log, the history's items that it knows, the failure that can be spent now, how often its
-- store failed, and how many bytes its store served
pub record NodeState : Type 0 where
  pub number : ℕ
  pub items : Log
  pub past : Log
  pub fault : Option Fault
  pub store_faults : ℕ
  pub served : ℕ

-- the node of this log, that knows this of the history, with such counts of its store
abbrev pub node_seen : NodeItems → Log → Option Fault → ℕ → ℕ → NodeState
node_seen log past fault count served =
    record { number = log.node; items = log.items; past = past; fault = fault; store_faults = count; served = served }

-- what a name states of the store of this node
abbrev pub start_of : List StoreStart → ℕ → StoreStart
start_of stores node = slice_index_or stores node (record { faults = 0; faultless = false })

-- the log has one more item
abbrev pub with_item : NodeState → List ℕ → NodeState
with_item node item = record node { items = node.items ++ item ∷ [] }

-- a failed keep or read of this block
abbrev pub fault_of : Kept → Bool → Fault
fault_of kept wrote = record { stripe = kept.stripe; row = kept.row; wrote = wrote }

-- the log has the failure, which can be spent, where it is not at its end
abbrev pub with_fault : NodeState → Fault → NodeState
with_fault node fault = if nat_lt (places node.items) LOG_END then record (with_item node faulted_item) { fault = Some fault } else record node { fault = None }

-- the node after a keep with this answer, and so many failures of its store
abbrev pub after_keep : {R : Type 0} → Result R NodeKeep → NodeState → Kept → ℕ → NodeState
after_keep (Ok _) node kept count = record (with_item node (kept_item kept)) { fault = None; store_faults = count }
after_keep (Err keep.Failed) node kept count = record (with_item node faulted_item) { fault = Some (fault_of kept true); store_faults = count }
after_keep (Err _) node kept count = record node { fault = None; store_faults = count }

-- the node after a read of so many bytes with this answer
abbrev pub after_read : Result (Unit {0}) NodeRead → NodeState → Kept → ℕ → ℕ → NodeState
after_read (Ok _) node kept len count = record node { fault = None; store_faults = count; served = and_served node.served len }
after_read (Err (read.Lost now)) node kept len count = record node { fault = None; store_faults = count }
after_read (Err read.Failed) node kept len count = record (with_fault node (fault_of kept false)) { store_faults = count }

-- the node after a removal of the block with this serial: one that is lost is not given up again
abbrev pub after_remove : NodeState → ℕ → ℕ → NodeState
after_remove node serial count =
    if nat_lt (places node.items) LOG_END then
    (if is_lost node.items serial then record node { store_faults = count } else record (with_item node (removed_item serial)) { store_faults = count })
    else node

-- the node after a wipe, for which it knows this of the history
abbrev pub after_wipe : NodeState → Log → ℕ → NodeState
after_wipe node past count = record (with_item node (wiped_item (wipes node.items + 1))) { past = past; fault = None; store_faults = count }

-- the node keeps blocks for this incarnation: it is its own, and the log is not at its end
abbrev pub Takes : NodeState → ℕ → Type 0
Takes node inc = (inc ≡ wipes node.items) × (places node.items < LOG_END)

-- what each answer of a keep for an incarnation says of the node before it, and of its store's failures after it
abbrev pub KeepAnswers : {R : Type 0} → Result R NodeKeep → NodeState → ℕ → ℕ → Type 0
KeepAnswers (Ok _) node inc count = Takes node inc × (count ≡ node.store_faults)
KeepAnswers (Err (keep.Gone now)) node inc count = (inc ≢ wipes node.items) × (now ≡ wipes node.items) × (count ≡ node.store_faults)
KeepAnswers (Err keep.Full) node inc count = (inc ≡ wipes node.items) × IsAtEnd node.items × (count ≡ node.store_faults)
KeepAnswers (Err keep.Failed) node inc count = Takes node inc × (node.store_faults ≤ count) × Rose node.store_faults count
KeepAnswers (Err keep.NoMemory) node inc count = Takes node inc × (count ≡ node.store_faults)

-- what each answer of a read of the block with this serial says
abbrev pub ReadAnswers : Result (Unit {0}) NodeRead → NodeState → ℕ → ℕ → Type 0
ReadAnswers (Ok _) node serial count = (is_lost node.items serial ≡ false) × (count ≡ node.store_faults)
ReadAnswers (Err (read.Lost now)) node serial count = (is_lost node.items serial ≡ true) × (now ≡ wipes node.items) × (count ≡ node.store_faults)
ReadAnswers (Err read.Failed) node serial count = (is_lost node.items serial ≡ false) × (node.store_faults ≤ count) × Rose node.store_faults count

-- What holds of every node whose store was so at its making
pub record IsSound (start : StoreStart) (node : NodeState) : Type 0 where
  -- each failure is spent at most once, and one that can be spent is there
  pub paid : spends node.items ≤ faults node.items
  pub spendable : IfSome node.fault (λ _. spends node.items < faults node.items)
  -- the log has at most as many failures as the store, unless its count stands at its last value
  pub covered : node.store_faults < 2 ^ 64 - 1 → start.faults + faults node.items ≤ node.store_faults
  -- a faultless store has not failed
  pub unfailing : IsTrue start.faultless → (node.store_faults ≡ start.faults) × (node.store_faults < 2 ^ 64 - 1)
  -- each wipe follows a loss that the history has
  pub lost_first : wipes node.items ≤ losses node.number node.past
