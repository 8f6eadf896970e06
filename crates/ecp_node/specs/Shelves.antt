-- A node's index and its store beside its log.
use Rattle.std.specs.Prelude.{◌≡◌, ◌==◌, if◌then◌else◌, ℕ, ◌≤◌, Bool, IsTrue, Option, Some}
use Rattle.std.specs.Option.{option_map}
use Rattle.ecp_book.specs.Logs.{Log, history_log}
use Rattle.ecp_book.specs.Names.{StoreStart}
use Rattle.ecp_store.specs.Stores.{Held}
use Rattle.ecp_store.specs.declared.key.Key.{Key}
use Rattle.ecp_store.specs.declared.store.Store.{Ghosts}
use Rattle.ecp_node.specs.declared.place.Place.{Place}
use Rattle.ecp_node.specs.Items.{Kept}
use Rattle.ecp_node.specs.Held.{held_at}
use Rattle.ecp_node.specs.Nodes.{NodeState, IsSound}

-- where a block belongs
abbrev pub place_of : Kept → Place
place_of kept = record { stripe = kept.stripe; row = kept.row }

-- the key of a block in the store
abbrev pub key_of : Kept → Key
key_of kept = record { stripe = kept.stripe; row = kept.row; serial = kept.serial }

-- the index has just the blocks that the log holds, by their serials
abbrev pub IsIndex : (ℕ → Option Place) → Log → Type 0
IsIndex index log = (serial : ℕ) → index serial ≡ option_map place_of (held_at log serial)

-- the store holds the bytes of each block that the log holds, under its key
abbrev pub Stores : Held → Log → Type 0
Stores held log = (serial : ℕ) (kept : Kept) → held_at log serial ≡ Some kept → held (key_of kept) ≡ Some kept.bytes

-- the index after a block was entered at its key's serial
abbrev pub Enters : Key → (ℕ → Option Place) → (ℕ → Option Place) → Type 0
Enters key before after =
    (serial : ℕ) → after serial ≡ (if key.serial == serial then Some (record { stripe = key.stripe; row = key.row }) else before serial)

-- What a node keeps of its parts
pub record IsNode {S : Type 0} (g : Ghosts S) (told : Bool) (start : StoreStart) (past : ℕ) (store : S) (index : ℕ → Option Place) (node : NodeState) : Type 0 where
  pub of_history : past ≡ history_log
  pub indexed : IsIndex index node.items
  pub stored : IsTrue g.tells → Stores (g.held store) node.items
  pub tells : IsTrue told → IsTrue g.tells
  pub faultless : IsTrue start.faultless → IsTrue (g.faultless store)
  pub sound : IsSound start node

-- The store served nothing meanwhile, its count of faults did not fall, and if it is faultless it did not fail
pub record ServesNothing {S : Type 0} (g : Ghosts S) (old new : S) : Type 0 where
  pub served : g.served new ≡ g.served old
  pub never_falls : g.faults old ≤ g.faults new
  pub same : g.faultless new ≡ g.faultless old
  pub unfailing : IsTrue (g.faultless old) → g.faults new ≡ g.faults old
