-- What contracts see of a coordinator, and what holds of every coordinator.
use Rattle.std.specs.Prelude.{◌≡◌, ◌≢◌, ℕ, ◌*◌, ◌<◌, ◌≤◌, ◌==◌, Bool, false, List, [], length, map, replicate, count_by, slice_index_or, is_some, Option, Some}
use Rattle.std.specs.List.{list_any}
use Rattle.std.specs.Option.{option_map_or}
use Rattle.ecp_shape.specs.declared.limits.TheConstants.{MAX_NODES, MAX_SESSIONS, MAX_WORKERS}
use Rattle.ecp_shape.specs.declared.shape.Shape.{Shape}
use Rattle.ecp_shape.specs.Range.{IsInRange}
use Rattle.ecp_book.specs.Logs.{Known, Log, empty_log, history_log, node_log}
use Rattle.ecp_entry.specs.declared.deed.Deed.{Deed}
use Rattle.ecp_entry.specs.declared.deed.Deed.TheVariants as deed
use Rattle.ecp_entry.specs.declared.entry.Entry.{Entry}
use Rattle.ecp_entry.specs.Entries.{dropped_stripe}
use Rattle.ecp_entry.specs.Told.{history_of}
use Rattle.ecp_node.specs.Held.{spends}
use Rattle.ecp_history.specs.Counted.{faults_spent}
use Rattle.ecp_catalog.specs.Catalogs.{CatalogState, changed_at, with_spare, spare_of}
use Rattle.ecp_catalog.specs.Outline.{IsOutline}
use Rattle.ecp_catalog.specs.Stamps.{StampsSeen}
use Rattle.ecp_sequencer.specs.Facts.{facts_of}
use Rattle.ecp_sequencer.specs.Hands.{IsHandOf, hands_of, own_hand}
use Rattle.ecp_sequencer.specs.Histories.{notes_at}
use Rattle.ecp_sequencer.specs.Sequencers.{SequencerState, AreTies}
use Rattle.ecp_sequencer.specs.Sequencers as sequencers
use Rattle.ecp_coord.specs.Bookings.{AreBooked}
use Rattle.ecp_coord.specs.Numbers.{AreCovered}

-- The history with what each hand noted, the stamps of the nodes, how many repairs were planned, how many stripes all reservations have
-- together, how many bytes a slice has, whether a plan that is not direct has a lane for each helper, and what is known of each node's log
pub record CoordState : Type 0 where
  pub sequence : SequencerState
  pub stamps : StampsSeen
  pub repairs : ℕ
  pub stripes : ℕ
  pub slice : ℕ
  pub cyclic : Bool
  pub nodes : List Log

-- what some tags know
abbrev pub heard : List Known → List Log
heard tags = map (λ t. t.items) tags

-- no node has helped yet
abbrev pub no_stamps : StampsSeen
no_stamps = record { stamps = replicate MAX_NODES 0; counter = 0 }

-- the coordinator of an empty history, for so many nodes and hands
abbrev pub at_start : ℕ → ℕ → ℕ → Bool → CoordState
at_start nodes hands slice cyclic = record {
  sequence = sequencers.at_start hands;
  stamps = no_stamps;
  repairs = 0;
  stripes = 0;
  slice = slice;
  cyclic = cyclic;
  nodes = replicate nodes [];
}

-- whether a deed asks for the loss of this node
abbrev pub asks_loss : ℕ → Option Deed → Bool
asks_loss m (Some (deed.Lose node)) = node == m
asks_loss m _ = false

-- whether a hand with these notes has an open call that asks for the loss of this node
abbrev pub is_losing : ℕ → Log → Bool
is_losing m notes = option_map_or (λ c. asks_loss m c.deed) (facts_of notes).call false

-- how many hands have one
abbrev pub losers : ℕ → List Log → ℕ
losers m notes = count_by (is_losing m) notes

-- for each node there is room for as many losses as hands have an open call that asks for one
abbrev pub HasRoom : ℕ → CatalogState → List Log → Type 0
HasRoom nodes c notes = (m : ℕ) → m < nodes → losers m notes ≤ spare_of c.nodes m

-- the catalog once a call with this deed has its room there: a node that it asks to lose has room for a loss by each hand
abbrev pub with_room : Deed → ℕ → CatalogState → CatalogState
with_room (deed.Lose m) hands c = record c { nodes = changed_at (with_spare hands) m c.nodes }
with_room _ hands c = c

-- one tag on the log of each node, in rising order, and the entries that tell of failures of a node's store are no more than what its tag
-- has as spent
pub record AreTags (nodes : ℕ) (history : Log) (tags : List Known) : Type 0 where
  pub each : length tags ≡ nodes
  pub on_logs : (m : ℕ) (t : Known) → m < nodes → (slice_index_or tags m t).log ≡ node_log m
  pub paid : (m : ℕ) (t : Known) → m < nodes → faults_spent m (history_of history) ≤ spends (slice_index_or tags m t).items

-- What a coordinator has beside its sequencer: its catalog, how many hands there are, how many bytes a slice has, its tags on the logs of
-- the nodes, how many stripes all reservations have together, and for each hand how many more numbers it may take for later attempts
pub record CoordParts : Type 0 where
  pub catalog : CatalogState
  pub hands : ℕ
  pub slice : ℕ
  pub tags : List Known
  pub stripes : ℕ
  pub promises : List ℕ

abbrev pub parts_of : CatalogState → ℕ → ℕ → List Known → ℕ → List ℕ → CoordParts
parts_of catalog hands slice tags stripes promises =
    record { catalog = catalog; hands = hands; slice = slice; tags = tags; stripes = stripes; promises = promises }

-- a hand that is not a caller's own noted nothing
abbrev pub AreIdle : ℕ → List Log → Type 0
AreIdle spares notes = (caller hand : ℕ) → IsHandOf spares caller hand → hand ≢ own_hand spares caller → notes_at notes hand ≡ []

-- whether an entry gives a block up
abbrev pub is_drop : Entry → Bool
is_drop e = is_some (dropped_stripe e.line.act)

-- what holds of every coordinator: its catalog is the outline of its history
pub record IsCoord (shape : Shape) (told : Bool) (callers spares : ℕ) (s : SequencerState) (p : CoordParts) : Type 0 where
  pub outline : IsOutline shape told p.catalog (history_of s.history)
  pub range : IsInRange shape
  pub each_node : length p.catalog.nodes ≡ shape.nodes
  pub most : callers ≤ MAX_SESSIONS
  pub counted : p.hands ≡ hands_of callers spares
  pub sliced : (1 ≤ p.slice) × (p.slice ≤ shape.block)
  pub tagged : AreTags shape.nodes s.history p.tags
  pub room : HasRoom shape.nodes p.catalog s.notes
  pub idle : AreIdle spares s.notes
  pub no_drops : list_any is_drop (history_of s.history) ≡ false
  pub booked : AreBooked s p.catalog p.stripes p.promises
  pub covered : AreCovered shape s p.stripes

-- these are the keepers of the logs of so many nodes, in rising order, and each is empty
pub record AreNodeLogs (nodes : ℕ) (keepers : List Known) : Type 0 where
  pub each : length keepers ≡ nodes
  pub empty : (m : ℕ) (k : Known) → m < nodes → slice_index_or keepers m k ≡ empty_log (node_log m)

-- A coordinator can be made for these sizes, callers and spare hands, and this size of a slice, over these logs
pub record CanOpen (shape : Shape) (callers spares slice hands : ℕ) (history : Known) (nodes ties : List Known) : Type 0 where
  pub range : IsInRange shape
  pub sliced : (1 ≤ slice) × (slice ≤ shape.block)
  pub called : (1 ≤ callers) × (callers ≤ MAX_SESSIONS)
  pub handed : (hands ≡ spares) × (1 ≤ hands) × (hands ≤ MAX_WORKERS)
  pub first : history ≡ empty_log history_log
  pub of_nodes : AreNodeLogs shape.nodes nodes
  pub of_ties : AreTies shape.nodes 0 ties
  pub tied : length ties ≡ 2 * hands_of callers hands
