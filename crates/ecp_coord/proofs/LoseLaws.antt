-- What is found by losing a node, in a catalog that is the outline of a legal history.
use Rattle.std.proofs.Common.{◌≡◌, ℕ, zero, suc, ◌-◌, ◌<◌, ◌≤◌, Bool, true, false, cond, List, [], ◌∷◌, ◌++◌, length, slice_get, refl, sym, ◌∙◌, ap, subst, arith, inl}
use Rattle.std.specs.Prelude.{nat_lt, not, ⊤}
use Rattle.std.specs.Option.{option_map_or}
use Rattle.std.proofs.lemmas.Bool.{false≢true, eq-eqb}
use Rattle.std.proofs.lemmas.Bool.Decides.{nat_tests}
use Rattle.std.proofs.lemmas.List.{length-map}
use Rattle.ecp_shape.specs.declared.limits.TheConstants.{MAX_SESSIONS}
use Rattle.ecp_shape.specs.declared.shape.Shape.{Shape}
use Rattle.ecp_entry.specs.declared.deed.Deed.TheVariants.{Lose}
use Rattle.ecp_entry.specs.declared.entry.Entry.{Entry}
use Rattle.ecp_history.specs.declared.table.node.Node.{Node}
use Rattle.ecp_history.specs.table.Tables.{PlainTable, is_up, live_on}
use Rattle.ecp_history.specs.table.Steps.{table_of}
use Rattle.ecp_history.specs.Legal.{MayFollow}
use Rattle.ecp_catalog.specs.Catalogs.{NodeSeen, CatalogState, lost_at, spare_of}
use Rattle.ecp_catalog.specs.Outline.{IsOutline}
use Rattle.ecp_catalog.proofs.NodeLaws.{length-changed_at}
use Rattle.ecp_catalog.proofs.OutlineLaws.{unchanged, lost_outline, losses_behind}
use Rattle.ecp_sequencer.specs.Passes.{PassState}
use Rattle.ecp_sequencer.specs.Histories.{notes_at}
use Rattle.ecp_sequencer.specs.Facts.{HandFacts, room_noted}
use Rattle.ecp_sequencer.specs.Sequencers.{SequencerState}
use Rattle.ecp_sequencer.proofs.NoteLaws.{facts-entered}
use Rattle.ecp_book.specs.Logs.{Log}
use Rattle.ecp_entry.specs.Told.{Made, made_of, made_from, history_of}
use Rattle.ecp_sequencer.specs.Steps.{call_with}
use Rattle.ecp_coord.specs.Coords.{CoordParts, HasRoom, IsCoord, is_losing}
use Rattle.ecp_coord.proofs.BookLaws.{Serves, serves_same}
use Rattle.ecp_coord.proofs.FollowLaws.{IsMet}
use Rattle.ecp_coord.proofs.KeepLaws.{IsPlain, entered_kept, with_catalog}
use Rattle.ecp_coord.proofs.CoverLaws.{open_unasked, covered_free}
use Rattle.ecp_coord.proofs.RoomLaws.{asks_open, room_there, room_lost}
use Rattle.ecp_coord.specs.declared.node_act.NodeAct.{NodeAct}
use Rattle.ecp_coord.specs.declared.node_act.NodeAct.TheVariants as found
use Rattle.ecp_coord.specs.Calls.{IsOpen, Ends, ended}
use Rattle.ecp_coord.specs.Losing.{CanLose, act_of, after_losing, found_by_losing}
use Rattle.ecp_coord.proofs.EndLaws.{may_end}

-- a node that is there and not up is down
pub not_up : (nodes : List Node) (m : ℕ) → m < length nodes → option_map_or (λ (x : Node). x.up) (slice_get nodes m) false ≡ false
    → option_map_or (λ (x : Node). not x.up) (slice_get nodes m) false ≡ true
not_up [] m within is = absurd (omega arith)
not_up (x ∷ nodes) zero within is = ap not is
not_up (x ∷ nodes) (suc m) within is = not_up nodes m (omega arith) is

-- the entry that says what was found may come next
pub lose_follows : (shape : Shape) (told : Bool) (before : List Entry) (p : PassState) (m : ℕ) → p.caller < MAX_SESSIONS → length (table_of shape before).nodes ≡ shape.nodes
    → MayFollow shape told before (ended p (Lose m) (length before) (act_of (found_by_losing shape (table_of shape before) m)))
lose_follows shape told before p m session each = by_node (nat_lt m shape.nodes) refl where
  by_node : (there : Bool) → nat_lt m shape.nodes ≡ there
      → MayFollow shape told before (ended p (Lose m) (length before) (act_of (cond there (cond (is_up (table_of shape before) m) (found.Lost (live_on (table_of shape before) m)) found.NodeDown) found.NoSuchNode)))
  by_node false none =
      may_end shape told before p (Lose m) (act_of found.NoSuchNode) session (inl refl, refl) refl (λ off. absurd (false≢true off))
      (let far : shape.nodes ≤ m = grind (arith, nat_tests) in far)
  by_node true there = by_state (is_up (table_of shape before) m) refl where
    by_state : (up : Bool) → is_up (table_of shape before) m ≡ up
        → MayFollow shape told before (ended p (Lose m) (length before) (act_of (cond up (found.Lost (live_on (table_of shape before) m)) found.NodeDown)))
    by_state true up =
        may_end shape told before p (Lose m) (act_of (found.Lost (live_on (table_of shape before) m))) session (refl, refl) refl (λ off. absurd (false≢true off))
        (record { up = up; counted = refl })
    by_state false down =
        let below : m < shape.nodes = grind (arith, nat_tests) in
        may_end shape told before p (Lose m) (act_of found.NodeDown) session (refl, refl) refl (λ off. absurd (false≢true off))
        (not_up (table_of shape before).nodes m (omega (arith, below, each)) down)

-- such an entry stores nothing, gives up nothing and spends no fault
lose_plain : (p : PassState) (m position : ℕ) (what : NodeAct) → IsPlain (ended p (Lose m) position (act_of what))
lose_plain p m position (found.Lost count) = record { stores = refl; drops = refl; spends = λ node. refl }
lose_plain p m position (found.Joined inc) = record { stores = refl; drops = refl; spends = λ node. refl }
lose_plain p m position found.NoSuchNode = record { stores = refl; drops = refl; spends = λ node. refl }
lose_plain p m position found.NodeDown = record { stores = refl; drops = refl; spends = λ node. refl }
lose_plain p m position found.NodeUp = record { stores = refl; drops = refl; spends = λ node. refl }

-- what is found is there to be lost
pub can_lose : (shape : Shape) (told : Bool) (c : CatalogState) (history : List Entry) (m : ℕ) → IsOutline shape told c history → length c.nodes ≡ shape.nodes
    → (m < shape.nodes → 1 ≤ spare_of c.nodes m) → CanLose c (found_by_losing shape (table_of shape history) m) m (length history)
can_lose shape told c history m is each room = by_node (nat_lt m shape.nodes) refl where
  by_node : (there : Bool) → nat_lt m shape.nodes ≡ there
      → CanLose c (cond there (cond (is_up (table_of shape history) m) (found.Lost (live_on (table_of shape history) m)) found.NodeDown) found.NoSuchNode) m (length history)
  by_node false none = tt
  by_node true there =
      let below : m < shape.nodes = grind (arith, nat_tests) in
      elim (is_up (table_of shape history) m) as (λ up. CanLose c (cond up (found.Lost (live_on (table_of shape history) m)) found.NodeDown) m (length history)) [
        | true ↦ (omega (arith, below, ap (λ (x : Shape). x.nodes) is.sizes), room below, losses_behind shape told c history m is (omega (arith, below, each)))
        | false ↦ tt
      ]

-- no node comes up by losing one
abbrev IsOfLosing : NodeAct → Type 0
IsOfLosing (found.Joined inc) = ⊥
IsOfLosing _ = ⊤

of_losing : (shape : Shape) (t : PlainTable) (m : ℕ) → IsOfLosing (found_by_losing shape t m)
of_losing shape t m = elim (nat_lt m shape.nodes) as (λ there. IsOfLosing (cond there (cond (is_up t m) (found.Lost (live_on t m)) found.NodeDown) found.NoSuchNode)) [
  | false ↦ tt
  | true ↦ elim (is_up t m) as (λ up. IsOfLosing (cond up (found.Lost (live_on t m)) found.NodeDown)) [ true ↦ tt | false ↦ tt ]
]

-- the catalog that was brought up to it is the outline of the longer history
pub losing_outline : (shape : Shape) (told : Bool) (c : CatalogState) (history : List Entry) (p : PassState) (m : ℕ) (what : NodeAct) (position : ℕ) → IsOutline shape told c history
    → position ≡ length history → what ≡ found_by_losing shape (table_of shape history) m
    → IsOutline shape told (after_losing what m position c) (history ++ ended p (Lose m) (length history) (act_of what) ∷ [])
losing_outline shape told c history p m what position is at found_is = by_found what (found_by shape (table_of shape history) m what found_is) where
  found_by : (shape : Shape) (t : PlainTable) (m : ℕ) (what : NodeAct) → what ≡ found_by_losing shape t m → IsOfLosing what
  found_by shape t m what same = subst IsOfLosing (sym same) (of_losing shape t m)

  by_found : (what : NodeAct) → IsOfLosing what → IsOutline shape told (after_losing what m position c) (history ++ ended p (Lose m) (length history) (act_of what) ∷ [])
  by_found (found.Lost count) own =
      subst (λ (k : ℕ). IsOutline shape told (after_losing (found.Lost count) m k c) (history ++ ended p (Lose m) (length history) (act_of (found.Lost count)) ∷ [])) (sym at)
      (lost_outline shape told c history (ended p (Lose m) (length history) (act_of (found.Lost count))) m is refl)
  by_found (found.Joined inc) own = absurd own
  by_found found.NoSuchNode own = unchanged shape told c history (ended p (Lose m) (length history) (act_of found.NoSuchNode)) is refl
  by_found found.NodeDown own = unchanged shape told c history (ended p (Lose m) (length history) (act_of found.NodeDown)) is refl
  by_found found.NodeUp own = unchanged shape told c history (ended p (Lose m) (length history) (act_of found.NodeUp)) is refl

losing_serves : (what : NodeAct) (m position : ℕ) (c : CatalogState) → Serves c (after_losing what m position c)
losing_serves (found.Lost count) m position c = record { nodes = length-changed_at (lost_at position) m c.nodes; names = λ q is. is; room = omega arith }
losing_serves (found.Joined inc) m position c = serves_same c
losing_serves found.NoSuchNode m position c = serves_same c
losing_serves found.NodeDown m position c = serves_same c
losing_serves found.NodeUp m position c = serves_same c

-- ---- the whole event

pub length_told : (items : Log) → length (history_of items) ≡ length items
length_told items = length-map (made_of items) (λ (m : Made). m.entry) ∙ length-map items made_from

module _ (shape : Shape) (told : Bool) where
  -- what is entered may follow
  pub lose_goes : (s : SequencerState) (v : PassState) (c : CatalogState) (m : ℕ) (what : NodeAct) → IsOutline shape told c (history_of s.history) → length c.nodes ≡ shape.nodes
      → v.caller < MAX_SESSIONS → what ≡ found_by_losing shape (table_of shape (history_of s.history)) m
      → MayFollow shape told (history_of s.history) (ended v (Lose m) (length s.history) (act_of what))
  lose_goes s v c m what outline each session found_is =
      let before : List Entry = history_of s.history in
      let nodes : length (table_of shape before).nodes ≡ shape.nodes = sym (ap (λ (ns : List Node). length ns) outline.nodes) ∙ length-map c.nodes (λ (x : NodeSeen). x.node) ∙ each in
      subst (λ (n : ℕ). MayFollow shape told before (ended v (Lose m) n (act_of what))) (length_told s.history)
      (subst (λ (x : NodeAct). MayFollow shape told before (ended v (Lose m) (length before) (act_of x))) (sym found_is) (lose_follows shape told before v m session nodes))

  -- the hand that asks for the loss of a node is one of those that have room for it
  own_losing : (v : PassState) (m : ℕ) → IsOpen v (Lose m) → is_losing m v.notes ≡ true
  own_losing v m open_call = ap (asks_open m) open_call.call ∙ eq-eqb m m refl

  -- the hand has no open call any more
  none_open : (s t : SequencerState) (v w : PassState) (m : ℕ) (what : NodeAct) → Ends shape told s v (Lose m) (act_of what) t w → (node : ℕ) → is_losing node w.notes ≡ false
  none_open s t v w m what ends node =
      let e : Entry = ended v (Lose m) (length s.history) (act_of what) in
      ap (is_losing node) ends.event.steps.noted ∙ ap (λ (f : HandFacts). asks_open node f.call) (facts-entered v.notes (length s.history) (room_noted v.notes - 1) v.hand e)

  module _ (callers spares : ℕ) where
    pub lose_can : (s : SequencerState) (v : PassState) (p : CoordParts) (m : ℕ) (what : NodeAct) → IsCoord shape told callers spares s p → IsMet shape told callers spares s v
        → IsOpen v (Lose m) → what ≡ found_by_losing shape (table_of shape (history_of s.history)) m → CanLose p.catalog what m (length s.history)
    lose_can s v p m what is met open_call found_is =
        let c : CatalogState = p.catalog in
        let within : v.hand < length s.notes = omega (arith, met.in_range, met.kept.hands) in
        let asks : is_losing m (notes_at s.notes v.hand) ≡ true = ap (is_losing m) met.agree.notes ∙ own_losing v m open_call in
        subst (λ (n : ℕ). CanLose c what m n) (length_told s.history)
        (subst (λ (x : NodeAct). CanLose c x m (length (history_of s.history))) (sym found_is)
        (can_lose shape told c (history_of s.history) m is.outline is.each_node (λ below. room_there shape.nodes c s.notes v.hand m is.room below within asks)))

    pub lose_kept : (s t : SequencerState) (v w : PassState) (p : CoordParts) (m : ℕ) (what : NodeAct) → IsCoord shape told callers spares s p → IsMet shape told callers spares s v
        → IsOpen v (Lose m) → what ≡ found_by_losing shape (table_of shape (history_of s.history)) m → Ends shape told s v (Lose m) (act_of what) t w
        → IsCoord shape told callers spares t (with_catalog p (after_losing what m (length s.history) p.catalog))
    lose_kept s t v w p m what is met open_call found_is ends =
        let c : CatalogState = p.catalog in
        let before : List Entry = history_of s.history in
        let e : Entry = ended v (Lose m) (length s.history) (act_of what) in
        let d : CatalogState = after_losing what m (length s.history) c in
        let within : v.hand < length s.notes = omega (arith, met.in_range, met.kept.hands) in
        let asks : is_losing m (notes_at s.notes v.hand) ≡ true = ap (is_losing m) met.agree.notes ∙ own_losing v m open_call in
        let longer : IsOutline shape told d (before ++ e ∷ []) =
        subst (λ (n : ℕ). IsOutline shape told d (before ++ ended v (Lose m) n (act_of what) ∷ [])) (length_told s.history)
        (losing_outline shape told c before v m what (length s.history) is.outline (sym (length_told s.history)) found_is) in
        entered_kept shape told callers spares s t v w p d e (room_noted v.notes - 1) is met ends.event (lose_plain v m (length s.history) what)
        (covered_free shape s v e (open_unasked shape v.notes (call_with (v.calls - 1) (Lose m)) open_call.call refl)) longer
        (losing_serves what m (length s.history) c)
        (subst (HasRoom shape.nodes d) (sym ends.event.notes)
        (room_lost shape.nodes c s.notes v.hand w.notes m (length s.history) what is.room within is.each_node asks (none_open s t v w m what ends)))
