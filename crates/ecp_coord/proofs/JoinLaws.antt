-- What is found by joining a node, in a catalog that is the outline of a legal history.
use Rattle.std.proofs.Common.{◌≡◌, ℕ, zero, suc, ◌+◌, ◌-◌, ◌^◌, ◌<◌, ◌≤◌, Bool, true, false, cond, List, [], ◌∷◌, ◌++◌, length, set, refl, sym, ◌∙◌, ap, subst, arith, inr}
use Rattle.std.specs.Prelude.{nat_lt, ⊤}
use Rattle.std.proofs.lemmas.Bool.{false≢true}
use Rattle.std.proofs.lemmas.Bool.Decides.{nat_tests}
use Rattle.std.proofs.lemmas.List.{length-map}
use Rattle.ecp_shape.specs.declared.limits.TheConstants.{MAX_SESSIONS}
use Rattle.ecp_shape.specs.declared.shape.Shape.{Shape}
use Rattle.ecp_book.specs.Logs.{Log}
use Rattle.ecp_entry.specs.declared.act.Act.TheVariants as act
use Rattle.ecp_entry.specs.declared.deed.Deed.TheVariants.{Join}
use Rattle.ecp_entry.specs.declared.entry.Entry.{Entry}
use Rattle.ecp_entry.specs.Told.{history_of}
use Rattle.ecp_history.specs.declared.table.node.Node.{Node}
use Rattle.ecp_history.specs.table.Tables.{PlainTable, inc_of, is_up}
use Rattle.ecp_history.specs.table.Steps.{table_of}
use Rattle.ecp_history.specs.Legal.{IsLegal, MayFollow}
use Rattle.ecp_catalog.specs.Catalogs.{NodeSeen, CatalogState, changed_at, joined_node, plain, spare_of}
use Rattle.ecp_catalog.specs.Outline.{IsOutline}
use Rattle.ecp_catalog.proofs.NodeLaws.{length-changed_at}
use Rattle.ecp_catalog.proofs.OutlineLaws.{unchanged}
use Rattle.ecp_catalog.proofs.JoinLaws.{joined_outline, joins_few}
use Rattle.ecp_sequencer.specs.Facts.{HandFacts, room_noted}
use Rattle.ecp_sequencer.specs.Passes.{PassState}
use Rattle.ecp_sequencer.specs.Sequencers.{SequencerState}
use Rattle.ecp_sequencer.specs.Steps.{call_with}
use Rattle.ecp_sequencer.proofs.NoteLaws.{facts-entered}
use Rattle.ecp_coord.specs.declared.node_act.NodeAct.{NodeAct}
use Rattle.ecp_coord.specs.declared.node_act.NodeAct.TheVariants as found
use Rattle.ecp_coord.specs.Calls.{IsOpen, Ends, ended}
use Rattle.ecp_coord.specs.Coords.{CoordParts, HasRoom, IsCoord, is_losing}
use Rattle.ecp_coord.specs.Joining.{CanJoin, HasNext, after_joining, found_by_joining}
use Rattle.ecp_coord.specs.Losing.{act_of}
use Rattle.ecp_coord.proofs.BookLaws.{Serves, serves_same}
use Rattle.ecp_coord.proofs.CoverLaws.{open_unasked, covered_free}
use Rattle.ecp_coord.proofs.EndLaws.{may_end}
use Rattle.ecp_coord.proofs.FollowLaws.{IsMet}
use Rattle.ecp_coord.proofs.KeepLaws.{IsPlain, entered_kept, with_catalog}
use Rattle.ecp_coord.proofs.LoseLaws.{length_told, not_up}
use Rattle.ecp_coord.proofs.RoomLaws.{asks_open, room_kept}

-- the entry that says what was found may come next
pub join_follows : (shape : Shape) (told : Bool) (before : List Entry) (p : PassState) (m : ℕ) → p.caller < MAX_SESSIONS → length (table_of shape before).nodes ≡ shape.nodes
    → MayFollow shape told before (ended p (Join m) (length before) (act_of (found_by_joining shape (table_of shape before) m)))
join_follows shape told before p m session each = by_node (nat_lt m shape.nodes) refl where
  t : PlainTable
  t = table_of shape before

  by_node : (there : Bool) → nat_lt m shape.nodes ≡ there
      → MayFollow shape told before (ended p (Join m) (length before) (act_of (cond there (cond (is_up t m) found.NodeUp (found.Joined (inc_of t m + 1))) found.NoSuchNode)))
  by_node false none =
      may_end shape told before p (Join m) (act_of found.NoSuchNode) session (inr refl, refl) refl (λ off. absurd (false≢true off))
      (let far : shape.nodes ≤ m = grind (arith, nat_tests) in far)
  by_node true there = by_state (is_up t m) refl where
    by_state : (up : Bool) → is_up t m ≡ up → MayFollow shape told before (ended p (Join m) (length before) (act_of (cond up found.NodeUp (found.Joined (inc_of t m + 1)))))
    by_state true up = may_end shape told before p (Join m) (act_of found.NodeUp) session (refl, refl) refl (λ off. absurd (false≢true off)) up
    by_state false down =
        let below : m < shape.nodes = grind (arith, nat_tests) in
        may_end shape told before p (Join m) (act_of (found.Joined (inc_of t m + 1))) session (refl, refl) refl (λ off. absurd (false≢true off))
        (record { down = not_up t.nodes m (omega (arith, below, each)) down; next = refl })

-- such an entry stores nothing, gives up nothing and spends no fault
join_plain : (p : PassState) (m position : ℕ) (what : NodeAct) → IsPlain (ended p (Join m) position (act_of what))
join_plain p m position (found.Lost count) = record { stores = refl; drops = refl; spends = λ node. refl }
join_plain p m position (found.Joined inc) = record { stores = refl; drops = refl; spends = λ node. refl }
join_plain p m position found.NoSuchNode = record { stores = refl; drops = refl; spends = λ node. refl }
join_plain p m position found.NodeDown = record { stores = refl; drops = refl; spends = λ node. refl }
join_plain p m position found.NodeUp = record { stores = refl; drops = refl; spends = λ node. refl }

-- each node that is down has a next incarnation, since it was lost once more than it came up
has_next : (shape : Shape) (told : Bool) (c : CatalogState) (history : List Entry) (m : ℕ) → IsLegal shape told history → IsOutline shape told c history
    → length c.nodes ≡ shape.nodes → length history < 2 ^ 32 → HasNext c m
has_next shape told c history m legal is each short = λ below off.
    let within : m < length (plain c).nodes = omega (arith, below, each, length-map c.nodes (λ (x : NodeSeen). x.node), ap (λ (x : Shape). x.nodes) is.sizes) in
    let few = joins_few shape told c history m legal is (not_up (plain c).nodes m within off) in
    omega (arith, few, short)

-- what is found can come up
can_join : (shape : Shape) (told : Bool) (c : CatalogState) (history : List Entry) (m : ℕ) → IsOutline shape told c history → HasNext c m
    → CanJoin c (found_by_joining shape (table_of shape history) m) m
can_join shape told c history m is next = by_node (nat_lt m shape.nodes) refl where
  t : PlainTable
  t = table_of shape history

  up_is : is_up (plain c) m ≡ is_up t m
  up_is = ap (λ (ns : List Node). is_up (record { files = []; stripes = []; nodes = ns }) m) is.nodes

  by_node : (there : Bool) → nat_lt m shape.nodes ≡ there → CanJoin c (cond there (cond (is_up t m) found.NodeUp (found.Joined (inc_of t m + 1))) found.NoSuchNode) m
  by_node false none = tt
  by_node true there = by_state (is_up t m) refl where
    by_state : (up : Bool) → is_up t m ≡ up → CanJoin c (cond up found.NodeUp (found.Joined (inc_of t m + 1))) m
    by_state true up = tt
    by_state false down =
        let below : m < shape.nodes = grind (arith, nat_tests) in
        let here : m < c.shape.nodes = omega (arith, below, ap (λ (x : Shape). x.nodes) is.sizes) in
        (here, next here (up_is ∙ down))

-- no node goes down by joining one, and one that comes up was down and has its next incarnation
abbrev IsOfJoining : PlainTable → ℕ → NodeAct → Type 0
IsOfJoining t m (found.Joined inc) = (is_up t m ≡ false) × (inc ≡ inc_of t m + 1)
IsOfJoining t m (found.Lost count) = ⊥
IsOfJoining t m _ = ⊤

of_joining : (shape : Shape) (t : PlainTable) (m : ℕ) → IsOfJoining t m (found_by_joining shape t m)
of_joining shape t m = by_node (nat_lt m shape.nodes) where
  by_state : (up : Bool) → is_up t m ≡ up → IsOfJoining t m (cond up found.NodeUp (found.Joined (inc_of t m + 1)))
  by_state true up = tt
  by_state false down = (down, refl)

  by_node : (there : Bool) → IsOfJoining t m (cond there (cond (is_up t m) found.NodeUp (found.Joined (inc_of t m + 1))) found.NoSuchNode)
  by_node false = tt
  by_node true = by_state (is_up t m) refl

-- the catalog that was brought up to it is the outline of the longer history
pub joining_outline : (shape : Shape) (told : Bool) (c : CatalogState) (history : List Entry) (p : PassState) (m : ℕ) (what : NodeAct) → IsOutline shape told c history
    → what ≡ found_by_joining shape (table_of shape history) m
    → IsOutline shape told (after_joining what m c) (history ++ ended p (Join m) (length history) (act_of what) ∷ [])
joining_outline shape told c history p m what is found_is = by_found what (subst (IsOfJoining t m) (sym found_is) (of_joining shape t m)) where
  t : PlainTable
  t = table_of shape history

  by_found : (what : NodeAct) → IsOfJoining t m what → IsOutline shape told (after_joining what m c) (history ++ ended p (Join m) (length history) (act_of what) ∷ [])
  by_found (found.Joined inc) own =
      let as_up : is_up (plain c) m ≡ false = ap (λ (ns : List Node). is_up (record { files = []; stripes = []; nodes = ns }) m) is.nodes ∙ own.0 in
      let as_inc : inc ≡ inc_of (plain c) m + 1 = own.1 ∙ ap (λ (ns : List Node). inc_of (record { files = []; stripes = []; nodes = ns }) m + 1) (sym is.nodes) in
      joined_outline shape told c history (ended p (Join m) (length history) (act_of (found.Joined inc))) m is as_up refl (ap act.Joined as_inc)
  by_found (found.Lost count) own = absurd own
  by_found found.NoSuchNode own = unchanged shape told c history (ended p (Join m) (length history) (act_of found.NoSuchNode)) is refl
  by_found found.NodeDown own = unchanged shape told c history (ended p (Join m) (length history) (act_of found.NodeDown)) is refl
  by_found found.NodeUp own = unchanged shape told c history (ended p (Join m) (length history) (act_of found.NodeUp)) is refl

joining_serves : (what : NodeAct) (m : ℕ) (c : CatalogState) → Serves c (after_joining what m c)
joining_serves (found.Joined inc) m c = record { nodes = length-changed_at joined_node m c.nodes; names = λ q is. is; room = omega arith }
joining_serves (found.Lost count) m c = serves_same c
joining_serves found.NoSuchNode m c = serves_same c
joining_serves found.NodeDown m c = serves_same c
joining_serves found.NodeUp m c = serves_same c

-- a node that comes up keeps its room for losses
spare_joined : (k m : ℕ) (xs : List NodeSeen) → spare_of (changed_at joined_node k xs) m ≡ spare_of xs m
spare_joined k m [] = refl
spare_joined zero zero (x ∷ xs) = refl
spare_joined zero (suc m) (x ∷ xs) = refl
spare_joined (suc k) zero (x ∷ xs) = refl
spare_joined (suc k) (suc m) (x ∷ xs) = spare_joined k m xs

room_joined : (nodes : ℕ) (c : CatalogState) (notes : List Log) (m : ℕ) (what : NodeAct) → HasRoom nodes c notes → HasRoom nodes (after_joining what m c) notes
room_joined nodes c notes m (found.Joined inc) has = λ i below. omega (arith, has i below, spare_joined m i c.nodes)
room_joined nodes c notes m (found.Lost count) has = has
room_joined nodes c notes m found.NoSuchNode has = has
room_joined nodes c notes m found.NodeDown has = has
room_joined nodes c notes m found.NodeUp has = has

-- ---- the whole event

module _ (shape : Shape) (told : Bool) where
  -- what is entered may follow
  pub join_goes : (s : SequencerState) (v : PassState) (c : CatalogState) (m : ℕ) (what : NodeAct) → IsOutline shape told c (history_of s.history) → length c.nodes ≡ shape.nodes
      → v.caller < MAX_SESSIONS → what ≡ found_by_joining shape (table_of shape (history_of s.history)) m
      → MayFollow shape told (history_of s.history) (ended v (Join m) (length s.history) (act_of what))
  join_goes s v c m what outline each session found_is =
      let before : List Entry = history_of s.history in
      let nodes : length (table_of shape before).nodes ≡ shape.nodes = sym (ap (λ (ns : List Node). length ns) outline.nodes) ∙ length-map c.nodes (λ (x : NodeSeen). x.node) ∙ each in
      subst (λ (n : ℕ). MayFollow shape told before (ended v (Join m) n (act_of what))) (length_told s.history)
      (subst (λ (x : NodeAct). MayFollow shape told before (ended v (Join m) (length before) (act_of x))) (sym found_is) (join_follows shape told before v m session nodes))

  -- the hand has no open call any more
  none_open : (s t : SequencerState) (v w : PassState) (m : ℕ) (what : NodeAct) → Ends shape told s v (Join m) (act_of what) t w → (node : ℕ) → is_losing node w.notes ≡ false
  none_open s t v w m what ends node =
      let e : Entry = ended v (Join m) (length s.history) (act_of what) in
      ap (is_losing node) ends.event.steps.noted ∙ ap (λ (f : HandFacts). asks_open node f.call) (facts-entered v.notes (length s.history) (room_noted v.notes - 1) v.hand e)

  module _ (callers spares : ℕ) where
    pub join_next : (s : SequencerState) (v : PassState) (p : CoordParts) (m : ℕ) → IsCoord shape told callers spares s p → IsMet shape told callers spares s v
        → length s.history < 2 ^ 32 → HasNext p.catalog m
    join_next s v p m is met short =
        has_next shape told p.catalog (history_of s.history) m met.kept.legal.legal is.outline is.each_node (omega (arith, length_told s.history, short))

    pub join_can : (s : SequencerState) (p : CoordParts) (m : ℕ) (what : NodeAct) → IsCoord shape told callers spares s p → HasNext p.catalog m
        → what ≡ found_by_joining shape (table_of shape (history_of s.history)) m → CanJoin p.catalog what m
    join_can s p m what is next found_is =
        subst (λ (x : NodeAct). CanJoin p.catalog x m) (sym found_is) (can_join shape told p.catalog (history_of s.history) m is.outline next)

    pub join_kept : (s t : SequencerState) (v w : PassState) (p : CoordParts) (m : ℕ) (what : NodeAct) → IsCoord shape told callers spares s p → IsMet shape told callers spares s v
        → IsOpen v (Join m) → what ≡ found_by_joining shape (table_of shape (history_of s.history)) m → Ends shape told s v (Join m) (act_of what) t w
        → IsCoord shape told callers spares t (with_catalog p (after_joining what m p.catalog))
    join_kept s t v w p m what is met open_call found_is ends =
        let c : CatalogState = p.catalog in
        let before : List Entry = history_of s.history in
        let e : Entry = ended v (Join m) (length s.history) (act_of what) in
        let d : CatalogState = after_joining what m c in
        let within : v.hand < length s.notes = omega (arith, met.in_range, met.kept.hands) in
        let longer : IsOutline shape told d (before ++ e ∷ []) =
        subst (λ (n : ℕ). IsOutline shape told d (before ++ ended v (Join m) n (act_of what) ∷ [])) (length_told s.history)
        (joining_outline shape told c before v m what is.outline found_is) in
        entered_kept shape told callers spares s t v w p d e (room_noted v.notes - 1) is met ends.event (join_plain v m (length s.history) what)
        (covered_free shape s v e (open_unasked shape v.notes (call_with (v.calls - 1) (Join m)) open_call.call refl)) longer
        (joining_serves what m c)
        (subst (HasRoom shape.nodes d) (sym ends.event.notes)
        (room_joined shape.nodes c (set s.notes v.hand w.notes) m what (room_kept shape.nodes c s.notes v.hand w.notes is.room within (none_open s t v w m what ends))))
