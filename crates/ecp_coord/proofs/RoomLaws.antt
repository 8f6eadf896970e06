-- How many hands have an open call that asks for the loss of a node, and the room for these losses, as one hand notes more.
use Rattle.std.proofs.Common.{◌≡◌, ℕ, zero, suc, replicate, ◌+◌, ◌-◌, ◌*◌, ◌<◌, ◌≤◌, ◌==◌, Bool, true, false, cond, List, [], ◌∷◌, length, set, get_or, slice_get, Option, Some, refl, sym, ◌∙◌, ap, subst, arith, inl, inr}
use Rattle.std.specs.Option.{option_map_or}
use Rattle.std.proofs.lemmas.Bool.{cases_eq, ne_eqb}
use Rattle.std.proofs.lemmas.Option.{slice_get-get_or}
use Rattle.std.proofs.lemmas.List.{length-set}
use Rattle.std.proofs.lemmas.List.Sums.{sum_by-set, count_by-le-length}
use Rattle.std.proofs.lemmas.List.Folds.{sum_by-replicate}
use Rattle.ecp_book.specs.Logs.{Log}
use Rattle.ecp_entry.specs.declared.deed.Deed.{Deed}
use Rattle.ecp_entry.specs.declared.deed.Deed.TheVariants as deed
use Rattle.ecp_catalog.specs.Catalogs.{NodeSeen, CatalogState, new_node, changed_at, with_spare, lost_at, spare_of}
use Rattle.ecp_catalog.proofs.NodeLaws.{at-changed_same, at-changed_other}
use Rattle.ecp_sequencer.specs.Notes.{Call}
use Rattle.ecp_sequencer.specs.Facts.{HandFacts, facts_of}
use Rattle.ecp_sequencer.specs.Histories.{notes_at}
use Rattle.ecp_sequencer.specs.Steps.{call_with}
use Rattle.ecp_sequencer.proofs.NoteLaws.{facts_of-none}
use Rattle.ecp_coord.specs.declared.node_act.NodeAct.{NodeAct}
use Rattle.ecp_coord.specs.declared.node_act.NodeAct.TheVariants as found
use Rattle.ecp_coord.specs.Coords.{asks_loss, is_losing, losers, HasRoom, with_room}
use Rattle.ecp_coord.specs.Losing.{after_losing}

-- one hand changes
pub losers-set : (m : ℕ) (notes : List Log) (hand : ℕ) (now : Log) → hand < length notes
    → losers m (set notes hand now) + cond (is_losing m (notes_at notes hand)) 1 0 ≡ losers m notes + cond (is_losing m now) 1 0
losers-set m notes hand now within = sum_by-set (λ (x : Log). cond (is_losing m x) 1 0) notes hand now [] within

-- a hand that does not ask for the loss makes them no more
pub losers-fewer : (m : ℕ) (notes : List Log) (hand : ℕ) (now : Log) → hand < length notes → is_losing m now ≡ false → losers m (set notes hand now) ≤ losers m notes
losers-fewer m notes hand now within none =
    omega (arith, losers-set m notes hand now within, ap {B = ℕ} (λ (b : Bool). cond b 1 0) none)

-- and they are one less where it did ask
pub losers-less : (m : ℕ) (notes : List Log) (hand : ℕ) (now : Log) → hand < length notes → is_losing m (notes_at notes hand) ≡ true → is_losing m now ≡ false
    → losers m (set notes hand now) + 1 ≡ losers m notes
losers-less m notes hand now within was none =
    omega (arith, losers-set m notes hand now within, ap {B = ℕ} (λ (b : Bool). cond b 1 0) was, ap {B = ℕ} (λ (b : Bool). cond b 1 0) none)

-- they are no more than there are hands
pub losers-most : (m : ℕ) (notes : List Log) (hand : ℕ) (now : Log) → losers m (set notes hand now) ≤ length notes
losers-most m notes hand now = omega (arith, count_by-le-length (is_losing m) (set notes hand now), length-set notes hand now)

-- the call of a hand, as it is known
abbrev pub asks_open : ℕ → Option Call → Bool
asks_open m call = option_map_or (λ c. asks_loss m c.deed) call false

-- a hand that noted nothing has none
pub nothing_open : (m : ℕ) → is_losing m [] ≡ false
nothing_open m = ap (λ (f : HandFacts). asks_open m f.call) facts_of-none

-- nor has any of so many that noted nothing
pub losers-none : (m n : ℕ) → losers m (replicate n []) ≡ 0
losers-none m n =
    let each : losers m (replicate n []) ≡ n * cond (is_losing m []) 1 0 = sum_by-replicate (λ (x : Log). cond (is_losing m x) 1 0) n [] in
    let none : losers m (replicate n []) ≡ n * 0 = each ∙ ap {B = ℕ} (λ (b : Bool). n * cond b 1 0) (nothing_open m) in
    omega (arith, none)

-- ---- the room

-- past the last node nothing changes
pub changed_at-past : (change : NodeSeen → NodeSeen) (m : ℕ) (xs : List NodeSeen) → length xs ≤ m → changed_at change m xs ≡ xs
changed_at-past change m [] past = refl
changed_at-past change zero (x ∷ xs) past = absurd (omega arith)
changed_at-past change (suc m) (x ∷ xs) past = ap (λ (ys : List NodeSeen). x ∷ ys) (changed_at-past change m xs (omega arith))

-- a hand that asks for no loss leaves the room
pub room_kept : (nodes : ℕ) (c : CatalogState) (notes : List Log) (hand : ℕ) (now : Log) → HasRoom nodes c notes → hand < length notes
    → ((m : ℕ) → is_losing m now ≡ false) → HasRoom nodes c (set notes hand now)
room_kept nodes c notes hand now has within none = λ m below. omega (arith, has m below, losers-fewer m notes hand now within (none m))

-- the node with room for so many losses, and another
spare-same : (c : CatalogState) (m hands : ℕ) → m < length c.nodes → hands ≤ spare_of (changed_at (with_spare hands) m c.nodes) m
spare-same c m hands within =
    let y : NodeSeen = get_or c.nodes m new_node in
    let at : slice_get c.nodes m ≡ Some y = slice_get-get_or c.nodes m new_node within in
    let is = at-changed_same (λ x. x.spare) 0 (with_spare hands) m c.nodes within y at in
    omega (arith, is)

-- room that is taken is no less than there was
pub spare-more : (c : CatalogState) (k m hands : ℕ) → spare_of c.nodes m ≤ spare_of (changed_at (with_spare hands) k c.nodes) m
spare-more c k m hands = more k m c.nodes where
  more : (k m : ℕ) (xs : List NodeSeen) → spare_of xs m ≤ spare_of (changed_at (with_spare hands) k xs) m
  more k m [] = omega arith
  more zero zero (x ∷ xs) = omega arith
  more zero (suc m) (x ∷ xs) = omega arith
  more (suc k) zero (x ∷ xs) = omega arith
  more (suc k) (suc m) (x ∷ xs) = more k m xs

lose_room : (nodes : ℕ) (c : CatalogState) (notes : List Log) (hand : ℕ) (now : Log) (k hands : ℕ) → HasRoom nodes c notes → hand < length notes → length notes ≡ hands
    → length c.nodes ≡ nodes → ((m : ℕ) → is_losing m now ≡ (k == m)) → HasRoom nodes (with_room (deed.Lose k) hands c) (set notes hand now)
lose_room nodes c notes hand now k hands has within all each asks = λ m below.
    elim (cases_eq m k) [
      | inl same ↦
          let most = losers-most m notes hand now in
          let room : hands ≤ spare_of (changed_at (with_spare hands) k c.nodes) m =
          subst (λ (j : ℕ). hands ≤ spare_of (changed_at (with_spare hands) j c.nodes) m) same (spare-same c m hands (omega (arith, below, each))) in
          omega (arith, most, room, all)
      | inr other ↦
          let apart : k == m ≡ false = ne_eqb k m (λ same. other (sym same)) in
          let fewer = losers-fewer m notes hand now within (asks m ∙ apart) in
          let same = at-changed_other (λ x. x.spare) 0 (with_spare hands) k m c.nodes other in
          omega (arith, has m below, fewer, same)
    ]

-- a hand whose call began has the room that the call asks for
pub room_begun : (nodes : ℕ) (c : CatalogState) (notes : List Log) (hand : ℕ) (now : Log) (number hands : ℕ) (asked : Deed) → HasRoom nodes c notes → hand < length notes
    → length notes ≡ hands → length c.nodes ≡ nodes → (facts_of now).call ≡ Some (call_with number asked) → HasRoom nodes (with_room asked hands c) (set notes hand now)
room_begun nodes c notes hand now number hands asked has within all each is = by_deed asked (λ m. ap (asks_open m) is) where
  by_deed : (asked : Deed) → ((m : ℕ) → is_losing m now ≡ asks_loss m (Some asked)) → HasRoom nodes (with_room asked hands c) (set notes hand now)
  by_deed (deed.Put name len) h = room_kept nodes c notes hand now has within h
  by_deed (deed.Read name index) h = room_kept nodes c notes hand now has within h
  by_deed (deed.Sum name index) h = room_kept nodes c notes hand now has within h
  by_deed (deed.Cat name) h = room_kept nodes c notes hand now has within h
  by_deed (deed.Lose node) h = lose_room nodes c notes hand now node hands has within all each h
  by_deed (deed.Join node) h = room_kept nodes c notes hand now has within h
  by_deed (deed.Rebuild from to) h = room_kept nodes c notes hand now has within h
  by_deed (deed.Stat name) h = room_kept nodes c notes hand now has within h

-- a hand that asked for the loss of a node had room for it
pub room_there : (nodes : ℕ) (c : CatalogState) (notes : List Log) (hand m : ℕ) → HasRoom nodes c notes → m < nodes → hand < length notes
    → is_losing m (notes_at notes hand) ≡ true → 1 ≤ spare_of c.nodes m
room_there nodes c notes hand m has below within was =
    let none : is_losing m [] ≡ false = nothing_open m in
    omega (arith, has m below, losers-less m notes hand [] within was none)

-- the node that is lost gives up one place
spare-lost : (c : CatalogState) (m position : ℕ) → m < length c.nodes → spare_of (changed_at (lost_at position) m c.nodes) m ≡ spare_of c.nodes m - 1
spare-lost c m position within =
    let y : NodeSeen = get_or c.nodes m new_node in
    let at : slice_get c.nodes m ≡ Some y = slice_get-get_or c.nodes m new_node within in
    at-changed_same (λ x. x.spare) 0 (lost_at position) m c.nodes within y at ∙ ap (λ (o : Option NodeSeen). option_map_or (λ x. x.spare) o 0 - 1) (sym at)

-- what is found by losing a node takes the room of the hand that asked
pub room_lost : (nodes : ℕ) (c : CatalogState) (notes : List Log) (hand : ℕ) (now : Log) (k position : ℕ) (what : NodeAct) → HasRoom nodes c notes → hand < length notes
    → length c.nodes ≡ nodes → is_losing k (notes_at notes hand) ≡ true → ((m : ℕ) → is_losing m now ≡ false) → HasRoom nodes (after_losing what k position c) (set notes hand now)
room_lost nodes c notes hand now k position what has within each was none = by_found what where
  by_found : (what : NodeAct) → HasRoom nodes (after_losing what k position c) (set notes hand now)
  by_found (found.Lost count) = λ m below.
      elim (cases_eq m k) [
        | inl same ↦
            let less = losers-less m notes hand now within (subst (λ (j : ℕ). is_losing j (notes_at notes hand) ≡ true) (sym same) was) (none m) in
            let left = subst (λ (j : ℕ). spare_of (changed_at (lost_at position) j c.nodes) m ≡ spare_of c.nodes m - 1) same (spare-lost c m position (omega (arith, below, each))) in
            omega (arith, has m below, less, left)
        | inr other ↦
            let kept = at-changed_other (λ x. x.spare) 0 (lost_at position) k m c.nodes other in
            omega (arith, has m below, losers-fewer m notes hand now within (none m), kept)
      ]
  by_found (found.Joined inc) = room_kept nodes c notes hand now has within none
  by_found found.NoSuchNode = room_kept nodes c notes hand now has within none
  by_found found.NodeDown = room_kept nodes c notes hand now has within none
  by_found found.NodeUp = room_kept nodes c notes hand now has within none
