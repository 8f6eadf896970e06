-- The first loss of one of some nodes, and the nodes that were not lost.
use Rattle.std.proofs.Common.{◌≡◌, ℕ, zero, suc, ◌+◌, ◌-◌, ◌*◌, ◌/◌, ◌%◌, ◌<◌, ◌≤◌, ◌==◌, Bool, true, false, cond, ◌||◌, List, [], ◌∷◌, length, map, drop, min, Option, Some, None, refl, sym, ◌∙◌, ap, subst, arith, inl, inr}
use Rattle.std.specs.Prelude.{All, filter, is_some, slice_get}
use Rattle.std.specs.Int.{bit_at}
use Rattle.std.specs.List.{list_any, position_from, range_with_len}
use Rattle.std.specs.Option.{option_map_or}
use Rattle.std.proofs.lemmas.Bool.{cases_eq, eq-eqb, eqb-true, false≢true}
use Rattle.std.proofs.lemmas.List.Elements.{All-head, All-tail}
use Rattle.std.proofs.lemmas.Nat.Bits.{bit_at-zero, bit_at-suc, bit_at_lowest}
use Rattle.ecp_shape.specs.declared.limits.TheConstants.{MAX_NODES}
use Rattle.ecp_shape.specs.declared.shape.Shape.{Shape}
use Rattle.ecp_shape.specs.Range.{IsInRange}
use Rattle.ecp_entry.specs.declared.entry.Entry.{Entry}
use Rattle.ecp_entry.specs.Entries.{is_loss}
use Rattle.ecp_history.specs.declared.table.node.Node.{Node}
use Rattle.ecp_history.specs.table.Placement.{mask_of, nodes_in}
use Rattle.ecp_history.specs.table.Steps.{table_of}
use Rattle.ecp_history.specs.table.Tables.{is_up, up_mask}
use Rattle.ecp_history.proofs.tables.MaskLaws.{up_nodes}
use Rattle.ecp_catalog.specs.Catalogs.{CatalogState, NodeSeen, earlier, earliest, first_loss, first_loss_among}
use Rattle.ecp_catalog.specs.Outline.{IsOutline}
use Rattle.ecp_catalog.proofs.ApartLaws.{nodes-count}
use Rattle.ecp_catalog.proofs.OutlineLaws.{first_losses}
use Rattle.ecp_coord.specs.Puts.{loses_one_of}
use Rattle.ecp_coord.proofs.AnyLaws.{any_weaker, both_none, or_none}

-- ---- positions

earlier_front : (i : ℕ) (o : Option ℕ) → ((q : ℕ) → o ≡ Some q → i ≤ q) → earlier (Some i) o ≡ Some i
earlier_front i None least = refl
earlier_front i (Some q) least = let le = least q refl in ap (λ (n : ℕ). Some n) (let is : min i q ≡ i = omega (arith, le) in is)

earlier_back : (i : ℕ) (o : Option ℕ) → ((q : ℕ) → o ≡ Some q → i ≤ q) → earlier o (Some i) ≡ Some i
earlier_back i None least = refl
earlier_back i (Some q) least = let le = least q refl in ap (λ (n : ℕ). Some n) (let is : min q i ≡ i = omega (arith, le) in is)

module _ {X : Type 0} where
  position_least : (f : X → Bool) (i q : ℕ) (xs : List X) → position_from f i xs ≡ Some q → i ≤ q
  position_least f i q [] is = absurd (false≢true (ap (λ (o : Option ℕ). is_some o) is))
  position_least f i q (x ∷ xs) is = either (f x) is (position_least f (i + 1) q xs) where
    either : (b : Bool) → cond b (Some i) (position_from f (i + 1) xs) ≡ Some q → (position_from f (i + 1) xs ≡ Some q → i + 1 ≤ q) → i ≤ q
    either true here more = let same : i ≡ q = ap (λ (o : Option ℕ). option_map_or (λ (n : ℕ). n) o 0) here in omega (arith, same)
    either false there more = let past = more there in omega (arith, past)

  -- no position is no element
  pub position_none : (f : X → Bool) (i : ℕ) (xs : List X) → position_from f i xs ≡ None → list_any f xs ≡ false
  position_none f i [] is = refl
  position_none f i (x ∷ xs) is = either (f x) refl is (position_none f (i + 1) xs) where
    either : (b : Bool) → f x ≡ b → cond b (Some i) (position_from f (i + 1) xs) ≡ None → (position_from f (i + 1) xs ≡ None → list_any f xs ≡ false) → (f x || list_any f xs) ≡ false
    either true at some more = absurd (false≢true (sym (ap (λ (o : Option ℕ). is_some o) some)))
    either false at none more = both_none (f x) (list_any f xs) at (more none)

  -- the earlier of two positions is that of the first element that passes either test
  earlier_either : (f g : X → Bool) (i : ℕ) (xs : List X) → earlier (position_from f i xs) (position_from g i xs) ≡ position_from (λ x. f x || g x) i xs
  earlier_either f g i [] = refl
  earlier_either f g i (x ∷ xs) = either (f x) (g x) (earlier_either f g (i + 1) xs) where
    either : (a b : Bool) → earlier (position_from f (i + 1) xs) (position_from g (i + 1) xs) ≡ position_from (λ y. f y || g y) (i + 1) xs
        → earlier (cond a (Some i) (position_from f (i + 1) xs)) (cond b (Some i) (position_from g (i + 1) xs)) ≡ cond (a || b) (Some i) (position_from (λ y. f y || g y) (i + 1) xs)
    either true true more = ap (λ (n : ℕ). Some n) (let is : min i i ≡ i = omega arith in is)
    either true false more = earlier_front i (position_from g (i + 1) xs) (λ q is. let le = position_least g (i + 1) q xs is in omega (arith, le))
    either false true more = earlier_back i (position_from f (i + 1) xs) (λ q is. let le = position_least f (i + 1) q xs is in omega (arith, le))
    either false false more = more

  never : (i : ℕ) (xs : List X) → position_from (λ (x : X). false) i xs ≡ None
  never i [] = refl
  never i (x ∷ xs) = never (i + 1) xs

  pub position_same : (f g : X → Bool) → ((x : X) → f x ≡ g x) → (i : ℕ) (xs : List X) → position_from f i xs ≡ position_from g i xs
  position_same f g same i [] = refl
  position_same f g same i (x ∷ xs) =
      ap (λ (b : Bool). cond b (Some i) (position_from f (i + 1) xs)) (same x) ∙ ap (λ (o : Option ℕ). cond (g x) (Some i) o) (position_same f g same (i + 1) xs)

  -- the earliest of several tests' positions is that of the first element that passes any
  earliest_any : (f : ℕ → X → Bool) (i : ℕ) (xs : List X) (ms : List ℕ) → earliest (map (λ m. position_from (f m) i xs) ms) ≡ position_from (λ x. list_any (λ m. f m x) ms) i xs
  earliest_any f i xs [] = sym (never i xs)
  earliest_any f i xs (m ∷ ms) =
      ap (λ (o : Option ℕ). earlier (position_from (f m) i xs) o) (earliest_any f i xs ms) ∙ earlier_either (f m) (λ x. list_any (λ k. f k x) ms) i xs

-- what is at a position passes the test
pub record IsAtPosition {X : Type 0} (f : X → Bool) (i : ℕ) (xs : List X) (at : ℕ) : Type 0 where
  pub element : X
  pub from : i ≤ at
  pub here : slice_get xs (at - i) ≡ Some element
  pub passes : f element ≡ true

at_later : {X : Type 0} (f : X → Bool) (i at : ℕ) (x : X) (xs : List X) → IsAtPosition f (i + 1) xs at → IsAtPosition f i (x ∷ xs) at
at_later f i at x xs is = record {
  element = is.element;
  from = let le = is.from in omega (arith, le);
  here = ap (slice_get (x ∷ xs)) (let le = is.from in let on : at - i ≡ suc (at - (i + 1)) = omega (arith, le) in on) ∙ is.here;
  passes = is.passes;
}

pub position_some : {X : Type 0} (f : X → Bool) (i at : ℕ) (xs : List X) → position_from f i xs ≡ Some at → IsAtPosition f i xs at
position_some f i at [] is = absurd (false≢true (ap (λ (o : Option ℕ). is_some o) is))
position_some f i at (x ∷ xs) is = either (f x) refl is (position_some f (i + 1) at xs) where
  either : (b : Bool) → f x ≡ b → cond b (Some i) (position_from f (i + 1) xs) ≡ Some at → (position_from f (i + 1) xs ≡ Some at → IsAtPosition f (i + 1) xs at) → IsAtPosition f i (x ∷ xs) at
  either true passes here more =
      let same : i ≡ at = ap (λ (o : Option ℕ). option_map_or (λ (n : ℕ). n) o 0) here in
      record {
        element = x;
        from = omega (arith, same);
        here = ap (slice_get (x ∷ xs)) (let none : at - i ≡ 0 = omega (arith, same) in none);
        passes = passes;
      }
  either false fails there more = at_later f i at x xs (more there)

-- ---- the first loss of a node of a mask

same_losses : (nodes : List NodeSeen) (point : ℕ) (history : List Entry) (ms : List ℕ) → ((m : ℕ) → m < length nodes → first_loss nodes point m ≡ position_from (is_loss m) point (drop point history))
    → All (λ m. m < length nodes) ms → map (first_loss nodes point) ms ≡ map (λ m. position_from (is_loss m) point (drop point history)) ms
same_losses nodes point history [] each all = refl
same_losses nodes point history (m ∷ ms) each all =
    ap (λ (o : Option ℕ). o ∷ map (first_loss nodes point) ms) (each m (All-head (λ k. k < length nodes) m ms all))
    ∙ ap (λ (os : List (Option ℕ)). position_from (is_loss m) point (drop point history) ∷ os) (same_losses nodes point history ms each (All-tail (λ k. k < length nodes) m ms all))

-- the nodes of the mask of a table's up nodes are there
mask_within : (shape : Shape) (history : List Entry) → IsInRange shape → All (λ m. m < shape.nodes) (nodes_in (up_mask (table_of shape history)))
mask_within shape history range =
    subst (λ (n : ℕ). All (λ m. m < n) (nodes_in (up_mask (table_of shape history)))) (nodes-count shape history)
    (up_nodes (table_of shape history) (omega (arith, nodes-count shape history, range.few))).1

-- a catalog that is the outline of a history finds what the history has
pub first_overtaken : (shape : Shape) (told : Bool) (c : CatalogState) (history before : List Entry) (mask point : ℕ) → IsOutline shape told c history → length c.nodes ≡ shape.nodes
    → IsInRange shape → mask ≡ up_mask (table_of shape before) → first_loss_among c.nodes mask point ≡ position_from (loses_one_of mask) point (drop point history)
first_overtaken shape told c history before mask point is each range up =
    let within : All (λ m. m < length c.nodes) (nodes_in mask) =
    subst (λ (n : ℕ). All (λ m. m < n) (nodes_in mask)) (sym each) (subst (λ (k : ℕ). All (λ m. m < shape.nodes) (nodes_in k)) (sym up) (mask_within shape before range)) in
    ap (λ (os : List (Option ℕ)). earliest os) (same_losses c.nodes point history (nodes_in mask) (λ m low. first_losses shape told c history m point is low) within)
    ∙ earliest_any (λ m e. is_loss m e) point (drop point history) (nodes_in mask)

-- ---- a node that is up is one of the mask

half : (b : Bool) (m : ℕ) → (cond b 1 0 + 2 * m) / 2 ≡ m
half true m = omega arith
half false m = omega arith

lowest : (b : Bool) (m : ℕ) → (cond b 1 0 + 2 * m) % 2 ≡ cond b 1 0
lowest true m = omega arith
lowest false m = omega arith

pub bit_of : (nodes : List Node) (m : ℕ) → bit_at (mask_of (map (λ x. x.up) nodes)) m ≡ cond (option_map_or (λ x. x.up) (slice_get nodes m) false) 1 0
bit_of [] m = bit_at-zero m
bit_of (x ∷ nodes) zero = bit_at_lowest (cond x.up 1 0 + 2 * mask_of (map (λ y. y.up) nodes)) ∙ lowest x.up (mask_of (map (λ y. y.up) nodes))
bit_of (x ∷ nodes) (suc m) =
    bit_at-suc (cond x.up 1 0 + 2 * mask_of (map (λ y. y.up) nodes)) m ∙ ap (λ (n : ℕ). bit_at n m) (half x.up (mask_of (map (λ y. y.up) nodes))) ∙ bit_of nodes m

up_within : (nodes : List Node) (m : ℕ) → option_map_or (λ x. x.up) (slice_get nodes m) false ≡ true → m < length nodes
up_within [] m up = absurd (false≢true up)
up_within (x ∷ nodes) zero up = omega arith
up_within (x ∷ nodes) (suc m) up = let more = up_within nodes m up in omega (arith, more)

or_true : (b : Bool) → (b || true) ≡ true
or_true true = refl
or_true false = refl

-- a number is in a list that has it in front, or behind a number or none
in_front : (a m : ℕ) (b : Bool) (rest : List ℕ) → b ≡ true → a ≡ m → list_any (λ k. k == m) (cond b (a ∷ rest) rest) ≡ true
in_front a m true rest is same = ap (λ (v : Bool). v || list_any (λ k. k == m) rest) (eq-eqb a m same)
in_front a m false rest is same = absurd (false≢true is)

in_rest : (a m : ℕ) (b : Bool) (rest : List ℕ) → list_any (λ k. k == m) rest ≡ true → list_any (λ k. k == m) (cond b (a ∷ rest) rest) ≡ true
in_rest a m true rest is = ap (λ (v : Bool). (a == m) || v) is ∙ or_true (a == m)
in_rest a m false rest is = is

in_range_of : (test : ℕ → Bool) (a n m : ℕ) → a ≤ m → m < a + n → test m ≡ true → list_any (λ k. k == m) (filter test (range_with_len a n)) ≡ true
in_range_of test a zero m from to passes = absurd (omega (arith, from, to))
in_range_of test a (suc n) m from to passes = elim (cases_eq a m) [
  | inl same ↦ in_front a m (test a) (filter test (range_with_len (a + 1) n)) (ap test same ∙ passes) same
  | inr other ↦ in_rest a m (test a) (filter test (range_with_len (a + 1) n)) (in_range_of test (a + 1) n m (omega (arith, from, other)) (omega (arith, to)) passes)
]

-- what holds of no number of a list does not hold of one that is in it
none_holds : (test : ℕ → Bool) (ms : List ℕ) (m : ℕ) → list_any (λ k. k == m) ms ≡ true → list_any test ms ≡ false → test m ≡ false
none_holds test [] m there none = absurd (false≢true there)
none_holds test (k ∷ ms) m there none = either (k == m) refl there (none_holds test ms m) where
  either : (b : Bool) → k == m ≡ b → (b || list_any (λ j. j == m) ms) ≡ true → (list_any (λ j. j == m) ms ≡ true → list_any test ms ≡ false → test m ≡ false) → test m ≡ false
  either true same is more = ap test (sym (eqb-true k m same)) ∙ (or_none (test k) (list_any test ms) none).0
  either false other is more = more is (or_none (test k) (list_any test ms) none).1

-- a node that was up at the point of a reservation was not lost since, where none of its nodes was
pub not_lost : (shape : Shape) (before more : List Entry) (mask m : ℕ) → IsInRange shape → mask ≡ up_mask (table_of shape before) → is_up (table_of shape before) m ≡ true
    → list_any (loses_one_of mask) more ≡ false → list_any (is_loss m) more ≡ false
not_lost shape before more mask m range up is none =
    let nodes : List Node = (table_of shape before).nodes in
    let low : m < MAX_NODES = let there = up_within nodes m is in omega (arith, there, nodes-count shape before, range.few) in
    let bit : bit_at mask m == 1 ≡ true = ap (λ (k : ℕ). bit_at k m == 1) up ∙ ap (λ (b : ℕ). b == 1) (bit_of nodes m ∙ ap (λ (b : Bool). cond b 1 0) is) in
    let in_mask : list_any (λ k. k == m) (nodes_in mask) ≡ true = in_range_of (λ k. bit_at mask k == 1) 0 MAX_NODES m (omega arith) (omega (arith, low)) bit in
    any_weaker (is_loss m) (loses_one_of mask) (λ e off. none_holds (λ k. is_loss k e) (nodes_in mask) m in_mask off) more none
