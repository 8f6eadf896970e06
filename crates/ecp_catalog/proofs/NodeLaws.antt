-- The nodes of a catalog, as one of them changes.
use Rattle.std.proofs.Common.{◌≡◌, ℕ, zero, suc, ◌+◌, ◌<◌, ◌==◌, ◌&&◌, Bool, true, false, cond, List, [], ◌∷◌, length, map, replicate, set, slice_get, get_or, Option, Some, Result, Ok, Err, OnOk, refl, sym, ◌∙◌, ap, arith, ◌≤◌, max}
use Rattle.std.specs.Option.{option_map_or}
use Rattle.std.proofs.lemmas.Option.{slice_get-get_or}
use Rattle.std.proofs.lemmas.Bool.{ne_eqb}
use Rattle.std.proofs.lemmas.Bool.Decides.{nat_tests}
use Rattle.ecp_history.specs.declared.table.node.Node.{Node}
use Rattle.ecp_catalog.specs.Standing.{is_up_in}
use Rattle.ecp_catalog.specs.Catalogs.{NodeSeen, new_node, changed_at, joined_node, lost_at, with_spare, spare_of, uncounted}

-- what the nodes are at the start
pub map-new : (n : ℕ) → map (λ (x : NodeSeen). x.node) (replicate n new_node) ≡ replicate n (record { up = true; inc = 0 })
map-new zero = refl
map-new (suc n) = ap (λ (xs : List Node). record { up = true; inc = 0 } ∷ xs) (map-new n)

pub at-new : {Y : Type 0} (f : NodeSeen → Y) (d : Y) → f new_node ≡ d → (n m : ℕ) → option_map_or f (slice_get (replicate n new_node) m) d ≡ d
at-new f d same zero m = refl
at-new f d same (suc n) zero = same
at-new f d same (suc n) (suc m) = at-new f d same n m

-- a node that is changed
pub length-changed_at : (change : NodeSeen → NodeSeen) (m : ℕ) (xs : List NodeSeen) → length (changed_at change m xs) ≡ length xs
length-changed_at change m [] = refl
length-changed_at change zero (x ∷ xs) = refl
length-changed_at change (suc m) (x ∷ xs) = ap (λ (n : ℕ). suc n) (length-changed_at change m xs)

pub changed_at-set : (change : NodeSeen → NodeSeen) (m : ℕ) (xs : List NodeSeen) (d : NodeSeen) → m < length xs → changed_at change m xs ≡ set xs m (change (get_or xs m d))
changed_at-set change m [] d h = absurd (omega arith)
changed_at-set change zero (x ∷ xs) d h = refl
changed_at-set change (suc m) (x ∷ xs) d h = ap (λ (ys : List NodeSeen). x ∷ ys) (changed_at-set change m xs d (omega arith))

-- what the change leaves of each
pub map-changed_at : (change : NodeSeen → NodeSeen) → ((x : NodeSeen) → (change x).node ≡ x.node) → (m : ℕ) (xs : List NodeSeen) → map (λ x. x.node) (changed_at change m xs) ≡ map (λ x. x.node) xs
map-changed_at change same m [] = refl
map-changed_at change same zero (x ∷ xs) = ap (λ (n : Node). n ∷ map (λ y. y.node) xs) (same x)
map-changed_at change same (suc m) (x ∷ xs) = ap (λ (ns : List Node). x.node ∷ ns) (map-changed_at change same m xs)

pub at-changed_at : {Y : Type 0} (f : NodeSeen → Y) (d : Y) (change : NodeSeen → NodeSeen) → ((x : NodeSeen) → f (change x) ≡ f x) → (m i : ℕ) (xs : List NodeSeen)
    → option_map_or f (slice_get (changed_at change m xs) i) d ≡ option_map_or f (slice_get xs i) d
at-changed_at f d change same m i [] = refl
at-changed_at f d change same zero zero (x ∷ xs) = same x
at-changed_at f d change same zero (suc i) (x ∷ xs) = refl
at-changed_at f d change same (suc m) zero (x ∷ xs) = refl
at-changed_at f d change same (suc m) (suc i) (x ∷ xs) = at-changed_at f d change same m i xs

-- the changed one, and another
pub at-changed_same : {Y : Type 0} (f : NodeSeen → Y) (d : Y) (change : NodeSeen → NodeSeen) (m : ℕ) (xs : List NodeSeen) → m < length xs
    → (y : NodeSeen) → slice_get xs m ≡ Some y → option_map_or f (slice_get (changed_at change m xs) m) d ≡ f (change y)
at-changed_same f d change m [] h y is = absurd (omega arith)
at-changed_same f d change zero (x ∷ xs) h y is = ap (λ (o : Option NodeSeen). option_map_or (λ z. f (change z)) o d) is
at-changed_same f d change (suc m) (x ∷ xs) h y is = at-changed_same f d change m xs (omega arith) y is

pub at-changed_other : {Y : Type 0} (f : NodeSeen → Y) (d : Y) (change : NodeSeen → NodeSeen) (m i : ℕ) (xs : List NodeSeen) → (i ≡ m → ⊥)
    → option_map_or f (slice_get (changed_at change m xs) i) d ≡ option_map_or f (slice_get xs i) d
at-changed_other f d change m i [] other = refl
at-changed_other f d change zero zero (x ∷ xs) other = absurd (other refl)
at-changed_other f d change zero (suc i) (x ∷ xs) other = refl
at-changed_other f d change (suc m) zero (x ∷ xs) other = refl
at-changed_other f d change (suc m) (suc i) (x ∷ xs) other = at-changed_other f d change m i xs (λ same. other (ap (λ (n : ℕ). suc n) same))

-- a node that is lost, as a plain table has it
pub map-lost_at : (position m : ℕ) (xs : List NodeSeen) → map (λ x. x.node) (changed_at (lost_at position) m xs)
    ≡ set (map (λ x. x.node) xs) m (record { up = false; inc = option_map_or (λ y. y.inc) (slice_get (map (λ x. x.node) xs) m) 0 })
map-lost_at position m [] = refl
map-lost_at position zero (x ∷ xs) = refl
map-lost_at position (suc m) (x ∷ xs) = ap (λ (ns : List Node). x.node ∷ ns) (map-lost_at position m xs)

-- no incarnation of a node that is down is up
pub up_in-set : (inc : ℕ) (xs : List Node) (m i : ℕ) (d : Node) → d.up ≡ false
    → option_map_or (is_up_in inc) (slice_get (set xs m d) i) false ≡ cond (i == m) false (option_map_or (is_up_in inc) (slice_get xs i) false)
up_in-set inc [] m i d down = rw (both (i == m)) refl where
  both : (b : Bool) → cond b false false ≡ false
  both true = refl
  both false = refl
up_in-set inc (x ∷ xs) zero zero d down = rw down refl
up_in-set inc (x ∷ xs) zero (suc i) d down =
    let other : suc i == 0 ≡ false = grind (arith, nat_tests) in
    rw other refl
up_in-set inc (x ∷ xs) (suc m) zero d down =
    let other : 0 == suc m ≡ false = grind (arith, nat_tests) in
    rw other refl
up_in-set inc (x ∷ xs) (suc m) (suc i) d down =
    let same : suc i == suc m ≡ i == m = both_tests (i == m) refl in
    up_in-set inc xs m i d down ∙ ap (λ (b : Bool). cond b false (option_map_or (is_up_in inc) (slice_get xs i) false)) (sym same)
  where
    both_tests : (b : Bool) → i == m ≡ b → suc i == suc m ≡ i == m
    both_tests true is = grind (arith, nat_tests)
    both_tests false is = grind (arith, nat_tests)

-- a node that came up, as a plain table has it
pub map-joined_node : (m : ℕ) (xs : List NodeSeen) → map (λ x. x.node) (changed_at joined_node m xs)
    ≡ set (map (λ x. x.node) xs) m (record { up = true; inc = option_map_or (λ y. y.inc) (slice_get (map (λ x. x.node) xs) m) 0 + 1 })
map-joined_node m [] = refl
map-joined_node zero (x ∷ xs) = refl
map-joined_node (suc m) (x ∷ xs) = ap (λ (ns : List Node). x.node ∷ ns) (map-joined_node m xs)

-- the incarnation of a node, where these are the nodes
abbrev pub inc_at : List Node → ℕ → ℕ
inc_at nodes m = option_map_or (λ x. x.inc) (slice_get nodes m) 0

-- no incarnation falls where a node is changed and its own does not
pub inc-set : (xs : List Node) (m i : ℕ) (d : Node) → inc_at xs m ≤ d.inc → inc_at xs i ≤ inc_at (set xs m d) i
inc-set [] m i d rises = omega arith
inc-set (x ∷ xs) zero zero d rises = rises
inc-set (x ∷ xs) zero (suc i) d rises = omega arith
inc-set (x ∷ xs) (suc m) zero d rises = omega arith
inc-set (x ∷ xs) (suc m) (suc i) d rises = inc-set xs m i d rises

-- a node that was down and is in a later incarnation: none up to the one that it had is up
pub up_in-later : (inc : ℕ) (xs : List Node) (m i : ℕ) (d : Node) → option_map_or (λ x. x.up) (slice_get xs m) false ≡ false → inc_at xs m < d.inc → inc ≤ inc_at xs i
    → option_map_or (is_up_in inc) (slice_get (set xs m d) i) false ≡ option_map_or (is_up_in inc) (slice_get xs i) false
up_in-later inc [] m i d down later past = refl
up_in-later inc (x ∷ xs) zero zero d down later past =
    let other : d.inc == inc ≡ false = ne_eqb d.inc inc (λ same. omega (arith, same, later, past)) in
    rw (other, down) (none d.up)
  where
    none : (b : Bool) → (b && false) ≡ false
    none true = refl
    none false = refl
up_in-later inc (x ∷ xs) zero (suc i) d down later past = refl
up_in-later inc (x ∷ xs) (suc m) zero d down later past = refl
up_in-later inc (x ∷ xs) (suc m) (suc i) d down later past = up_in-later inc xs m i d down later past

-- nodes that differ in their counts alone
pub node-uncounted : (xs : List NodeSeen) → map (λ x. x.node) xs ≡ map (λ x. x.node) (map uncounted xs)
node-uncounted [] = refl
node-uncounted (x ∷ xs) = ap (λ (ns : List Node). x.node ∷ ns) (node-uncounted xs)

pub losses-uncounted : (xs : List NodeSeen) (m : ℕ) → option_map_or (λ x. x.losses) (slice_get xs m) [] ≡ option_map_or (λ x. x.losses) (slice_get (map uncounted xs) m) []
losses-uncounted [] m = refl
losses-uncounted (x ∷ xs) zero = refl
losses-uncounted (x ∷ xs) (suc m) = losses-uncounted xs m

pub length-uncounted : (xs : List NodeSeen) → length xs ≡ length (map uncounted xs)
length-uncounted [] = refl
length-uncounted (x ∷ xs) = ap (λ (n : ℕ). suc n) (length-uncounted xs)

-- which nodes are up
pub flags : (xs : List NodeSeen) → map (λ x. x.node.up) xs ≡ map (λ (n : Node). n.up) (map (λ x. x.node) xs)
flags [] = refl
flags (x ∷ xs) = ap (λ (bs : List Bool). x.node.up ∷ bs) (flags xs)

-- what is written over the node that was read
pub changed_at-read : (change : NodeSeen → NodeSeen) (m : ℕ) (xs : List NodeSeen) (x : NodeSeen) → m < length xs → x ≡ get_or xs m x → set xs m (change x) ≡ changed_at change m xs
changed_at-read change m xs x h is = ap (λ (y : NodeSeen). set xs m (change y)) is ∙ sym (changed_at-set change m xs x h)

-- what follows on an `Ok`
pub on_ok_then : {V E : Type 0} (r : Result V E) (P Q : Type 0) → OnOk r P → (P → Q) → OnOk r Q
on_ok_then (Ok v) P Q is then = then is
on_ok_then (Err e) P Q is then = tt

-- room that was taken is there
pub spare-room : (hands m : ℕ) (xs : List NodeSeen) → m < length xs → hands ≤ spare_of (changed_at (with_spare hands) m xs) m
spare-room hands m xs within =
    let y : NodeSeen = get_or xs m new_node in
    let same : spare_of (changed_at (with_spare hands) m xs) m ≡ max y.spare hands = at-changed_same (λ x. x.spare) 0 (with_spare hands) m xs within y (slice_get-get_or xs m new_node within) in
    omega (arith, same)
