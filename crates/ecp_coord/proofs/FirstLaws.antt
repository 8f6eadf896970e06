-- The first loss of a helper's node, among those of each node.
use Rattle.std.proofs.Common.{◌≡◌, ℕ, suc, ◌+◌, ◌<◌, ◌≤◌, ◌==◌, Bool, true, false, cond, ◌||◌, List, [], ◌∷◌, ◌++◌, length, map, take, drop, get_or, min, slice_get, Option, Some, None, is_some, refl, sym, ◌∙◌, ap, subst, arith}
use Rattle.std.specs.Prelude.{All}
use Rattle.std.specs.List.{AllByRecursion, list_any, position_from}
use Rattle.std.proofs.lemmas.Bool.{false≢true}
use Rattle.std.proofs.lemmas.Bool.Decides.{nat_tests}
use Rattle.std.proofs.lemmas.List.{map-append, take_more}
use Rattle.std.proofs.lemmas.List.Elements.{recursion_from_All}
use Rattle.ecp_entry.specs.declared.act.Act.{Act}
use Rattle.ecp_entry.specs.declared.act.Act.TheVariants as act
use Rattle.ecp_entry.specs.declared.entry.Entry.{Entry}
use Rattle.ecp_entry.specs.Entries.{dropped_stripe, is_loss, is_number, loss_of}
use Rattle.ecp_plan.specs.declared.hop.Hop.{Hop}
use Rattle.ecp_plan.specs.declared.plan.Plan.{Plan}
use Rattle.ecp_shape.specs.declared.shape.Shape.{Shape}
use Rattle.ecp_catalog.specs.Catalogs.{CatalogState, earlier, earliest, first_loss}
use Rattle.ecp_catalog.specs.Outline.{IsOutline}
use Rattle.ecp_catalog.proofs.OutlineLaws.{first_losses}
use Rattle.ecp_coord.specs.Coords.{is_drop}
use Rattle.ecp_coord.specs.Plans.{drops_helper, first_void, loses_helper, voids_plan}
use Rattle.ecp_coord.proofs.AnyLaws.{any_drop_none, both_none, or_none}

-- ---- the earliest of positions

earlier_same : (n : ℕ) → min n n ≡ n
earlier_same n = omega arith

earlier_left : (n m : ℕ) → n ≤ m → min n m ≡ n
earlier_left n m le = omega arith

earlier_right : (n m : ℕ) → m ≤ n → min n m ≡ m
earlier_right n m le = omega arith

earlier_none : (a : Option ℕ) → earlier a None ≡ a
earlier_none None = refl
earlier_none (Some x) = refl

earlier_assoc : (a b c : Option ℕ) → earlier (earlier a b) c ≡ earlier a (earlier b c)
earlier_assoc None b c = refl
earlier_assoc (Some x) None c = refl
earlier_assoc (Some x) (Some y) None = refl
earlier_assoc (Some x) (Some y) (Some z) =
    let same : min (min x y) z ≡ min x (min y z) = omega arith in
    ap (λ (n : ℕ). Some n) same

-- one more behind the others
pub earliest_push : (os : List (Option ℕ)) (o : Option ℕ) → earliest (os ++ o ∷ []) ≡ earlier (earliest os) o
earliest_push [] o = earlier_none o
earliest_push (a ∷ os) o = ap (earlier a) (earliest_push os o) ∙ sym (earlier_assoc a (earliest os) o)

-- the earliest of what belongs to the elements of a list, as one element more is looked at
pub earliest_more : {X : Type 0} (f : X → Option ℕ) (xs seen : List X) (k : ℕ) (x : X) (was found now : Option ℕ) → seen ≡ xs → k < length seen → x ≡ get_or seen k x → was ≡ earliest (map f (take k xs))
    → found ≡ f x → now ≡ earlier was found → now ≡ earliest (map f (take (k + 1) xs))
earliest_more {X} f xs seen k x was found now same below is before here next =
    let low : k < length xs = subst (λ (ys : List X). k < length ys) same below in
    let item : x ≡ get_or xs k x = is ∙ ap (λ (ys : List X). get_or ys k x) same in
    let more : take (k + 1) xs ≡ take k xs ++ x ∷ [] = take_more xs k x low ∙ ap (λ (y : X). take k xs ++ y ∷ []) (sym item) in
    let whole : earliest (map f (take (k + 1) xs)) ≡ earlier (earliest (map f (take k xs))) (f x) =
    ap (λ (ys : List X). earliest (map f ys)) more ∙ ap (λ (os : List (Option ℕ)). earliest os) (map-append f (take k xs) (x ∷ [])) ∙ earliest_push (map f (take k xs)) (f x) in
    next ∙ ap (λ (o : Option ℕ). earlier o found) before ∙ ap (earlier (earliest (map f (take k xs)))) here ∙ sym whole

module _ {X : Type 0} where
  position_late : (f : X → Bool) (n m : ℕ) (xs : List X) → position_from f n xs ≡ Some m → n ≤ m
  position_late f n m [] is = absurd (cc)
  position_late f n m (x ∷ xs) is = one (f x) is (position_late f (n + 1) m xs) where
    one : (b : Bool) → cond b (Some n) (position_from f (n + 1) xs) ≡ Some m → (position_from f (n + 1) xs ≡ Some m → n + 1 ≤ m) → n ≤ m
    one true h more = let same : n ≡ m = cc in omega (arith, same)
    one false h more = let le = more h in omega (arith, le)

  position_never : (n : ℕ) (xs : List X) → position_from (λ (x : X). false) n xs ≡ None
  position_never n [] = refl
  position_never n (x ∷ xs) = position_never (n + 1) xs

  some_first : (g : X → Bool) (n : ℕ) (xs : List X) → earlier (Some n) (position_from g (n + 1) xs) ≡ Some n
  some_first g n xs = one (position_from g (n + 1) xs) refl where
    one : (o : Option ℕ) → position_from g (n + 1) xs ≡ o → earlier (Some n) o ≡ Some n
    one None is = refl
    one (Some m) is = ap (λ (k : ℕ). Some k) (let le = position_late g (n + 1) m xs is in earlier_left n m (omega (arith, le)))

  some_last : (f : X → Bool) (n : ℕ) (xs : List X) → earlier (position_from f (n + 1) xs) (Some n) ≡ Some n
  some_last f n xs = one (position_from f (n + 1) xs) refl where
    one : (o : Option ℕ) → position_from f (n + 1) xs ≡ o → earlier o (Some n) ≡ Some n
    one None is = refl
    one (Some m) is = ap (λ (k : ℕ). Some k) (let le = position_late f (n + 1) m xs is in earlier_right m n (omega (arith, le)))

  -- the first that passes one of two tests
  position_or : (f g : X → Bool) (n : ℕ) (xs : List X) → position_from (λ x. f x || g x) n xs ≡ earlier (position_from f n xs) (position_from g n xs)
  position_or f g n [] = refl
  position_or f g n (x ∷ xs) = one (f x) (g x) (position_or f g (n + 1) xs) where
    one : (a b : Bool) → position_from (λ y. f y || g y) (n + 1) xs ≡ earlier (position_from f (n + 1) xs) (position_from g (n + 1) xs)
        → cond (a || b) (Some n) (position_from (λ y. f y || g y) (n + 1) xs) ≡ earlier (cond a (Some n) (position_from f (n + 1) xs)) (cond b (Some n) (position_from g (n + 1) xs))
    one true true more = ap (λ (k : ℕ). Some k) (sym (earlier_same n))
    one true false more = sym (some_first g n xs)
    one false true more = sym (some_last f n xs)
    one false false more = more

  -- tests that agree find the same
  position_agree : (f g : X → Bool) (n : ℕ) (xs : List X) → AllByRecursion (λ x. f x ≡ g x) xs → position_from f n xs ≡ position_from g n xs
  position_agree f g n [] same = refl
  position_agree f g n (x ∷ xs) same =
      ap (λ (b : Bool). cond b (Some n) (position_from f (n + 1) xs)) same.0 ∙ ap (λ (o : Option ℕ). cond (g x) (Some n) o) (position_agree f g (n + 1) xs same.1)

  -- where the first that passes stands
  pub record IsFirstAt (f : X → Bool) (n : ℕ) (xs : List X) (at : ℕ) : Type 0 where
    pub place : ℕ
    pub is : at ≡ n + place
    pub item : X
    pub there : slice_get xs place ≡ Some item
    pub passes : f item ≡ true
    pub none : list_any f (take place xs) ≡ false

  pub first_at : (f : X → Bool) (n at : ℕ) (xs : List X) → position_from f n xs ≡ Some at → IsFirstAt f n xs at
  first_at f n at [] is = absurd (cc)
  first_at f n at (x ∷ xs) is = one (f x) refl is (first_at f (n + 1) at xs) where
    one : (b : Bool) → f x ≡ b → cond b (Some n) (position_from f (n + 1) xs) ≡ Some at → (position_from f (n + 1) xs ≡ Some at → IsFirstAt f (n + 1) xs at) → IsFirstAt f n (x ∷ xs) at
    one true passes h more = record { place = 0; is = (let same : n ≡ at = cc in omega (arith, same)); item = x; there = refl; passes = passes; none = refl }
    one false fails h more =
        let rest : IsFirstAt f (n + 1) xs at = more h in
        record {
          place = suc rest.place;
          is = omega (arith, rest.is);
          item = rest.item;
          there = rest.there;
          passes = rest.passes;
          none = both_none (f x) (list_any f (take rest.place xs)) fails rest.none;
        }

-- the first that passes one of some tests
position_any : {Y : Type 0} (test : Y → Entry → Bool) (n : ℕ) (xs : List Entry) (ys : List Y)
    → position_from (λ e. list_any (λ y. test y e) ys) n xs ≡ earliest (map (λ y. position_from (test y) n xs) ys)
position_any test n xs [] = position_never n xs
position_any test n xs (y ∷ ys) =
    position_or (test y) (λ e. list_any (λ z. test z e) ys) n xs ∙ ap (earlier (position_from (test y) n xs)) (position_any test n xs ys)

-- ---- the helpers of a plan

flip_eq : (a b : ℕ) → (a == b) ≡ (b == a)
flip_eq a b = grind (arith, nat_tests)

module _ {N : Type 0} (plan : Plan N) where
  none_dropped : (a : Act) → is_some (dropped_stripe a) ≡ false → drops_helper plan a ≡ false
  none_dropped (act.Drop stripe row) off = absurd (false≢true (sym off))
  none_dropped _ off = refl

  -- of an entry that gives no block up
  pub voids_by : (e : Entry) → is_drop e ≡ false → voids_plan plan e ≡ list_any (λ (h : Hop N). is_loss h.node e) plan.hops.items
  voids_by e off =
      ap (λ (b : Bool). loses_helper plan (loss_of e) || b) (none_dropped e.line.act off) ∙ or_false (loses_helper plan (loss_of e)) ∙ by_loss (loss_of e)
    where
      or_false : (b : Bool) → (b || false) ≡ b
      or_false true = refl
      or_false false = refl

      never : (hops : List (Hop N)) → false ≡ list_any (λ (h : Hop N). is_number None h.node) hops
      never [] = refl
      never (h ∷ hops) = never hops

      each : (m : ℕ) (hops : List (Hop N)) → list_any (λ (h : Hop N). h.node == m) hops ≡ list_any (λ (h : Hop N). is_number (Some m) h.node) hops
      each m [] = refl
      each m (h ∷ hops) =
          ap (λ (b : Bool). b || list_any (λ (g : Hop N). g.node == m) hops) (flip_eq h.node m) ∙ ap (λ (b : Bool). (m == h.node) || b) (each m hops)

      by_loss : (o : Option ℕ) → loses_helper plan o ≡ list_any (λ (h : Hop N). is_number o h.node) plan.hops.items
      by_loss None = never plan.hops.items
      by_loss (Some m) = each m plan.hops.items

  all_voids_by : (xs : List Entry) → list_any is_drop xs ≡ false → AllByRecursion (λ e. voids_plan plan e ≡ list_any (λ (h : Hop N). is_loss h.node e) plan.hops.items) xs
  all_voids_by [] none = tt
  all_voids_by (e ∷ xs) none = let h = or_none (is_drop e) (list_any is_drop xs) none in (voids_by e h.0, all_voids_by xs h.1)

  -- the first entry that makes the attempt come to nothing is the first loss of a helper's node
  pub first_void_is : (shape : Shape) (told : Bool) (c : CatalogState) (history : List Entry) → IsOutline shape told c history → list_any is_drop history ≡ false
      → All (λ (h : Hop N). h.node < length c.nodes) plan.hops.items
      → earliest (map (λ (h : Hop N). first_loss c.nodes plan.point h.node) plan.hops.items) ≡ first_void plan history
  first_void_is shape told c history is none there =
      let rest : List Entry = drop plan.point history in
      ap (λ (os : List (Option ℕ)). earliest os) (each plan.hops.items (recursion_from_All (λ (h : Hop N). h.node < length c.nodes) plan.hops.items there))
      ∙ sym (position_any (λ (h : Hop N) (e : Entry). is_loss h.node e) plan.point rest plan.hops.items)
      ∙ sym (position_agree (voids_plan plan) (λ e. list_any (λ (h : Hop N). is_loss h.node e) plan.hops.items) plan.point rest (all_voids_by rest (any_drop_none is_drop plan.point history none)))
    where
      each : (hops : List (Hop N)) → AllByRecursion (λ (h : Hop N). h.node < length c.nodes) hops
          → map (λ (h : Hop N). first_loss c.nodes plan.point h.node) hops ≡ map (λ (h : Hop N). position_from (is_loss h.node) plan.point (drop plan.point history)) hops
      each [] all = refl
      each (h ∷ hops) all =
          ap (λ (o : Option ℕ). o ∷ map (λ (g : Hop N). first_loss c.nodes plan.point g.node) hops) (first_losses shape told c history h.node plan.point is all.0)
          ∙ ap (λ (os : List (Option ℕ)). position_from (is_loss h.node) plan.point (drop plan.point history) ∷ os) (each hops all.1)
