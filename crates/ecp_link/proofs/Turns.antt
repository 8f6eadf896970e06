-- Each kind of step leaves a ring in turn.
use Rattle.std.proofs.Common.{◌≡◌, ◌≢◌, ⊎_elim, ℕ, zero, suc, ◌+◌, ◌*◌, ◌/◌, ◌%◌, ◌<◌, ◌≤◌, Bool, true, false, true≢false, List, [], ◌∷◌, ◌++◌, map, length, set, replicate, refl, sym, ap, ◌∙◌, subst, arith, append_assoc, length-append, length-set, lt_of_not-le, div-add-mod', add-zero}
use Rattle.std.specs.Prelude.{Option, Some, None, slice_get}
use Rattle.std.proofs.Math.Nat.{mod-lt, mod-eq_of_lt, add-mul-mod_self_right}
use Rattle.std.proofs.lemmas.List.{get_or-set_same, get_or-set_other, length-replicate}
use Rattle.std.proofs.lemmas.Option.{slice_get_past, slice_get_within}
use mathlib.Core.Option.{some, none, some-injective, some-ne-none}
use mathlib.Core.List.{IsPrefix}
use mathlib.Core.Logic.{dite}
use native.Mathlib.Decide.{ℕ_discrete, dec_le}
use lib.ListN.{get_elem?}
use Rattle.atomic_table.proofs.Lists.{at_set, set_here, set_else, one_turn}
use Rattle.ecp_link.specs.declared.ring.view.View.{View}
use Rattle.ecp_link.specs.Rings.{fresh, sender_of, filler_of, taker_of, emptier_of, spent, bit, Fits, Stands}
use Rattle.ecp_link.proofs.Views.{Each, each_set, each_more}
use Rattle.ecp_link.proofs.Order.{get_last}

-- two numbers less than n apart, and not the same, have two remainders
pub places_apart : (a b n t : ℕ) → t ≤ a → a < t + n → t ≤ b → b < t + n → a ≢ b → a % n ≢ b % n
places_apart a b n t la ua lb ub ne e = go (dec_le a b)
  where
    go : Dec (a ≤ b) → ⊥
    go (yes le) = ne (one_turn a b n le (omega arith) e)
    go (no gt) = let lt : b < a = lt_of_not-le gt in ne (sym (one_turn b a n (omega arith) (omega arith) (sym e)))

turn_round : (k n : ℕ) → (k + n) % n ≡ k % n
turn_round k n = let same : k + n ≡ k + 1 * n = omega arith in ap (λ m. m % n) same ∙ add-mul-mod_self_right k 1 n

pub place_next : (place n count : ℕ) → place + 1 < n → place ≡ count % n → place + 1 ≡ (count + 1) % n
place_next place n count lt is =
    let parts : count / n * n + count % n ≡ count = div-add-mod' count n in
    let same : count + 1 ≡ place + 1 + count / n * n = omega (arith, parts) in
    sym (ap (λ m. m % n) same ∙ (add-mul-mod_self_right (place + 1) (count / n) n ∙ mod-eq_of_lt lt))

pub place_first : (place n count : ℕ) → place < n → n ≤ place + 1 → place ≡ count % n → 0 ≡ (count + 1) % n
place_first place n count lt le is =
    let parts : count / n * n + count % n ≡ count = div-add-mod' count n in
    let last : place + 1 ≡ n = omega arith in
    let same : count + 1 ≡ (place + 1) + count / n * n = omega (arith, parts) in
    let some : 0 < n = omega arith in
    let plain : n ≡ 0 + n = omega arith in
    sym (ap (λ m. m % n) same ∙ (add-mul-mod_self_right (place + 1) (count / n) n ∙ (ap (λ m. m % n) last ∙ (ap (λ m. m % n) plain ∙ (turn_round 0 n ∙ mod-eq_of_lt some)))))

-- a place that is in turn is within the ring
place_within : (k n t : ℕ) → t ≤ k → k < t + n → k % n < n
place_within k n t le lt = mod-lt k (omega arith)

module _ {A : Type 0} where
  pub prefix_longer : (xs ys zs : List A) → IsPrefix xs ys → IsPrefix ys zs → IsPrefix xs zs
  prefix_longer xs ys zs p q = (p.0 ++ q.0, sym (append_assoc xs p.0 q.0) ∙ (ap (λ w. w ++ q.0) p.1 ∙ q.1))

  pub prefix_self : (xs : List A) → IsPrefix xs xs
  prefix_self [] = ([], refl)
  prefix_self (x ∷ xs) = ((prefix_self xs).0, ap (λ ys. x ∷ ys) (prefix_self xs).1)

  -- a prefix with the next item is a prefix
  pub prefix_next : (xs ys : List A) (x : A) → IsPrefix xs ys → slice_get ys (length xs) ≡ Some x → IsPrefix (xs ++ x ∷ []) ys
  prefix_next [] [] x p e = absurd (cc)
  prefix_next [] (y ∷ ys) x p e = (ys, let same : y ≡ x = cc in ap (λ z. z ∷ ys) (sym same))
  prefix_next (z ∷ xs) [] x p e = absurd (cc (p.1))
  prefix_next (z ∷ xs) (y ∷ ys) x p e =
      let rest = prefix_next xs ys x (p.0, cc (p.1)) e in
      let heads : z ≡ y = cc (p.1) in (rest.0, cc (heads, rest.1))

  -- a prefix as long as the whole is the whole
  pub prefix_whole : (xs ys : List A) → IsPrefix xs ys → length ys ≤ length xs → xs ≡ ys
  prefix_whole [] [] p le = refl
  prefix_whole [] (y ∷ ys) p le = absurd (omega arith)
  prefix_whole (x ∷ xs) [] p le = absurd (cc (p.1))
  prefix_whole (x ∷ xs) (y ∷ ys) p le =
      let rest = prefix_whole xs ys (p.0, cc (p.1)) (omega arith) in cc (p.1, rest)

  pub there : (xs : List A) (k : ℕ) → k < length xs → (x : A) × (slice_get xs k ≡ Some x)
  there [] k lt = absurd (omega arith)
  there (x ∷ xs) zero lt = (x, refl)
  there (x ∷ xs) (suc k) lt = there xs k (omega arith)

  pub vacant_at : (n k : ℕ) (x : A) → k < n → get_elem? (map some (replicate n x)) k ≡ some (some x)
  vacant_at zero k x lt = absurd (omega arith)
  vacant_at (suc n) zero x lt = refl
  vacant_at (suc n) (suc k) x lt = vacant_at n k x (omega arith)

  pub length-map_some : (xs : List A) → length (map some xs) ≡ length xs
  length-map_some [] = refl
  length-map_some (x ∷ xs) = ap suc (length-map_some xs)

-- the homes of a ring
abbrev Homes : Type 0 → Type 0
Homes T = List (mathlib.Core.Option.Option (Option T))

module _ {T : Type 0} where
  -- what another seat than the sender's knows is still so, where the sender goes on
  sender_goes : (sent after : List T) (taken seat taker : ℕ) (filling filling' emptying : Bool) → IsPrefix sent after
      → (j : ℕ) (u : View T) → j ≢ seat → Fits sent taken seat taker filling emptying j u → Fits after taken seat taker filling' emptying j u
  sender_goes sent after taken seat taker filling filling' emptying longer j u apart h = record {
    own = λ t. absurd (apart (sym (h.own t).0));
    reads = λ t. let r = h.reads t in (r.0, prefix_longer u.taken sent after r.1 longer, r.2, r.3);
  }

  -- the same, where the taker goes on
  taker_goes : (sent : List T) (taken taken' sender seat : ℕ) (filling emptying emptying' : Bool)
      → (j : ℕ) (u : View T) → j ≢ seat → Fits sent taken sender seat filling emptying j u → Fits sent taken' sender seat filling emptying' j u
  taker_goes sent taken taken' sender seat filling emptying emptying' j u apart h = record {
    own = h.own;
    reads = λ t. absurd (apart (sym (h.reads t).0));
  }

  -- a seat has another view that is so
  pub reseats : (sent : List T) (taken sender taker : ℕ) (filling emptying : Bool) (words : List ℕ) (homes : Homes T) (views : List (View T)) (seat : ℕ) (w : View T)
      → Stands sent taken sender taker filling emptying words homes views → Fits sent taken sender taker filling emptying seat w
      → Stands sent taken sender taker filling emptying words homes (set views seat w)
  reseats sent taken sender taker filling emptying words homes views seat w r mine = record {
    count = r.count;
    pushed_word = r.pushed_word;
    taken_word = r.taken_word;
    behind = r.behind;
    room = r.room;
    places = r.places;
    fits = each_set (Fits sent taken sender taker filling emptying) views seat w mine (λ j u _ e. r.fits j u e);
  }

  -- the sender takes the next free place
  pub takes_free : (sent : List T) (looks : List ℕ) (taken seat taker : ℕ) (emptying : Bool) (words : List ℕ) (homes : Homes T) (views : List (View T))
      → Stands sent taken seat taker false emptying words homes views → length sent < taken + length homes
      → (get_elem? homes (length sent % length homes) ≡ some (some None))
      × Stands sent taken seat taker true emptying words (set homes (length sent % length homes) none) (set views seat (filler_of sent looks))
  takes_free sent looks taken seat taker emptying words homes views r free =
      let q : ℕ = length sent % length homes in
      let same : length (set homes q none) ≡ length homes = length-set homes q none in
      let below : taken ≤ length sent = let b = r.behind in omega arith in (
        r.places (length sent) below free (λ t. absurd (true≢false (sym t)))
            (λ t. let b : taken + bit true ≤ length sent = subst (λ (f : Bool). taken + bit f ≤ length sent) t r.behind in λ (e : length sent ≡ taken). absurd (omega arith))
            ∙ ap (λ y. some (some y)) (slice_get_past sent (length sent) (omega arith)),
        record {
          count = r.count;
          pushed_word = r.pushed_word;
          taken_word = r.taken_word;
          behind = r.behind;
          room = omega (arith, same);
          places = λ p le lt filled emptied.
              let lt' : p < taken + length homes = omega (arith, same) in
              subst (λ (n : ℕ). get_elem? (set homes q none) (p % n) ≡ some (some (slice_get sent p))) (sym same)
              (set_else homes q (p % length homes) none (places_apart p (length sent) (length homes) taken le lt' below free (filled refl))
              ∙ r.places p le lt' (λ t. absurd (true≢false (sym t))) emptied);
          fits = each_set (Fits sent taken seat taker true emptying) views seat (filler_of sent looks)
              record { own = λ t. (refl, refl, refl); reads = λ t. absurd (true≢false (sym t)) }
              (λ j u apart e. sender_goes sent sent taken seat taker false true emptying (prefix_self sent) j u apart (r.fits j u e));
        },
      )

  -- the sender gives the place back with an item
  pub fills : (sent : List T) (x : T) (looks : List ℕ) (taken seat taker : ℕ) (emptying : Bool) (words : List ℕ) (homes : Homes T) (views : List (View T))
      → Stands sent taken seat taker true emptying words homes views
      → Stands (sent ++ x ∷ []) taken seat taker false emptying (set words 16 (length sent + 1)) (set homes (length sent % length homes) (some (Some x))) (set views seat (sender_of (sent ++ x ∷ []) looks))
  fills sent x looks taken seat taker emptying words homes views r =
      let more : List T = sent ++ x ∷ [] in
      let longer : length more ≡ length sent + 1 = length-append sent (x ∷ []) in
      let q : ℕ = length sent % length homes in
      let same : length (set homes q (some (Some x))) ≡ length homes = length-set homes q (some (Some x)) in
      let free : length sent < taken + length homes = let b = r.room in omega arith in
      let below : taken ≤ length sent = let b = r.behind in omega arith in
      let place : (p : ℕ) → taken ≤ p → p < taken + length homes → (emptying ≡ true → p ≢ taken) → get_elem? (set homes q (some (Some x))) (p % length homes) ≡ some (some (slice_get more p)) =
      λ p le lt emptied.
      dite (ℕ_discrete p (length sent))
      (λ (e : p ≡ length sent). subst (λ (k : ℕ). get_elem? (set homes q (some (Some x))) (k % length homes) ≡ some (some (slice_get more k))) (sym e)
      (set_here homes q (some (Some x)) (place_within (length sent) (length homes) taken below free) ∙ ap (λ y. some (some y)) (sym (get_last sent x))))
      (λ (ne : p ≢ length sent). set_else homes q (p % length homes) (some (Some x)) (places_apart p (length sent) (length homes) taken le lt below free ne)
      ∙ (r.places p le lt (λ _. ne) emptied ∙ ap (λ y. some (some y)) (sym (other_place sent x p ne)))) in record {
        count = length-set words 16 (length sent + 1) ∙ r.count;
        pushed_word = get_or-set_same words 16 (length sent + 1) 0 (omega (arith, r.count)) ∙ sym longer;
        taken_word = get_or-set_other words 16 32 (length sent + 1) 0 (omega arith) ∙ r.taken_word;
        behind = let b = r.behind in omega (arith, longer);
        room = let b = r.room in omega (arith, longer, same);
        places = λ p le lt filled emptied. subst (λ (n : ℕ). get_elem? (set homes q (some (Some x))) (p % n) ≡ some (some (slice_get more p))) (sym same) (place p le (omega (arith, same)) emptied);
        fits = each_set (Fits more taken seat taker false emptying) views seat (sender_of more looks)
            record { own = λ t. (refl, refl, refl); reads = λ t. absurd (true≢false (sym t)) }
            (λ j u apart e. sender_goes sent more taken seat taker true false emptying (x ∷ [], refl) j u apart (r.fits j u e));
      }
    where
      other_place : (xs : List T) (y : T) (p : ℕ) → p ≢ length xs → slice_get (xs ++ y ∷ []) p ≡ slice_get xs p
      other_place [] y zero ne = absurd (ne refl)
      other_place [] y (suc p) ne = refl
      other_place (z ∷ xs) y zero ne = refl
      other_place (z ∷ xs) y (suc p) ne = other_place xs y p (λ e. ne (ap suc e))

  -- the taker takes the place of the oldest item
  pub takes_oldest : (sent : List T) (x : T) (sends : Bool) (pushed items : List T) (looks : List ℕ) (taken sender seat : ℕ) (filling : Bool) (words : List ℕ) (homes : Homes T) (views : List (View T))
      → Stands sent taken sender seat filling false words homes views → slice_get sent taken ≡ Some x
      → (sends ≡ true → (sender ≡ seat) × (pushed ≡ sent) × (filling ≡ false)) → IsPrefix items sent → length items ≡ taken
      → (get_elem? homes (taken % length homes) ≡ some (some (Some x)))
      × Stands sent taken sender seat filling true words (set homes (taken % length homes) none) (set views seat (emptier_of sends pushed (items ++ x ∷ []) looks))
  takes_oldest sent x sends pushed items looks taken sender seat filling words homes views r is own begins counted =
      let q : ℕ = taken % length homes in
      let lt : taken < length sent = slice_get_within sent taken x is in
      let within : taken < taken + length homes = let b = r.room in omega arith in
      let same : length (set homes q none) ≡ length homes = length-set homes q none in (
        r.places taken (omega arith) within (λ t e. omega arith) (λ t. absurd (true≢false (sym t))) ∙ ap (λ y. some (some y)) is,
        record {
          count = r.count;
          pushed_word = r.pushed_word;
          taken_word = r.taken_word;
          behind = omega arith;
          room = let b = r.room in omega (arith, same);
          places = λ p le lt' filled emptied.
              let ub : p < taken + length homes = omega (arith, same) in
              subst (λ (n : ℕ). get_elem? (set homes q none) (p % n) ≡ some (some (slice_get sent p))) (sym same)
              (set_else homes q (p % length homes) none (places_apart p taken (length homes) taken le ub (omega arith) within (emptied refl))
              ∙ r.places p le ub filled (λ t. absurd (true≢false (sym t))));
          fits = each_set (Fits sent taken sender seat filling true) views seat (emptier_of sends pushed (items ++ x ∷ []) looks)
              record {
                own = own;
                reads = λ t. (
                  refl,
                  prefix_next items sent x begins (subst (λ (n : ℕ). slice_get sent n ≡ Some x) (sym counted) is),
                  length-append items (x ∷ []) ∙ ap (λ n. n + 1) counted,
                  refl,
                );
              }
              (λ j u apart e. taker_goes sent taken taken sender seat filling false true j u apart (r.fits j u e));
        },
      )

  -- the taker gives the empty place back
  pub empties : (sent : List T) (sends : Bool) (pushed items : List T) (looks : List ℕ) (taken sender seat : ℕ) (filling : Bool) (words : List ℕ) (homes : Homes T) (views : List (View T))
      → Stands sent taken sender seat filling true words homes views
      → (sends ≡ true → (sender ≡ seat) × (pushed ≡ sent) × (filling ≡ false)) → IsPrefix items sent → length items ≡ taken + 1
      → Stands sent (taken + 1) sender seat filling false (set words 32 (taken + 1)) (set homes (taken % length homes) (some None)) (set views seat (taker_of sends pushed items looks))
  empties sent sends pushed items looks taken sender seat filling words homes views r own begins counted =
      let q : ℕ = taken % length homes in
      let lt : taken < length sent = let b = r.behind in omega arith in
      let within : taken < taken + length homes = let b = r.room in omega arith in
      let same : length (set homes q (some None)) ≡ length homes = length-set homes q (some None) in
      let place : (p : ℕ) → taken + 1 ≤ p → p < taken + 1 + length homes → (filling ≡ true → p ≢ length sent) → get_elem? (set homes q (some None)) (p % length homes) ≡ some (some (slice_get sent p)) =
      λ p le ub filled.
      dite (ℕ_discrete p (taken + length homes))
      (λ (e : p ≡ taken + length homes). subst (λ (k : ℕ). get_elem? (set homes q (some None)) k ≡ some (some (slice_get sent p))) (sym (ap (λ k. k % length homes) e ∙ turn_round taken (length homes)))
      (set_here homes q (some None) (place_within taken (length homes) taken (omega arith) within) ∙ ap (λ y. some (some y)) (sym (slice_get_past sent p (let b = r.room in omega arith)))))
      (λ (ne : p ≢ taken + length homes).
      let ub' : p < taken + length homes = omega arith in
      set_else homes q (p % length homes) (some None) (places_apart p taken (length homes) taken (omega arith) ub' (omega arith) within (λ e. omega arith))
      ∙ r.places p (omega arith) ub' filled (λ t e. omega arith)) in record {
        count = length-set words 32 (taken + 1) ∙ r.count;
        pushed_word = get_or-set_other words 32 16 (taken + 1) 0 (omega arith) ∙ r.pushed_word;
        taken_word = get_or-set_same words 32 (taken + 1) 0 (omega (arith, r.count));
        behind = omega arith;
        room = let b = r.room in omega (arith, same);
        places = λ p le ub filled emptied. subst (λ (n : ℕ). get_elem? (set homes q (some None)) (p % n) ≡ some (some (slice_get sent p))) (sym same) (place p le (omega (arith, same)) filled);
        fits = each_set (Fits sent (taken + 1) sender seat filling false) views seat (taker_of sends pushed items looks)
            record { own = own; reads = λ t. (refl, begins, counted ∙ sym (add-zero (taken + 1)), refl) }
            (λ j u apart e. taker_goes sent taken (taken + 1) sender seat filling true false j u apart (r.fits j u e));
      }

  -- the first seat is split in two
  pub splits : (taken sender taker : ℕ) (filling emptying : Bool) (words : List ℕ) (homes : Homes T) (views : List (View T)) (seat : ℕ)
      → Stands [] taken sender taker filling emptying words homes views → get_elem? views seat ≡ some fresh
      → Stands [] taken (length (set views seat (taker_of false [] [] []))) taker filling emptying words homes (set views seat (taker_of false [] [] []) ++ sender_of [] [] ∷ [])
  splits taken sender taker filling emptying words homes views seat r at =
      let mine = r.fits seat fresh at in
      let own = mine.own refl in
      let reads = mine.reads refl in
      let left : View T = taker_of false [] [] [] in
      let vs : List (View T) = set views seat left in record {
        count = r.count;
        pushed_word = r.pushed_word;
        taken_word = r.taken_word;
        behind = r.behind;
        room = r.room;
        places = r.places;
        fits = each_more (Fits [] taken (length vs) taker filling emptying) vs (sender_of [] [])
            record { own = λ t. (refl, refl, own.2); reads = λ t. absurd (true≢false (sym t)) }
            (each_set (Fits [] taken (length vs) taker filling emptying) views seat left
            record { own = λ t. absurd (true≢false (sym t)); reads = λ t. reads }
            (λ j u apart e. record { own = λ t. absurd (apart (sym ((r.fits j u e).own t).0 ∙ own.0)); reads = (r.fits j u e).reads }));
      }

  -- the taker takes the sender in
  pub joins : (sent : List T) (taken sender taker : ℕ) (filling emptying : Bool) (words : List ℕ) (homes : Homes T) (views : List (View T)) (seat other : ℕ)
      (sends : Bool) (pushed items : List T) (looks looks'' : List ℕ) (xs : List T)
      → Stands sent taken sender taker filling emptying words homes views → get_elem? views seat ≡ some (taker_of sends pushed items looks) → ¬ (other ≡ seat)
      → get_elem? (set views seat (taker_of true xs items looks)) other ≡ some (sender_of xs looks'')
      → Stands sent taken seat taker filling emptying words homes (set (set views seat (taker_of true xs items looks)) other spent)
  joins sent taken sender taker filling emptying words homes views seat other sends pushed items looks looks'' xs r at two at' =
      let both : View T = taker_of true xs items looks in
      let vs : List (View T) = set views seat both in
      let reads = (r.fits seat (taker_of sends pushed items looks) at).reads refl in
      let was : get_elem? views other ≡ some (sender_of xs looks'') = ⊎_elim (λ x. absurd (two x.0)) (λ x. x.1) (at_set views seat other both (sender_of xs looks'') at') in
      let theirs = (r.fits other (sender_of xs looks'') was).own refl in
      let now : Each (λ j u. j ≢ other → Fits sent taken seat taker filling emptying j u) vs = each_set (λ j u. j ≢ other → Fits sent taken seat taker filling emptying j u) views seat both
      (λ _. record { own = λ t. (refl, theirs.1, theirs.2); reads = λ t. reads })
      (λ j u apart e ne. record { own = λ t. absurd (ne (sym ((r.fits j u e).own t).0 ∙ theirs.0)); reads = (r.fits j u e).reads }) in record {
        count = r.count;
        pushed_word = r.pushed_word;
        taken_word = r.taken_word;
        behind = r.behind;
        room = r.room;
        places = r.places;
        fits = each_set (Fits sent taken seat taker filling emptying) vs other spent
            record { own = λ t. absurd (true≢false (sym t)); reads = λ t. absurd (true≢false (sym t)) }
            (λ j u ne e. now j u e ne);
      }

  -- a ring at its making
  pub rests : (n : ℕ) → Stands [] 0 0 0 false false (replicate 48 0) (map some (replicate n None)) (fresh {T = T} ∷ [])
  rests n =
      let nothing : Option T = None in
      let same : length (map some (replicate n nothing)) ≡ n = length-map_some (replicate n nothing) ∙ length-replicate n nothing in record {
        count = refl;
        pushed_word = refl;
        taken_word = refl;
        behind = omega arith;
        room = omega arith;
        places = λ p le lt filled emptied. subst (λ (m : ℕ). get_elem? (map some (replicate n nothing)) (p % m) ≡ some (some (slice_get [] p))) (sym same)
            (vacant_at n (p % n) nothing (mod-lt p (omega (arith, same))) ∙ ap (λ y. some (some y)) (sym (slice_get_past [] p (omega arith))));
        fits = each_more (Fits [] 0 0 0 false false) [] fresh record { own = λ t. (refl, refl, refl); reads = λ t. (refl, ([], refl), refl, refl) } (λ j u e. absurd (some-ne-none u (sym e)));
      }
