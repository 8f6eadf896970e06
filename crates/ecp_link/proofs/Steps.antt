-- Each kind of step on a ring is allowed, and tells what it says.
use Rattle.std.proofs.Common.{◌≡◌, ℕ, ◌+◌, ◌%◌, ◌<◌, ◌≤◌, Bool, true, false, true≢false, List, [], ◌∷◌, ◌++◌, map, length, set, replicate, refl, sym, ap, ◌∙◌, subst, arith, lt_of_not-le}
use Rattle.std.specs.Prelude.{Option, Some, None, slice_get, slice_index}
use Rattle.std.proofs.lemmas.List.{set-get_or}
use mathlib.Core.Option.{some, none}
use mathlib.Core.List.{IsPrefix}
use native.Mathlib.Decide.{dec_le}
use Rattle.atomic_table.specs.Table.{State, Me, Act, keeps, takes, gives, Valid, stepped, carried_after, Allows, Splits, Joins}
use Rattle.ecp_link.specs.declared.ring.view.View.{View}
use Rattle.ecp_link.specs.Rings.{fresh, sender_of, filler_of, taker_of, emptier_of, spent, Fits, Stands, IsRing, FindsRoom, FindsItem, FindsNoItem, filled, emptied, sender_part, taker_part, ended, Knows}
use Rattle.ecp_link.proofs.Turns.{reseats, takes_free, fills, takes_oldest, empties, splits, joins, rests, there, prefix_whole, prefix_next}

module _ {T : Type 0} where
  abbrev Rule : State (Option T) (View T) → Type 0
  Rule s = IsRing s.words s.homes s.views

  -- a load leaves the words
  loaded : (sent : List T) (taken sender taker : ℕ) (filling emptying : Bool) (words : List ℕ) (homes : List (mathlib.Core.Option.Option (Option T))) (views : List (View T)) (word : ℕ)
      → Stands sent taken sender taker filling emptying words homes views → IsRing (set words word (slice_index words word)) homes views
  loaded sent taken sender taker filling emptying words homes views word r =
      subst (λ (ws : List ℕ). IsRing ws homes views) (sym (set-get_or words word 0))
      record { sent = sent; taken = taken; sender = sender; taker = taker; filling = filling; emptying = emptying; stands = r }

  looks_for_room : (slots seat : ℕ) (pushed : List T) (looks : List ℕ) → Allows Rule slots seat (sender_of pushed looks, []) 32 (λ n. n) (FindsRoom slots (sender_of pushed looks, []))
  looks_for_room slots seat pushed looks s ring homes at small =
      let mine = (ring.stands.fits seat (sender_of pushed looks) at).own refl in
      let r : Stands pushed ring.taken seat ring.taker false ring.emptying s.words s.homes s.views =
      subst (λ (y : List T × ℕ × Bool). Stands y.0 ring.taken y.1 ring.taker y.2 ring.emptying s.words s.homes s.views) (λ i. (sym mine.1 i, mine.0 i, mine.2 i)) ring.stands in
      let found : ℕ = slice_index s.words 32 in
      let behind : found ≤ length pushed = let b = r.behind in omega (arith, r.taken_word) in
      let Done : ℕ → Type 0 = λ n. (w : View T) × (a : Act (Option T)) × Valid s.homes [] a × Rule (stepped s 32 found seat [] w a) × FindsRoom n (sender_of pushed looks, []) found (w, carried_after [] a) in
      let go : Dec (found + length s.homes ≤ length pushed) → Done (length s.homes) = elim [
        | yes le ↦ (
          sender_of pushed (looks ++ found ∷ []),
          keeps,
          tt,
          loaded pushed ring.taken seat ring.taker false ring.emptying s.words s.homes (set s.views seat (sender_of pushed (looks ++ found ∷ []))) 32
              (reseats pushed ring.taken seat ring.taker false ring.emptying s.words s.homes s.views seat (sender_of pushed (looks ++ found ∷ [])) r record { own = λ t. (refl, refl, refl); reads = λ t. absurd (true≢false (sym t)) }),
          record { behind = behind; free = λ lt. absurd (omega arith); full = λ _. refl },
        )
        | no gt ↦ (
            let lt : length pushed < found + length s.homes = lt_of_not-le gt in
            let free = takes_free pushed (looks ++ found ∷ []) ring.taken seat ring.taker ring.emptying s.words s.homes s.views r (omega (arith, r.taken_word)) in (
              filler_of pushed (looks ++ found ∷ []),
              takes (length pushed % length s.homes) None,
              free.0,
              loaded pushed ring.taken seat ring.taker true ring.emptying s.words (set s.homes (length pushed % length s.homes) none) (set s.views seat (filler_of pushed (looks ++ found ∷ []))) 32 free.1,
              record { behind = behind; free = λ _. refl; full = λ le. absurd (omega arith) },
            ))
      ] in
      subst Done homes (go (dec_le (found + length s.homes) (length pushed)))

  pub looks_for_room_as : (slots seat : ℕ) (me : Me (Option T) (View T)) → me ≡ (sender_of me.0.pushed me.0.looks, []) → Allows Rule slots seat me 32 (λ n. n) (FindsRoom slots me)
  looks_for_room_as slots seat me known = subst (λ (m : Me (Option T) (View T)). Allows Rule slots seat m 32 (λ n. n) (FindsRoom slots m)) (sym known) (looks_for_room slots seat me.0.pushed me.0.looks)

  fills_place : (slots seat : ℕ) (pushed : List T) (looks : List ℕ) (x : T) → Allows Rule slots seat (filler_of pushed looks, (length pushed % slots, Some x) ∷ []) 16 (λ _. length pushed + 1)
      (λ _ w. w ≡ filled (filler_of pushed looks, (length pushed % slots, Some x) ∷ []))
  fills_place slots seat pushed looks x s ring homes at small =
      let mine = (ring.stands.fits seat (filler_of pushed looks) at).own refl in
      let r : Stands pushed ring.taken seat ring.taker true ring.emptying s.words s.homes s.views =
      subst (λ (y : List T × ℕ × Bool). Stands y.0 ring.taken y.1 ring.taker y.2 ring.emptying s.words s.homes s.views) (λ i. (sym mine.1 i, mine.0 i, mine.2 i)) ring.stands in
      let Done : ℕ → Type 0 = λ n. (w : View T) × (a : Act (Option T)) × Valid s.homes ((length pushed % n, Some x) ∷ []) a
      × Rule (stepped s 16 (length pushed + 1) seat ((length pushed % n, Some x) ∷ []) w a)
      × ((w, carried_after ((length pushed % n, Some x) ∷ []) a) ≡ filled (filler_of pushed looks, (length pushed % n, Some x) ∷ [])) in
      subst Done homes (
        sender_of (pushed ++ x ∷ []) looks,
        gives,
        tt,
        record {
          sent = pushed ++ x ∷ [];
          taken = ring.taken;
          sender = seat;
          taker = ring.taker;
          filling = false;
          emptying = ring.emptying;
          stands = fills pushed x looks ring.taken seat ring.taker ring.emptying s.words s.homes s.views r;
        },
        refl,
      )

  pub fills_place_as : (slots seat new place : ℕ) (me : Me (Option T) (View T)) (pushed : List T) (looks : List ℕ) (x : T) → new ≡ length pushed + 1 → place ≡ length pushed % slots
      → me ≡ (filler_of pushed looks, (place, Some x) ∷ []) → Allows Rule slots seat me 16 (λ _. new) (λ _ w. w ≡ filled me)
  fills_place_as slots seat new place me pushed looks x is at known =
      subst (λ (y : Me (Option T) (View T) × ℕ). Allows Rule slots seat y.0 16 (λ _. y.1) (λ _ w. w ≡ filled y.0))
      (λ i. (((λ j. (filler_of pushed looks, (sym at j, Some x) ∷ [])) ∙ sym known) i, sym is i))
      (fills_place slots seat pushed looks x)

  looks_for_item : (slots seat : ℕ) (sends : Bool) (pushed items : List T) (looks : List ℕ) → Allows Rule slots seat (taker_of sends pushed items looks, []) 16 (λ n. n) (FindsItem slots (taker_of sends pushed items looks, []))
  looks_for_item slots seat sends pushed items looks s ring homes at small =
      let mine = ring.stands.fits seat (taker_of sends pushed items looks) at in
      let reads = mine.reads refl in
      let taken : ℕ = ring.taken in
      let counted : length items ≡ taken = omega (arith, reads.2) in
      let r : Stands ring.sent taken ring.sender seat ring.filling false s.words s.homes s.views =
      subst (λ (y : ℕ × Bool). Stands ring.sent taken ring.sender y.0 ring.filling y.1 s.words s.homes s.views) (λ i. (reads.0 i, reads.3 i)) ring.stands in
      let own : sends ≡ true → (ring.sender ≡ seat) × (pushed ≡ ring.sent) × (ring.filling ≡ false) = mine.own in
      let found : ℕ = slice_index s.words 16 in
      let told : found ≡ length ring.sent = r.pushed_word in
      let ahead : length items ≤ found = let b = r.behind in omega arith in
      let me : Me (Option T) (View T) = (taker_of sends pushed items looks, []) in
      let Done : ℕ → Type 0 = λ n. (w : View T) × (a : Act (Option T)) × Valid s.homes [] a × Rule (stepped s 16 found seat [] w a) × FindsItem n me found (w, carried_after [] a) in
      let go : Dec (found ≤ length items) → Done (length s.homes) = elim [
        | yes le ↦ (
          taker_of sends pushed items (looks ++ found ∷ []),
          keeps,
          tt,
          loaded ring.sent taken ring.sender seat ring.filling false s.words s.homes (set s.views seat (taker_of sends pushed items (looks ++ found ∷ []))) 16
              (reseats ring.sent taken ring.sender seat ring.filling false s.words s.homes s.views seat (taker_of sends pushed items (looks ++ found ∷ [])) r record { own = own; reads = λ t. (refl, reads.1, reads.2, refl) }),
          record {
            ahead = ahead;
            there = λ lt. absurd (omega arith);
            none = λ _. (refl, λ t. prefix_whole items ring.sent reads.1 (omega arith) ∙ sym (own t).1);
          },
        )
        | no gt ↦ (
            let lt : length items < found = lt_of_not-le gt in
            let oldest = there ring.sent taken (omega arith) in
            let x : T = oldest.0 in
            let out = takes_oldest ring.sent x sends pushed items (looks ++ found ∷ []) taken ring.sender seat ring.filling s.words s.homes s.views r oldest.1 own reads.1 counted in
            let w : View T = emptier_of sends pushed (items ++ x ∷ []) (looks ++ found ∷ []) in (
              w,
              takes (taken % length s.homes) (Some x),
              out.0,
              loaded ring.sent taken ring.sender seat ring.filling true s.words (set s.homes (taken % length s.homes) none) (set s.views seat w) 16 out.1,
              record {
                ahead = ahead;
                there = λ _. (
                  x,
                  (λ i. (w, (sym counted i % length s.homes, Some x) ∷ [])),
                  λ t. subst (IsPrefix (items ++ x ∷ [])) (sym (own t).1) (prefix_next items ring.sent x reads.1 (subst (λ (n : ℕ). slice_get ring.sent n ≡ Some x) (sym counted) oldest.1)),
                );
                none = λ le. absurd (omega arith);
              },
            ))
      ] in
      subst Done homes (go (dec_le found (length items)))

  pub looks_for_item_as : (slots seat : ℕ) (me : Me (Option T) (View T)) → me ≡ (taker_of me.0.sends me.0.pushed me.0.taken me.0.looks, []) → Allows Rule slots seat me 16 (λ n. n) (FindsItem slots me)
  looks_for_item_as slots seat me known =
      subst (λ (m : Me (Option T) (View T)). Allows Rule slots seat m 16 (λ n. n) (FindsItem slots m)) (sym known) (looks_for_item slots seat me.0.sends me.0.pushed me.0.taken me.0.looks)

  looks_for_none : (slots seat : ℕ) (sends : Bool) (pushed items : List T) (looks : List ℕ) → Allows Rule slots seat (taker_of sends pushed items looks, []) 16 (λ n. n) (FindsNoItem (taker_of sends pushed items looks, []))
  looks_for_none slots seat sends pushed items looks s ring homes at small =
      let mine = ring.stands.fits seat (taker_of sends pushed items looks) at in
      let reads = mine.reads refl in
      let found : ℕ = slice_index s.words 16 in
      let told : found ≡ length ring.sent = ring.stands.pushed_word in
      let counted : length items ≡ ring.taken = omega (arith, reads.2) in
      let ahead : length items ≤ found = let b = ring.stands.behind in omega arith in
      let me : Me (Option T) (View T) = (taker_of sends pushed items looks, []) in
      let Done : Type 0 = (w : View T) × (a : Act (Option T)) × Valid s.homes [] a × Rule (stepped s 16 found seat [] w a) × FindsNoItem me found (w, carried_after [] a) in
      let seated : (w : View T) → Fits ring.sent ring.taken ring.sender ring.taker ring.filling ring.emptying seat w → Rule (stepped s 16 found seat [] w keeps) =
      λ w fits. loaded ring.sent ring.taken ring.sender ring.taker ring.filling ring.emptying s.words s.homes (set s.views seat w) 16
      (reseats ring.sent ring.taken ring.sender ring.taker ring.filling ring.emptying s.words s.homes s.views seat w ring.stands fits) in
      let go : Dec (found ≤ length items) → Done = elim [
        | yes le ↦ (
          taker_of sends pushed items (looks ++ found ∷ []),
          keeps,
          tt,
          seated (taker_of sends pushed items (looks ++ found ∷ [])) record { own = mine.own; reads = mine.reads },
          record {
            ahead = ahead;
            none = λ _. (refl, λ t. prefix_whole items ring.sent reads.1 (omega arith) ∙ sym (mine.own t).1);
            some = λ lt. absurd (omega arith);
          },
        )
        | no gt ↦ (
          taker_of sends pushed items looks,
          keeps,
          tt,
          seated (taker_of sends pushed items looks) mine,
          record { ahead = ahead; none = λ le. absurd (gt le); some = λ _. refl },
        )
      ] in
      go (dec_le found (length items))

  pub looks_for_none_as : (slots seat : ℕ) (me : Me (Option T) (View T)) → me ≡ (taker_of me.0.sends me.0.pushed me.0.taken me.0.looks, []) → Allows Rule slots seat me 16 (λ n. n) (FindsNoItem me)
  looks_for_none_as slots seat me known =
      subst (λ (m : Me (Option T) (View T)). Allows Rule slots seat m 16 (λ n. n) (FindsNoItem m)) (sym known) (looks_for_none slots seat me.0.sends me.0.pushed me.0.taken me.0.looks)

  empties_place : (slots seat count : ℕ) (sends : Bool) (pushed items : List T) (looks : List ℕ) → length items ≡ count + 1
      → Allows Rule slots seat (emptier_of sends pushed items looks, (count % slots, None) ∷ []) 32 (λ _. count + 1) (λ _ w. w ≡ emptied (emptier_of sends pushed items looks, (count % slots, None) ∷ []))
  empties_place slots seat count sends pushed items looks counted s ring homes at small =
      let mine = ring.stands.fits seat (emptier_of sends pushed items looks) at in
      let reads = mine.reads refl in
      let same : ring.taken ≡ count = omega (arith, reads.2) in
      let r : Stands ring.sent count ring.sender seat ring.filling true s.words s.homes s.views =
      subst (λ (y : ℕ × ℕ × Bool). Stands ring.sent y.1 ring.sender y.0 ring.filling y.2 s.words s.homes s.views) (λ i. (reads.0 i, same i, reads.3 i)) ring.stands in
      let Done : ℕ → Type 0 = λ n. (w : View T) × (a : Act (Option T)) × Valid s.homes ((count % n, None) ∷ []) a
      × Rule (stepped s 32 (count + 1) seat ((count % n, None) ∷ []) w a)
      × ((w, carried_after ((count % n, None) ∷ []) a) ≡ emptied (emptier_of sends pushed items looks, (count % n, None) ∷ [])) in
      subst Done homes (
        taker_of sends pushed items looks,
        gives,
        tt,
        record {
          sent = ring.sent;
          taken = count + 1;
          sender = ring.sender;
          taker = seat;
          filling = ring.filling;
          emptying = false;
          stands = empties ring.sent sends pushed items looks count ring.sender seat ring.filling s.words s.homes s.views r mine.own reads.1 counted;
        },
        refl,
      )

  pub empties_place_as : (slots seat new place count : ℕ) (me : Me (Option T) (View T)) (sends : Bool) (pushed items : List T) (looks : List ℕ) → length items ≡ count + 1 → new ≡ count + 1 → place ≡ count % slots
      → me ≡ (emptier_of sends pushed items looks, (place, None) ∷ []) → Allows Rule slots seat me 32 (λ _. new) (λ _ w. w ≡ emptied me)
  empties_place_as slots seat new place count me sends pushed items looks counted is at known =
      subst (λ (y : Me (Option T) (View T) × ℕ). Allows Rule slots seat y.0 32 (λ _. y.1) (λ _ w. w ≡ emptied y.0))
      (λ i. (((λ j. (emptier_of sends pushed items looks, (sym at j, None) ∷ [])) ∙ sym known) i, sym is i))
      (empties_place slots seat count sends pushed items looks counted)

  parts : (seat : ℕ) → Splits Rule seat fresh (taker_of false [] [] []) (sender_of [] [])
  parts seat s ring at =
      let own = (ring.stands.fits seat fresh at).own refl in
      let r : Stands [] ring.taken ring.sender ring.taker ring.filling ring.emptying s.words s.homes s.views =
      subst (λ (xs : List T). Stands xs ring.taken ring.sender ring.taker ring.filling ring.emptying s.words s.homes s.views) (sym own.1) ring.stands in record {
        sent = [];
        taken = ring.taken;
        sender = length (set s.views seat (taker_of false [] [] []));
        taker = ring.taker;
        filling = ring.filling;
        emptying = ring.emptying;
        stands = splits ring.taken ring.sender ring.taker ring.filling ring.emptying s.words s.homes s.views seat r at;
      }

  pub parts_as : (seat : ℕ) (v : View T) → v ≡ fresh → Splits Rule seat v (taker_part v) (sender_part v)
  parts_as seat v is = subst (λ (u : View T). Splits Rule seat u (taker_part u) (sender_part u)) (sym is) (parts seat)

  ends : (seat other : ℕ) (sends : Bool) (pushed items : List T) (looks looks' : List ℕ) (xs : List T)
      → Joins Rule seat (taker_of sends pushed items looks) other (sender_of xs looks') (taker_of true xs items looks) spent
  ends seat other sends pushed items looks looks' xs s ring at two at' = record {
    sent = ring.sent;
    taken = ring.taken;
    sender = seat;
    taker = ring.taker;
    filling = ring.filling;
    emptying = ring.emptying;
    stands = joins ring.sent ring.taken ring.sender ring.taker ring.filling ring.emptying s.words s.homes s.views seat other sends pushed items looks looks' xs ring.stands at two at';
  }

  pub ends_as : (seat other : ℕ) (v w : View T) → v ≡ taker_of v.sends v.pushed v.taken v.looks → w ≡ sender_of w.pushed w.looks → Joins Rule seat v other w (ended v w) spent
  ends_as seat other v w is theirs =
      subst (λ (y : View T × View T). Joins Rule seat y.0 other y.1 (ended y.0 y.1) spent) (λ i. (sym is i, sym theirs i)) (ends seat other v.sends v.pushed v.taken v.looks w.looks w.pushed)

  learns : (slots seat : ℕ) (xs items : List T) (looks : List ℕ) → Allows Rule slots seat (taker_of true xs items looks, []) 16 (λ n. n) (λ n w. (w ≡ (taker_of true xs items looks, [])) × Knows (taker_of true xs items looks) n)
  learns slots seat xs items looks s ring homes at small =
      let mine = ring.stands.fits seat (taker_of true xs items looks) at in
      let own = mine.own refl in (
        taker_of true xs items looks,
        keeps,
        tt,
        loaded ring.sent ring.taken ring.sender ring.taker ring.filling ring.emptying s.words s.homes (set s.views seat (taker_of true xs items looks)) 16
            (reseats ring.sent ring.taken ring.sender ring.taker ring.filling ring.emptying s.words s.homes s.views seat (taker_of true xs items looks) ring.stands mine),
        (refl, record { counted = ring.stands.pushed_word ∙ ap length (sym own.1); begins = subst (IsPrefix items) (sym own.1) (mine.reads refl).1 }),
      )

  pub learns_as : (slots seat : ℕ) (me : Me (Option T) (View T)) (xs items : List T) (looks : List ℕ) → me ≡ (taker_of true xs items looks, []) → Allows Rule slots seat me 16 (λ n. n) (λ n w. (w ≡ me) × Knows me.0 n)
  learns_as slots seat me xs items looks known = subst (λ (m : Me (Option T) (View T)). Allows Rule slots seat m 16 (λ n. n) (λ n w. (w ≡ m) × Knows m.0 n)) (sym known) (learns slots seat xs items looks)

  pub begins : (n : ℕ) → IsRing (replicate 48 0) (map some (replicate n None)) (fresh {T = T} ∷ [])
  begins n = record { sent = []; taken = 0; sender = 0; taker = 0; filling = false; emptying = false; stands = rests n }
