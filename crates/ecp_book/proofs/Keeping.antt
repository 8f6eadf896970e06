-- Each kind of step keeps the rule of a book.
use Rattle.std.proofs.Common.{◌≡◌, ◌≢◌, ◌⊎◌, ⊎_elim, inl, inr, ℕ, zero, suc, eqb, eq-eqb, ne_eqb, ◌+◌, ◌<◌, ◌≤◌, cond, List, [], ◌∷◌, ◌++◌, length, set, take, replicate, refl, sym, ap, ◌∙◌, subst, arith, length-append, length-set}
use Rattle.std.proofs.lemmas.List.{set-get_or, get_or-set_same, get_or-set_other, get_or-take, get_or-replicate, length-take-le, length-replicate}
use Rattle.std.specs.Prelude.{slice_index}
use mathlib.Core.Option.{some, some-injective, some-ne-none}
use mathlib.Core.List.{IsPrefix}
use mathlib.Core.Logic.{dite}
use native.Mathlib.Decide.{ℕ_discrete}
use lib.ListN.{get_elem?}
use Rattle.atomic_table.specs.Table.{State, Me, keeps, Allows, Splits, Joins}
use Rattle.atomic_table.proofs.Lists.{at_set, set_again}
use Rattle.ecp_book.specs.Logs.{Log}
use Rattle.ecp_book.specs.declared.view.Role.{Role}
use Rattle.ecp_book.specs.declared.view.Role.TheVariants.{Opener, Keeper, Tag, Ended, Spent}
use Rattle.ecp_book.specs.declared.view.View.{View}
use Rattle.ecp_book.specs.Rules.{Claims, Fits, IsKept, opener_of, keeper_of, tag_of, ended_of, spent, meeting, Grows, Learns}
use Rattle.ecp_book.proofs.Prefixes.{prefix_self, prefix_trans, prefix_either}

-- the function f, but x at k
abbrev changed : {A : Type 0} → (ℕ → A) → ℕ → A → ℕ → A
changed f k x j = cond (eqb j k) x (f j)

changed_here : {A : Type 0} (f : ℕ → A) (k : ℕ) (x : A) → changed f k x k ≡ x
changed_here f k x = ap (λ b. cond b x (f k)) (eq-eqb k k refl)

changed_else : {A : Type 0} (f : ℕ → A) (k : ℕ) (x : A) (j : ℕ) → j ≢ k → changed f k x j ≡ f j
changed_else f k x j ne = ap (λ b. cond b x (f j)) (ne_eqb j k ne)

-- one seat has another view
fits_set : (lists : ℕ → Log) (keepers : ℕ → ℕ) (views : List View) (seat : ℕ) (w : View)
    → ((j : ℕ) (u : View) → j ≢ seat → get_elem? views j ≡ some u → Fits lists keepers j u) → Fits lists keepers seat w
    → (j : ℕ) (u : View) → get_elem? (set views seat w) j ≡ some u → Fits lists keepers j u
fits_set lists keepers views seat w others mine j u e =
    ⊎_elim
    (λ (x : (j ≡ seat) × (w ≡ u)). subst (λ (y : ℕ × View). Fits lists keepers y.0 y.1) (λ i. (sym x.0 i, x.1 i)) mine)
    (λ (x : (j ≢ seat) × (get_elem? views j ≡ some u)). others j u x.0 x.1)
    (at_set views seat j w u e)

-- the log, which the seat keeps, goes on, and the other logs stay
record Grown (lists after : ℕ → Log) (log : ℕ) : Type 0 where
  here : IsPrefix (lists log) (after log)
  others : (l : ℕ) → l ≢ log → after l ≡ lists l

longer : (lists after : ℕ → Log) (log : ℕ) → Grown lists after log → (l : ℕ) → IsPrefix (lists l) (after l)
longer lists after log g l =
    dite (ℕ_discrete l log)
    (λ (e : l ≡ log). subst (λ (k : ℕ). IsPrefix (lists k) (after k)) (sym e) g.here)
    (λ (ne : l ≢ log). subst (λ (ys : Log). IsPrefix (lists l) ys) (sym (g.others l ne)) (prefix_self (lists l)))

-- what any other seat claims is still so
claims_still : (lists after : ℕ → Log) (keepers : ℕ → ℕ) (seat log : ℕ) → Grown lists after log → keepers log ≡ seat
    → (j : ℕ) → j ≢ seat → (l : ℕ) (items : Log) (role : Role) → Claims lists keepers j l items role → Claims after keepers j l items role
claims_still lists after keepers seat log g kept j apart l items Opener h =
    λ later le. let o = h later le in
    (o.0, g.others later (λ (e : later ≡ log). apart (sym o.0 ∙ ap keepers e ∙ kept)) ∙ o.1)
claims_still lists after keepers seat log g kept j apart l items Keeper h =
    (h.0, h.1 ∙ sym (g.others l (λ (e : l ≡ log). apart (sym h.0 ∙ ap keepers e ∙ kept))))
claims_still lists after keepers seat log g kept j apart l items Tag h = prefix_trans items (lists l) (after l) h (longer lists after log g l)
claims_still lists after keepers seat log g kept j apart l items Ended h =
    (h.0, h.1 ∙ sym (g.others l (λ (e : l ≡ log). apart (sym h.0 ∙ ap keepers e ∙ kept))))
claims_still lists after keepers seat log g kept j apart l items Spent h = tt

fits_still : (lists after : ℕ → Log) (keepers : ℕ → ℕ) (seat log : ℕ) → Grown lists after log → keepers log ≡ seat
    → (j : ℕ) → j ≢ seat → (u : View) → Fits lists keepers j u → Fits after keepers j u
fits_still lists after keepers seat log g kept j apart u h =
    (claims_still lists after keepers seat log g kept j apart u.log u.items u.role h.0, prefix_trans u.met (lists u.log) (after u.log) h.1 (longer lists after log g u.log))

-- the word of the log is its new length
new_lengths : (words : List ℕ) (lists : ℕ → Log) (logs log : ℕ) (items : Log) (item : List ℕ) → length words ≡ logs → log < logs → items ≡ lists log
    → ((l : ℕ) → l < logs → slice_index words l ≡ length (lists l))
    → (l : ℕ) → l < logs → slice_index (set words log (length items + 1)) l ≡ length (changed lists log (items ++ item ∷ []) l)
new_lengths words lists logs log items item count lt is lengths l within =
    dite (ℕ_discrete l log)
    (λ (e : l ≡ log). subst (λ (k : ℕ). slice_index (set words log (length items + 1)) k ≡ length (changed lists log (items ++ item ∷ []) k)) (sym e)
    (get_or-set_same words log (length items + 1) 0 (omega (arith, count)) ∙ (sym (length-append items (item ∷ [])) ∙ sym (ap (λ (xs : Log). length xs) (changed_here lists log (items ++ item ∷ []))))))
    (λ (ne : l ≢ log). get_or-set_other words log l (length items + 1) 0 ne ∙ (lengths l within ∙ sym (ap (λ (xs : Log). length xs) (changed_else lists log (items ++ item ∷ []) l ne))))

-- what another seat claims is still so once a new seat keeps the log
claims_kept : (lists : ℕ → Log) (keepers : ℕ → ℕ) (seat log new : ℕ) → keepers log ≡ seat → (j : ℕ) → j ≢ seat
    → (l : ℕ) (items : Log) (role : Role) → Claims lists keepers j l items role → Claims lists (changed keepers log new) j l items role
claims_kept lists keepers seat log new kept j apart l items Opener h =
    λ later le. let o = h later le in
    (changed_else keepers log new later (λ (e : later ≡ log). apart (sym o.0 ∙ ap keepers e ∙ kept)) ∙ o.0, o.1)
claims_kept lists keepers seat log new kept j apart l items Keeper h =
    (changed_else keepers log new l (λ (e : l ≡ log). apart (sym h.0 ∙ ap keepers e ∙ kept)) ∙ h.0, h.1)
claims_kept lists keepers seat log new kept j apart l items Tag h = h
claims_kept lists keepers seat log new kept j apart l items Ended h =
    (changed_else keepers log new l (λ (e : l ≡ log). apart (sym h.0 ∙ ap keepers e ∙ kept)) ∙ h.0, h.1)
claims_kept lists keepers seat log new kept j apart l items Spent h = tt

-- an element of a list with one more is an old one, or the last
at_snoc_place : {A : Type 0} (l : List A) (a b : A) (j : ℕ) → get_elem? (l ++ a ∷ []) j ≡ some b → (get_elem? l j ≡ some b) ⊎ ((j ≡ length l) × (a ≡ b))
at_snoc_place [] a b zero e = inr (refl, some-injective a b e)
at_snoc_place [] a b (suc j) e = absurd (some-ne-none b (sym e))
at_snoc_place (x ∷ xs) a b zero e = inl e
at_snoc_place (x ∷ xs) a b (suc j) e = ⊎_elim (λ h. inl h) (λ h. inr (ap suc h.0, h.1)) (at_snoc_place xs a b j e)

-- the book at its making
pub begins : (logs : ℕ) (words : List ℕ) → length words ≡ logs → ((log : ℕ) → log < logs → slice_index words log ≡ 0) → IsKept logs words (opener_of 0 ∷ [])
begins logs words count zeros = record {
  lists = λ _. [];
  keepers = λ _. 0;
  count = count;
  lengths = zeros;
  fits = opening;
}
  where
    opening : (seat : ℕ) (v : View) → get_elem? (opener_of 0 ∷ []) seat ≡ some v → Fits (λ _. []) (λ _. 0) seat v
    opening zero v e = subst (Fits (λ _. []) (λ _. 0) 0) (some-injective (opener_of 0) v e) ((λ later le. (refl, refl)), ([], refl))
    opening (suc j) v e = absurd (some-ne-none v (sym e))

-- so many words of 0
pub begins_with : (logs most : ℕ) → logs ≤ most → IsKept logs (take logs (replicate most 0)) (opener_of 0 ∷ [])
begins_with logs most within =
    begins logs (take logs (replicate most 0))
    (length-take-le logs (replicate most 0) (omega (arith, length-replicate {A = ℕ} most 0)))
    (λ log lt. get_or-take logs (replicate most 0) log 0 lt ∙ get_or-replicate most log 0 0 (omega arith))

module _ {S : Type 0} (logs : ℕ) where
  abbrev Rule : State S View → Type 0
  Rule s = IsKept logs s.words s.views

  -- a store by which the keeper's log grows
  pub appends : (slots seat log : ℕ) (items : Log) (item : List ℕ) (len : ℕ) → log < logs → len ≡ length items + 1
      → Allows Rule slots seat (keeper_of log items, []) log (λ _. len) (λ _ w. Grows item (keeper_of log items) w.0 × (w.1 ≡ []))
  appends slots seat log items item len lt is s kept homes at small =
      let mine = kept.fits seat (keeper_of log items) at in
      let more : Log = items ++ item ∷ [] in
      let after : ℕ → Log = changed kept.lists log more in
      let here : after log ≡ more = changed_here kept.lists log more in
      let grown : Grown kept.lists after log = record {
        here = (item ∷ [], ap (λ (xs : Log). xs ++ item ∷ []) (sym mine.0.1) ∙ sym here);
        others = λ l ne. changed_else kept.lists log more l ne;
      } in
      let w : View = keeper_of log more in (
        w,
        keeps,
        tt,
        record {
          lists = after;
          keepers = kept.keepers;
          count = length-set s.words log len ∙ kept.count;
          lengths = subst (λ (n : ℕ). (l : ℕ) → l < logs → slice_index (set s.words log n) l ≡ length (after l)) (sym is) (new_lengths s.words kept.lists logs log items item kept.count lt mine.0.1 kept.lengths);
          fits = fits_set after kept.keepers s.views seat w
              (λ j u apart e. fits_still kept.lists after kept.keepers seat log grown mine.0.0 j apart u (kept.fits j u e))
              ((mine.0.0, sym here), (after log, refl));
        },
        (refl, refl),
      )

  pub appends_as : (slots seat log : ℕ) (me : Me S View) (items : Log) (item : List ℕ) (len : ℕ) → log < logs → len ≡ length items + 1 → me ≡ (keeper_of log items, [])
      → Allows Rule slots seat me log (λ _. len) (λ _ w. Grows item me.0 w.0 × (w.1 ≡ me.1))
  appends_as slots seat log me items item len lt is known =
      subst (λ (m : Me S View). Allows Rule slots seat m log (λ _. len) (λ _ w. Grows item m.0 w.0 × (w.1 ≡ m.1))) (sym known) (appends slots seat log items item len lt is)

  -- a load, after which the seat has the view w
  loads : (slots seat word : ℕ) (v w : View) (then : ℕ → Me S View → Type 0)
      → ((s : State S View) (kept : Rule s) → Fits kept.lists kept.keepers seat v → Fits kept.lists kept.keepers seat w × then (slice_index s.words word) (w, []))
      → Allows Rule slots seat (v, []) word (λ n. n) then
  loads slots seat word v w then told s kept homes at small =
      let now = told s kept (kept.fits seat v at) in (
        w,
        keeps,
        tt,
        subst (λ (ws : List ℕ). IsKept logs ws (set s.views seat w)) (sym (set-get_or s.words word 0)) record {
          lists = kept.lists;
          keepers = kept.keepers;
          count = kept.count;
          lengths = kept.lengths;
          fits = fits_set kept.lists kept.keepers s.views seat w (λ j u _ e. kept.fits j u e) now.0;
        },
        now.1,
      )

  -- a load that ends a meeting
  pub keeper_learns : (slots seat log word : ℕ) (items met : Log) → Allows Rule slots seat (meeting (keeper_of log items) met, []) word (λ n. n) (λ n w. Learns (meeting (keeper_of log items) met) w.0 × (w.1 ≡ []))
  keeper_learns slots seat log word items met =
      loads slots seat word (meeting (keeper_of log items) met) (keeper_of log items) (λ n w. Learns (meeting (keeper_of log items) met) w.0 × (w.1 ≡ []))
      (λ s kept h. ((h.0, (kept.lists log, refl)), ((refl, subst (λ (xs : Log). IsPrefix met xs) (sym h.0.1) h.1), refl)))

  pub tag_learns : (slots seat log word : ℕ) (items met : Log) → Allows Rule slots seat (meeting (tag_of log items) met, []) word (λ n. n) (λ n w. Learns (meeting (tag_of log items) met) w.0 × (w.1 ≡ []))
  tag_learns slots seat log word items met =
      loads slots seat word (meeting (tag_of log items) met) (tag_of log items) (λ n w. Learns (meeting (tag_of log items) met) w.0 × (w.1 ≡ []))
      (λ s kept h. ((h.0, (kept.lists log, refl)), ((refl, prefix_either met items (kept.lists log) h.1 h.0), refl)))

  -- a load after which a seat says nothing
  pub tag_ends : (slots seat word : ℕ) (v : View) → Allows Rule slots seat (v, []) word (λ n. n) (λ n w. w.0 ≡ spent)
  tag_ends slots seat word v = loads slots seat word v spent (λ n w. w.0 ≡ spent) (λ s kept h. ((tt, (kept.lists 0, refl)), refl))

  -- a load that finds the length of a log, which grows no more
  pub keeper_ends : (slots seat log : ℕ) (items : Log) → log < logs
      → Allows Rule slots seat (keeper_of log items, []) log (λ n. n) (λ n w. (n ≡ length items) × (w.0 ≡ ended_of log items))
  keeper_ends slots seat log items lt =
      loads slots seat log (keeper_of log items) (ended_of log items) (λ n w. (n ≡ length items) × (w.0 ≡ ended_of log items))
      (λ s kept h. (h, (kept.lengths log lt ∙ ap (λ (xs : Log). length xs) (sym h.0.1), refl)))

  -- a split that makes a tag with the same list
  pub copies : (seat : ℕ) (v : View)
      → ((lists : ℕ → Log) (keepers : ℕ → ℕ) → Claims lists keepers seat v.log v.items v.role → IsPrefix v.items (lists v.log))
      → Splits Rule seat v v (tag_of v.log v.items)
  copies seat v knows s kept at =
      let new : IsPrefix v.items (kept.lists v.log) = knows kept.lists kept.keepers (kept.fits seat v at).0 in
      record {
        lists = kept.lists;
        keepers = kept.keepers;
        count = kept.count;
        lengths = kept.lengths;
        fits = λ j u e. ⊎_elim
            (λ (was : get_elem? (set s.views seat v) j ≡ some u). kept.fits j u (subst (λ (l : List View). get_elem? l j ≡ some u) (set_again s.views seat v at) was))
            (λ (is : (j ≡ length (set s.views seat v)) × (tag_of v.log v.items ≡ u)). subst (Fits kept.lists kept.keepers j) is.1 (new, (kept.lists v.log, refl)))
            (at_snoc_place (set s.views seat v) (tag_of v.log v.items) u j e);
      }

  pub keeper_copies : (seat log : ℕ) (items : Log) → Splits Rule seat (keeper_of log items) (keeper_of log items) (tag_of log items)
  keeper_copies seat log items = copies seat (keeper_of log items) (λ lists keepers h. subst (λ (xs : Log). IsPrefix items xs) h.1 (prefix_self items))

  pub tag_copies : (seat log : ℕ) (items : Log) → Splits Rule seat (tag_of log items) (tag_of log items) (tag_of log items)
  tag_copies seat log items = copies seat (tag_of log items) (λ lists keepers h. h)

  -- a split that makes the keeper of the next log
  pub opens : (seat log : ℕ) → Splits Rule seat (opener_of log) (opener_of (log + 1)) (keeper_of log [])
  opens seat log s kept at =
      let mine = (kept.fits seat (opener_of log) at).0 in
      let new : ℕ = length (set s.views seat (opener_of (log + 1))) in
      let now : ℕ → ℕ = changed kept.keepers log new in
      record {
        lists = kept.lists;
        keepers = now;
        count = kept.count;
        lengths = kept.lengths;
        fits = λ j u e. ⊎_elim
            (λ (was : get_elem? (set s.views seat (opener_of (log + 1))) j ≡ some u). fits_set kept.lists now s.views seat (opener_of (log + 1))
            (λ i x apart e'. (claims_kept kept.lists kept.keepers seat log new (mine log (omega arith)).0 i apart x.log x.items x.role (kept.fits i x e').0, (kept.fits i x e').1))
            ((λ later le. let o = mine later (omega arith) in (changed_else kept.keepers log new later (λ h. omega arith) ∙ o.0, o.1)), (kept.lists (log + 1), refl)) j u was)
            (λ (is : (j ≡ new) × (keeper_of log [] ≡ u)). subst (Fits kept.lists now j) is.1 ((changed_here kept.keepers log new ∙ sym is.0, sym (mine log (omega arith)).1), (kept.lists log, refl)))
            (at_snoc_place (set s.views seat (opener_of (log + 1))) (keeper_of log []) u j e);
      }

  -- a join that begins a meeting
  pub meets : (seat other log : ℕ) (v : View) (items : Log) → v.log ≡ log → Joins Rule seat v other (tag_of log items) (meeting v items) spent
  meets seat other log v items same s kept at apart there =
      let both : View = meeting v items in
      let theirs : Fits kept.lists kept.keepers other (tag_of log items) = ⊎_elim
      (λ (t : (other ≡ seat) × (both ≡ tag_of log items)). absurd (apart t.0))
      (λ (t : (other ≢ seat) × (get_elem? s.views other ≡ some (tag_of log items))). kept.fits other (tag_of log items) t.1)
      (at_set s.views seat other both (tag_of log items) there) in
      let mine : Fits kept.lists kept.keepers seat both = ((kept.fits seat v at).0, subst (λ (l : ℕ). IsPrefix items (kept.lists l)) (sym same) theirs.0) in
      record {
        lists = kept.lists;
        keepers = kept.keepers;
        count = kept.count;
        lengths = kept.lengths;
        fits = fits_set kept.lists kept.keepers (set s.views seat both) other spent
            (λ j u _ e. fits_set kept.lists kept.keepers s.views seat both (λ i x _ e'. kept.fits i x e') mine j u e)
            (tt, (kept.lists 0, refl));
      }

  -- the same, of a seat whose view is known by an equation
  pub keeper_copies_as : (seat log : ℕ) (me : Me S View) (items : Log) → me ≡ (keeper_of log items, []) → Splits Rule seat me.0 me.0 (tag_of me.0.log me.0.items)
  keeper_copies_as seat log me items known =
      subst (λ (m : Me S View). Splits Rule seat m.0 m.0 (tag_of m.0.log m.0.items)) (sym known) (keeper_copies seat log items)

  pub tag_copies_as : (seat log : ℕ) (me : Me S View) (items : Log) → me ≡ (tag_of log items, []) → Splits Rule seat me.0 me.0 (tag_of me.0.log me.0.items)
  tag_copies_as seat log me items known =
      subst (λ (m : Me S View). Splits Rule seat m.0 m.0 (tag_of m.0.log m.0.items)) (sym known) (tag_copies seat log items)

  pub opens_as : (seat log : ℕ) (me : Me S View) → me ≡ (opener_of log, []) → Splits Rule seat me.0 (opener_of (me.0.log + 1)) (keeper_of me.0.log [])
  opens_as seat log me known =
      subst (λ (m : Me S View). Splits Rule seat m.0 (opener_of (m.0.log + 1)) (keeper_of m.0.log [])) (sym known) (opens seat log)

  pub meets_as : (seat other log : ℕ) (v : View) (them : Me S View) (items : Log) → v.log ≡ log → them ≡ (tag_of log items, []) → Joins Rule seat v other them.0 (meeting v them.0.items) spent
  meets_as seat other log v them items same known =
      subst (λ (m : Me S View). Joins Rule seat v other m.0 (meeting v m.0.items) spent) (sym known) (meets seat other log v items same)

  pub keeper_learns_as : (slots seat log word : ℕ) (now me : Me S View) (items met : Log) → now ≡ (meeting me.0 met, me.1) → me ≡ (keeper_of log items, [])
      → Allows Rule slots seat now word (λ n. n) (λ n w. Learns now.0 w.0 × (w.1 ≡ now.1))
  keeper_learns_as slots seat log word now me items met joined known =
      subst (λ (m : Me S View). Allows Rule slots seat m word (λ n. n) (λ n w. Learns m.0 w.0 × (w.1 ≡ m.1)))
      (sym (joined ∙ ap (λ (m : Me S View). (meeting m.0 met, m.1)) known))
      (keeper_learns slots seat log word items met)

  pub tag_learns_as : (slots seat log word : ℕ) (now me : Me S View) (items met : Log) → now ≡ (meeting me.0 met, me.1) → me ≡ (tag_of log items, [])
      → Allows Rule slots seat now word (λ n. n) (λ n w. Learns now.0 w.0 × (w.1 ≡ now.1))
  tag_learns_as slots seat log word now me items met joined known =
      subst (λ (m : Me S View). Allows Rule slots seat m word (λ n. n) (λ n w. Learns m.0 w.0 × (w.1 ≡ m.1)))
      (sym (joined ∙ ap (λ (m : Me S View). (meeting m.0 met, m.1)) known))
      (tag_learns slots seat log word items met)

  pub tag_ends_as : (slots seat word : ℕ) (me : Me S View) (v : View) → me ≡ (v, []) → Allows Rule slots seat me word (λ n. n) (λ n w. w.0 ≡ spent)
  tag_ends_as slots seat word me v known =
      subst (λ (m : Me S View). Allows Rule slots seat m word (λ n. n) (λ n w. w.0 ≡ spent)) (sym known) (tag_ends slots seat word v)

  pub keeper_ends_as : (slots seat log : ℕ) (me : Me S View) (items : Log) → log < logs → me ≡ (keeper_of log items, [])
      → Allows Rule slots seat me log (λ n. n) (λ n w. (n ≡ length me.0.items) × (w.0 ≡ ended_of me.0.log me.0.items))
  keeper_ends_as slots seat log me items lt known =
      subst (λ (m : Me S View). Allows Rule slots seat m log (λ n. n) (λ n w. (n ≡ length m.0.items) × (w.0 ≡ ended_of m.0.log m.0.items))) (sym known) (keeper_ends slots seat log items lt)
