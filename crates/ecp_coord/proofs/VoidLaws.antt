-- The position that is kept of a plan that does not stand: the entry there is voiding for the stripe, and stands past all of the hand.
use Rattle.std.proofs.Common.{◌≡◌, ℕ, zero, suc, ◌+◌, ◌-◌, ◌<◌, ◌≤◌, ◌⊎◌, Bool, true, false, List, [], ◌∷◌, ◌++◌, length, take, drop, get_or, slice_get, replicate, Option, Some, None, refl, sym, ◌∙◌, ap, subst, arith, inl, inr, append_assoc}
use Rattle.std.specs.Prelude.{All, IsTrue}
use Rattle.std.specs.List.{Any, list_any, position_from}
use Rattle.std.specs.List.Sorted.{IsStrictlyIncreasing}
use Rattle.std.specs.Option.{option_map_or}
use mathlib.Core.List.{IsPrefix}
use Rattle.std.proofs.lemmas.Bool.{cases_Bool, cases_lt, eqb-true, false≢true, or_left, or_right}
use Rattle.std.proofs.lemmas.Option.{slice_get_within}
use Rattle.std.proofs.lemmas.List.{drop_at, drop-append-le, get_or_append_left, length_push, take-append-drop, take-append-le}
use Rattle.std.proofs.lemmas.List.Elements.{All-push, All-weaker}
use Rattle.std.proofs.lemmas.List.Folds.{Any-from_list_any, list_any_at}
use Rattle.ecp_shape.specs.declared.limits.TheConstants.{MAX_ATTEMPTS}
use Rattle.ecp_shape.specs.declared.shape.Shape.{Shape}
use Rattle.ecp_book.specs.Logs.{Log}
use Rattle.ecp_book.proofs.Prefixes.{prefix_length}
use Rattle.ecp_entry.specs.declared.entry.Entry.{Entry}
use Rattle.ecp_entry.specs.Entries.{dropped_stripe, is_loss, is_number, loss_of}
use Rattle.ecp_entry.specs.Told.{history_of, items_by}
use Rattle.ecp_entry.proofs.ToldLaws.{history_of-append, items_by-append}
use Rattle.ecp_history.specs.Follows.{is_voiding, loses_row, passes_at}
use Rattle.ecp_history.specs.Legal.{IsLegal}
use Rattle.ecp_history.specs.table.Steps.{table_at, table_of}
use Rattle.ecp_history.specs.table.Tables.{PlainTable, is_live_on, rows_of, stands_live}
use Rattle.ecp_history.proofs.LegalLaws.{beginning, get_before}
use Rattle.ecp_plan.specs.declared.hop.Hop.{Hop}
use Rattle.ecp_plan.specs.declared.plan.Plan.{Plan}
use Rattle.ecp_plan.specs.declared.voids.Voids.{Voids}
use Rattle.ecp_plan.proofs.ChosenRows.{rest_more}
use Rattle.ecp_sequencer.specs.Passes.{PassState}
use Rattle.ecp_sequencer.specs.Sequencers.{SequencerState}
use Rattle.ecp_coord.specs.Coords.{is_drop}
use Rattle.ecp_coord.specs.Plans.{IsPlanned, first_void, voids_plan}
use Rattle.ecp_coord.specs.Voids.{AreVoids, positions_of}
use Rattle.ecp_coord.proofs.AnyLaws.{any_drop_none, both_none, or_none}
use Rattle.ecp_coord.proofs.FinishLaws.{none_after}
use Rattle.ecp_coord.proofs.FirstLaws.{IsFirstAt, first_at, voids_by}
use Rattle.ecp_coord.proofs.FollowLaws.{IsMet}
use Rattle.ecp_coord.proofs.LoseLaws.{length_told}
use Rattle.ecp_coord.proofs.StayLaws.{stays_live, takes}

-- ---- lists, behind a beginning

module _ {X : Type 0} where
  get_past : (xs ys : List X) (i : ℕ) → slice_get (xs ++ ys) (length xs + i) ≡ slice_get ys i
  get_past [] ys i = let none : 0 + i ≡ i = omega arith in ap (slice_get ys) none
  get_past (x ∷ xs) ys i = let next : length (x ∷ xs) + i ≡ suc (length xs + i) = omega arith in ap (slice_get (x ∷ xs ++ ys)) next ∙ get_past xs ys i

  take_past : (xs ys : List X) (i : ℕ) → take (length xs + i) (xs ++ ys) ≡ xs ++ take i ys
  take_past [] ys i = let none : 0 + i ≡ i = omega arith in ap (λ (n : ℕ). take n ys) none
  take_past (x ∷ xs) ys i =
      let next : length (x ∷ xs) + i ≡ suc (length xs + i) = omega arith in
      ap (λ (n : ℕ). take n (x ∷ xs ++ ys)) next ∙ ap (λ (zs : List X). x ∷ zs) (take_past xs ys i)

  drop_past : (xs ys : List X) (i : ℕ) → drop (length xs + i) (xs ++ ys) ≡ drop i ys
  drop_past [] ys i = let none : 0 + i ≡ i = omega arith in ap (λ (n : ℕ). drop n ys) none
  drop_past (x ∷ xs) ys i = let next : length (x ∷ xs) + i ≡ suc (length xs + i) = omega arith in ap (λ (n : ℕ). drop n (x ∷ xs ++ ys)) next ∙ drop_past xs ys i

  any_take_none : (p : X → Bool) (n : ℕ) (xs : List X) → list_any p xs ≡ false → list_any p (take n xs) ≡ false
  any_take_none p zero xs none = refl
  any_take_none p (suc n) [] none = refl
  any_take_none p (suc n) (x ∷ xs) none =
      let h = or_none (p x) (list_any p xs) none in
      both_none (p x) (list_any p (take n xs)) h.0 (any_take_none p n xs h.1)

  none_at : (p : X → Bool) (xs : List X) (i : ℕ) (x : X) → list_any p xs ≡ false → slice_get xs i ≡ Some x → p x ≡ false
  none_at p [] i x none is = absurd (cc)
  none_at p (y ∷ ys) zero x none is = let same : y ≡ x = cc in subst (λ (z : X). p z ≡ false) same (or_none (p y) (list_any p ys) none).0
  none_at p (y ∷ ys) (suc i) x none is = none_at p ys i x (or_none (p y) (list_any p ys) none).1 is

  any_here : (p : X → Bool) (xs : List X) (i : ℕ) → option_map_or p (slice_get xs i) false ≡ true → list_any p xs ≡ true
  any_here p [] i is = is
  any_here p (x ∷ xs) zero is = or_left (p x) (list_any p xs) is
  any_here p (x ∷ xs) (suc i) is = or_right (p x) (list_any p xs) (any_here p xs i is)

-- no entry of a hand is none of its end
items_by-drop : (hand : ℕ) (xs : Log) (i : ℕ) → items_by hand xs ≡ [] → items_by hand (drop i xs) ≡ []
items_by-drop hand xs i none =
    let parts : items_by hand (take i xs) ++ items_by hand (drop i xs) ≡ [] = sym (items_by-append hand (take i xs) (drop i xs)) ∙ ap (items_by hand) (take-append-drop i xs) ∙ none in
    no_end (items_by hand (take i xs)) (items_by hand (drop i xs)) parts
  where
    no_end : (a b : Log) → a ++ b ≡ [] → b ≡ []
    no_end [] b is = is
    no_end (x ∷ a) b is = let size : length (x ∷ a ++ b) ≡ 0 = ap (λ (ys : Log). length ys) is in absurd (omega (arith, size))

-- ---- the position

module _ (shape : Shape) (told : Bool) (callers spares : ℕ) (s : SequencerState) (v : PassState) (met : IsMet shape told callers spares s v) (no_drops : list_any is_drop (history_of s.history) ≡ false) where
  module _ {N : Type 0} (plan : Plan N) (planned : IsPlanned shape told v plan) (begins : IsPrefix plan.front.items s.history) (at : ℕ) (first : first_void plan (history_of s.history) ≡ Some at) where
    whole : history_of s.history ≡ history_of plan.front.items ++ history_of begins.0
    whole = ap (λ (xs : Log). history_of xs) (sym begins.1) ∙ history_of-append plan.front.items begins.0

    point_is : plan.point ≡ length (history_of plan.front.items)
    point_is = planned.point ∙ sym (length_told plan.front.items)

    behind : drop plan.point (history_of s.history) ≡ history_of begins.0
    behind = ap (λ (es : List Entry). drop plan.point es) whole ∙ drop_at (history_of plan.front.items) (history_of begins.0) plan.point (sym point_is)

    found : IsFirstAt (voids_plan plan) plan.point (history_of begins.0) at
    found = first_at (voids_plan plan) plan.point at (history_of begins.0) (ap (λ (es : List Entry). position_from (voids_plan plan) plan.point es) (sym behind) ∙ first)

    at_is : at ≡ length (history_of plan.front.items) + found.place
    at_is = omega (arith, found.is, point_is)

    item_there : slice_get (history_of s.history) at ≡ Some found.item
    item_there =
        ap (λ (es : List Entry). slice_get es at) whole ∙ ap (slice_get (history_of plan.front.items ++ history_of begins.0)) at_is
        ∙ get_past (history_of plan.front.items) (history_of begins.0) found.place ∙ found.there

    pub void_within : (plan.point ≤ at) × (at < length s.history)
    void_within = (omega (arith, found.is), omega (arith, slice_get_within (history_of s.history) at found.item item_there, length_told s.history))

    none_dropped : list_any is_drop (history_of begins.0) ≡ false
    none_dropped = ap (list_any is_drop) (sym behind) ∙ any_drop_none is_drop plan.point (history_of s.history) no_drops

    -- up to there no helper's node was lost
    none_taken : (m : ℕ) → ((e : Entry) → list_any (λ (h : Hop N). is_loss h.node e) plan.hops.items ≡ false → is_loss m e ≡ false) → (xs : List Entry) → list_any (voids_plan plan) xs ≡ false
        → list_any is_drop xs ≡ false → list_any (takes m) xs ≡ false
    none_taken m own [] voids drops = refl
    none_taken m own (e ∷ xs) voids drops =
        let a = or_none (voids_plan plan e) (list_any (voids_plan plan) xs) voids in
        let b = or_none (is_drop e) (list_any is_drop xs) drops in
        both_none (takes m e) (list_any (takes m) xs) (both_none (is_loss m e) (is_drop e) (own e (sym (voids_by plan e b.0) ∙ a.0)) b.0) (none_taken m own xs a.1 b.1)

    legal_upto : IsLegal shape told ((history_of plan.front.items ++ take found.place (history_of begins.0)))
    legal_upto =
        let split : (history_of plan.front.items ++ take found.place (history_of begins.0)) ++ drop found.place (history_of begins.0) ≡ history_of s.history =
        append_assoc (history_of plan.front.items) (take found.place (history_of begins.0)) (drop found.place (history_of begins.0))
        ∙ ap (λ (es : List Entry). history_of plan.front.items ++ es) (take-append-drop found.place (history_of begins.0)) ∙ sym whole in
        beginning shape told (history_of plan.front.items ++ take found.place (history_of begins.0)) (drop found.place (history_of begins.0)) (subst (IsLegal shape told) (sym split) met.kept.legal.legal)

    table_there : table_at shape (history_of s.history) at ≡ table_of shape (history_of plan.front.items ++ take found.place (history_of begins.0))
    table_there =
        ap (λ (es : List Entry). table_of shape es)
        (ap (λ (es : List Entry). take at es) whole ∙ ap (λ (n : ℕ). take n (history_of plan.front.items ++ history_of begins.0)) at_is ∙ take_past (history_of plan.front.items) (history_of begins.0) found.place)

    -- each helper's row is live on its node till then
    live_there : (k : ℕ) (d : Hop N) → k < length plan.hops.items → is_live_on (table_at shape (history_of s.history) at) plan.stripe (get_or plan.hops.items k d).row (get_or plan.hops.items k d).node ≡ true
    live_there k d lt =
        let h : Hop N = get_or plan.hops.items k d in
        let none : list_any (takes h.node) (take found.place (history_of begins.0)) ≡ false =
        none_taken h.node not_one (take found.place (history_of begins.0)) found.none (any_take_none is_drop found.place (history_of begins.0) none_dropped) in
        ap (λ (t : PlainTable). is_live_on t plan.stripe h.row h.node) table_there
        ∙ stays_live shape told plan.stripe h.row h.node (history_of plan.front.items) (take found.place (history_of begins.0)) legal_upto none (planned.live k d lt)
      where
        not_one : (e : Entry) → list_any (λ (g : Hop N). is_loss g.node e) plan.hops.items ≡ false → is_loss (get_or plan.hops.items k d).node e ≡ false
        not_one e off = one (cases_Bool (is_loss (get_or plan.hops.items k d).node e)) where
          one : ((is_loss (get_or plan.hops.items k d).node e ≡ true) ⊎ (is_loss (get_or plan.hops.items k d).node e ≡ false)) → is_loss (get_or plan.hops.items k d).node e ≡ false
          one (inr is) = is
          one (inl is) = absurd (false≢true (sym off ∙ list_any_at (λ (g : Hop N). is_loss g.node e) plan.hops.items k d lt is))

    -- so the entry there is voiding for the stripe
    pub void_passes : IsTrue (passes_at shape (history_of s.history) (λ t x. is_voiding t plan.stripe x) at)
    void_passes =
        ap (λ (o : Option Entry). option_map_or (λ (x : Entry). is_voiding (table_at shape (history_of s.history) at) plan.stripe x) o false) item_there
        ∙ or_left (loses_row (table_at shape (history_of s.history) at) plan.stripe (loss_of found.item)) (is_number (dropped_stripe found.item.line.act) plan.stripe) loses
      where
        kept : is_drop found.item ≡ false
        kept = none_at is_drop (history_of s.history) at found.item no_drops item_there

        some : Any (λ (h : Hop N). is_loss h.node found.item ≡ true) plan.hops.items
        some = Any-from_list_any (λ (h : Hop N). is_loss h.node found.item) plan.hops.items (sym (voids_by plan found.item kept) ∙ found.passes)

        live : is_live_on (table_at shape (history_of s.history) at) plan.stripe some.1.row some.1.node ≡ true
        live = subst (λ (h : Hop N). is_live_on (table_at shape (history_of s.history) at) plan.stripe h.row h.node ≡ true) some.3 (live_there some.0 some.1 some.2)

        by_loss : (o : Option ℕ) → is_number o some.1.node ≡ true → loses_row (table_at shape (history_of s.history) at) plan.stripe o ≡ true
        by_loss None is = absurd (false≢true is)
        by_loss (Some m) is =
            let same : m ≡ some.1.node = eqb-true m some.1.node is in
            subst (λ (n : ℕ). list_any (stands_live n) (rows_of (table_at shape (history_of s.history) at) plan.stripe) ≡ true) (sym same)
            (any_here (stands_live some.1.node) (rows_of (table_at shape (history_of s.history) at) plan.stripe) some.1.row live)

        loses : loses_row (table_at shape (history_of s.history) at) plan.stripe (loss_of found.item) ≡ true
        loses = by_loss (loss_of found.item) some.4

    -- and no entry of the hand stands from there on
    pub void_late : items_by v.hand (drop at s.history) ≡ []
    void_late =
        let place : at ≡ length plan.front.items + found.place = omega (arith, found.is, planned.point) in
        let rest_none : items_by v.hand begins.0 ≡ [] =
        ap (items_by v.hand) (sym (ap (λ (n : ℕ). drop n s.history) planned.point ∙ ap (drop (length plan.front.items)) (sym begins.1) ∙ drop_at plan.front.items begins.0 (length plan.front.items) refl))
        ∙ none_after shape told callers spares s v met plan planned begins in
        ap (items_by v.hand) (ap (λ (n : ℕ). drop n s.history) place ∙ ap (drop (length plan.front.items + found.place)) (sym begins.1) ∙ drop_past plan.front.items begins.0 found.place)
        ∙ items_by-drop v.hand begins.0 found.place rest_none

    -- ---- the positions that are kept

    -- one position more behind smaller ones
    rising_more : (xs : List ℕ) (x : ℕ) → IsStrictlyIncreasing xs → All (λ y. y < x) xs → IsStrictlyIncreasing (xs ++ x ∷ [])
    rising_more xs x rising below k within = elim (cases_lt (k + 1) (length xs)) [
      | inl inside ↦
          let first_is : get_or (xs ++ x ∷ []) k 0 ≡ get_or xs k 0 = get_or_append_left xs (x ∷ []) 0 k (omega (arith, inside)) in
          let next_is : get_or (xs ++ x ∷ []) (k + 1) 0 ≡ get_or xs (k + 1) 0 = get_or_append_left xs (x ∷ []) 0 (k + 1) inside in
          let less = rising k inside in
          omega (arith, first_is, next_is, less)
      | inr past ↦
          let last : k + 1 ≡ length xs = omega (arith, past, within, length_push xs x) in
          let first_is : get_or (xs ++ x ∷ []) k 0 ≡ get_or xs k 0 = get_or_append_left xs (x ∷ []) 0 k (omega (arith, last)) in
          let next_is : get_or (xs ++ x ∷ []) (k + 1) 0 ≡ x = ap (λ (n : ℕ). get_or (xs ++ x ∷ []) n 0) last ∙ last_is xs x in
          let less = below k 0 (omega (arith, last)) in
          omega (arith, first_is, next_is, less)
    ]
      where
        last_is : (ys : List ℕ) (y : ℕ) → get_or (ys ++ y ∷ []) (length ys) 0 ≡ y
        last_is [] y = refl
        last_is (z ∷ ys) y = last_is ys y

    -- an entry of the front passes in the whole history
    passes_on : (test : PlainTable → Entry → Bool) (u : ℕ) → u < length plan.front.items → IsTrue (passes_at shape (history_of plan.front.items) test u) → IsTrue (passes_at shape (history_of s.history) test u)
    passes_on test u low is = one (slice_get (history_of plan.front.items) u) refl is where
      same : table_at shape (history_of s.history) u ≡ table_at shape (history_of plan.front.items) u
      same =
          ap (λ (es : List Entry). table_of shape es)
          (ap (λ (es : List Entry). take u es) whole ∙ take-append-le u (history_of plan.front.items) (history_of begins.0) (omega (arith, low, length_told plan.front.items)))

      one : (o : Option Entry) → slice_get (history_of plan.front.items) u ≡ o → option_map_or (test (table_at shape (history_of plan.front.items) u)) o false ≡ true
          → passes_at shape (history_of s.history) test u ≡ true
      one None none h = absurd (false≢true h)
      one (Some e) here h =
          ap (λ (o : Option Entry). option_map_or (test (table_at shape (history_of s.history) u)) o false)
          (ap (λ (es : List Entry). slice_get es u) whole ∙ get_before (history_of plan.front.items) (history_of begins.0) u e here)
          ∙ ap (λ (t : PlainTable). test t e) same ∙ h

    pub voids_more : (new : Voids) → new.len ≡ plan.voids.len + 1 → positions_of new ≡ positions_of plan.voids ++ at ∷ [] → drop new.len new.at ≡ drop (plan.voids.len + 1) plan.voids.at
        → AreVoids shape (λ t x. is_voiding t plan.stripe x) v.hand s.history new
    voids_more new len kept rest_is =
        let long : length plan.front.items ≤ length s.history = prefix_length plan.front.items s.history begins in
        record {
          rising = subst IsStrictlyIncreasing (sym kept) (rising_more (positions_of plan.voids) at planned.voids.rising
              (All-weaker (λ u. u < length plan.front.items) (λ u. u < at) (λ u low. omega (arith, low, void_within.0, planned.point)) (positions_of plan.voids) planned.voids.within));
          within = subst (All (λ u. u < length s.history)) (sym kept)
              (All-push (λ u. u < length s.history) (positions_of plan.voids) at
              (All-weaker (λ u. u < length plan.front.items) (λ u. u < length s.history) (λ u low. omega (arith, low, long)) (positions_of plan.voids) planned.voids.within) void_within.1);
          each = subst (All (λ u. IsTrue (passes_at shape (history_of s.history) (λ t x. is_voiding t plan.stripe x) u))) (sym kept)
              (All-push (λ u. IsTrue (passes_at shape (history_of s.history) (λ t x. is_voiding t plan.stripe x) u)) (positions_of plan.voids) at
              (λ k d lt. passes_on (λ t x. is_voiding t plan.stripe x) (get_or (positions_of plan.voids) k d) (planned.voids.within k d lt) (planned.voids.each k d lt)) void_passes);
          late = subst (All (λ u. items_by v.hand (drop u s.history) ≡ [])) (sym kept)
              (All-push (λ u. items_by v.hand (drop u s.history) ≡ []) (positions_of plan.voids) at
              (λ k d lt. late_on (get_or (positions_of plan.voids) k d) (planned.voids.within k d lt) (planned.voids.late k d lt)) void_late);
          rest = rest_is ∙ rest_more plan.voids.at MAX_ATTEMPTS plan.voids.len planned.voids.rest ∙ ap (λ (n : ℕ). replicate (MAX_ATTEMPTS - n) 0) (sym len);
        }
      where
        late_on : (u : ℕ) → u < length plan.front.items → items_by v.hand (drop u plan.front.items) ≡ [] → items_by v.hand (drop u s.history) ≡ []
        late_on u low none =
            let rest_none : items_by v.hand begins.0 ≡ [] =
            ap (items_by v.hand) (sym (ap (λ (n : ℕ). drop n s.history) planned.point ∙ ap (drop (length plan.front.items)) (sym begins.1) ∙ drop_at plan.front.items begins.0 (length plan.front.items) refl))
            ∙ none_after shape told callers spares s v met plan planned begins in
            ap (items_by v.hand) (ap (drop u) (sym begins.1) ∙ drop-append-le u plan.front.items begins.0 (omega (arith, low)))
            ∙ items_by-append v.hand (drop u plan.front.items) begins.0 ∙ ap (λ (xs : Log). xs ++ items_by v.hand begins.0) none ∙ rest_none
