-- A plan that was made of a catalog and the stamps, by the table that its history makes.
use Rattle.std.proofs.Common.{◌≡◌, ℕ, ◌+◌, ◌-◌, ◌<◌, ◌≤◌, ◌⊎◌, ◌==◌, Bool, true, false, ◌||◌, List, [], ◌∷◌, ◌++◌, length, map, slice_get, Option, Some, None, IsSome, nat_eq, refl, sym, ◌∙◌, ap, subst, arith, inl, inr, append-nil}
use Rattle.std.specs.Prelude.{All, count_by, filter, nat_le, vec_capacity}
use Rattle.std.specs.List.{AllByRecursion, IsDistinct}
use Rattle.std.specs.List.Sorted.{IsStrictlyIncreasing}
use Rattle.std.specs.Option.{option_map_or}
use Rattle.std.proofs.lemmas.Bool.{false≢true, cases_Bool}
use Rattle.std.proofs.lemmas.Bool.Decides.{Decides-eqb, nat_tests}
use Rattle.std.proofs.lemmas.List.{length-map, map-append}
use Rattle.std.proofs.lemmas.List.Elements.{All-weaker, All-map, filter-append, recursion_from_All}
use Rattle.std.proofs.lemmas.List.Kept.{AllPairs-from_increasing}
use Rattle.std.proofs.lemmas.Map.Made.{IsDistinct-from_AllPairs}
use Rattle.ecp_shape.specs.declared.limits.TheConstants.{MAX_ATTEMPTS, MAX_NODES}
use Rattle.ecp_shape.specs.declared.shape.Shape.{Shape}
use Rattle.ecp_shape.specs.Range.{IsInRange}
use Rattle.ecp_book.specs.Logs.{Known, Log}
use Rattle.ecp_entry.specs.declared.deed.Deed.{Deed}
use Rattle.ecp_entry.specs.Told.{history_of, items_by}
use Rattle.ecp_history.specs.declared.table.block_name.BlockName.{BlockName}
use Rattle.ecp_history.specs.declared.table.standing.Standing.{Standing}
use Rattle.ecp_history.specs.Calls.{OfBlock, place_of}
use Rattle.ecp_history.specs.Calls as calling
use Rattle.ecp_history.specs.Follows.{is_voiding}
use Rattle.ecp_history.specs.Fronts.{AreOfBlock, told_table}
use Rattle.ecp_history.specs.Legal.{TellsLegal}
use Rattle.ecp_history.specs.Named.{deed_block}
use Rattle.ecp_history.specs.Plans as sounds
use Rattle.ecp_history.specs.Recoverable.{IsRecoverable}
use Rattle.ecp_history.specs.table.Tables.{HasStripe, PlainTable, Stripe, block, inc_of, is_live, is_live_on, live_rows, rows_of, stripe_of}
use Rattle.ecp_plan.specs.Choice.{IsChoice}
use Rattle.ecp_plan.specs.Plans.{IsNamed, IsSound, plan_seen, route_of}
use Rattle.ecp_plan.specs.declared.hop.Hop.{Hop}
use Rattle.ecp_plan.specs.declared.plan.Plan.{Plan}
use Rattle.ecp_catalog.specs.Standing.{live_among}
use Rattle.ecp_catalog.specs.Catalogs.{CatalogState, is_live_in}
use Rattle.ecp_catalog.specs.Outline.{IsOutline}
use Rattle.ecp_sequencer.specs.Notes.{kind_of, note, says_of}
use Rattle.ecp_sequencer.specs.Facts.{HandFacts, facts_of, room_noted}
use Rattle.ecp_sequencer.specs.Passes.{PassState}
use Rattle.ecp_sequencer.specs.Sequencers.{SequencerState}
use Rattle.ecp_sequencer.specs.Steps.{Event, call_with}
use Rattle.ecp_sequencer.proofs.NoteLaws.{facts-other}
use Rattle.ecp_sequencer.proofs.StepLaws.{steps_whole}
use Rattle.ecp_coord.specs.Attempts.{IsOf, lanes_for}
use Rattle.ecp_coord.specs.Calls.{IsOpen}
use Rattle.ecp_coord.specs.Plans.{AreChosen, IsDue, IsPlanned, block_of, is_recoverable, plan_says, planned, planning_of, plans_noted}
use Rattle.ecp_coord.specs.Voids.{AreVoids}
use Rattle.ecp_coord.proofs.DueLaws.{due_by}
use Rattle.ecp_coord.proofs.HelpLaws.{IsHelper, helpers_are, live_same}

-- a block that can be had is of a stripe that is there
pub has_stripe : (shape : Shape) (t : PlainTable) (b : BlockName) → 1 ≤ shape.k → is_recoverable shape t b ≡ true → HasStripe t b.stripe
has_stripe shape t b some had = one (stripe_of t b.stripe) had where
  one : (o : Option Stripe)
      → (option_map_or (λ (y : Standing). y.live) (slice_get (option_map_or (λ (x : Stripe). x.rows) o []) b.row) false || nat_le shape.k (count_by (λ (y : Standing). y.live) (option_map_or (λ (x : Stripe). x.rows) o []))) ≡ true
      → IsSome o
  one None h =
      let low : nat_le shape.k 0 ≡ false = grind (arith, nat_tests) in
      absurd (false≢true (sym low ∙ h))
  one (Some x) h = refl

-- what a test says of it
pub recoverable : (shape : Shape) (t : PlainTable) (b : BlockName) → is_recoverable shape t b ≡ true → IsRecoverable shape t b.stripe b.row
recoverable shape t b had = one (cases_Bool (is_live t b.stripe b.row)) where
  one : ((is_live t b.stripe b.row ≡ true) ⊎ (is_live t b.stripe b.row ≡ false)) → IsRecoverable shape t b.stripe b.row
  one (inl live) = inl live
  one (inr lost) =
      let more : nat_le shape.k (live_rows t b.stripe) ≡ true = sym (ap (λ (x : Bool). x || nat_le shape.k (live_rows t b.stripe)) lost) ∙ had in
      inr (grind (arith, nat_tests))

-- rising rows are distinct
pub rising_distinct : (rows : List ℕ) → IsStrictlyIncreasing rows → IsDistinct nat_eq rows
rising_distinct rows rising =
    IsDistinct-from_AllPairs {eq = nat_eq} Decides-eqb rows (λ i j d l m same. let less = AllPairs-from_increasing rows rising i j d l m in omega (arith, less, same))

-- the bytes of the helpers are those of their rows
rows_told : {N : Type 0} (t : PlainTable) (s : ℕ) (hops : List (Hop N)) → AllByRecursion (λ h. h.receipt.bytes ≡ block t s h.row) hops
    → map (λ h. h.receipt.bytes) hops ≡ map (block t s) (map (λ h. h.row) hops)
rows_told t s [] all = refl
rows_told t s (h ∷ hops) all =
    ap (λ (b : List ℕ). b ∷ map (λ x. x.receipt.bytes) hops) all.0 ∙ ap (λ (bs : List (List ℕ)). block t s h.row ∷ bs) (rows_told t s hops all.1)

rows_are : {N : Type 0} (shape : Shape) (told : Bool) (t : PlainTable) (plan : Plan N) → All (λ h. AreOfBlock shape told t plan.stripe h.row h.receipt.bytes) plan.hops.items
    → sounds.AreRows shape told t (route_of plan)
rows_are shape true t plan all = rows_told t plan.stripe plan.hops.items (recursion_from_All (λ h. h.receipt.bytes ≡ block t plan.stripe h.row) plan.hops.items all)
rows_are {N} shape false t plan all = (
  length-map plan.hops.items (λ (h : Hop N). h.receipt.bytes) ∙ sym (length-map plan.hops.items (λ (h : Hop N). h.row)),
  All-map (λ b. length b ≡ shape.block) (λ (h : Hop N). h.receipt.bytes) plan.hops.items all,
)

module _ (shape : Shape) (told : Bool) (c : CatalogState) (history : Log) (range : IsInRange shape) (legal : TellsLegal shape told history) (is : IsOutline shape told c (history_of history)) (each : length c.nodes ≡ shape.nodes) where
  module _ {N : Type 0} (stamps : List ℕ) (cyclic : Bool) (plan : Plan N) (made : IsOf c stamps cyclic history plan) where
    pub helpers : All (IsHelper shape told (told_table shape history) plan.stripe) plan.hops.items
    helpers = helpers_are shape told c (history_of history) is each stamps (block_of plan) plan.hops.items made.helped

    same_k : c.shape.k ≡ shape.k
    same_k = ap (λ (z : Shape). z.k) is.sizes

    -- the helpers make the row
    sums : sounds.IsSum shape plan.row (map (λ h. h.row) plan.hops.items) (map (λ h. h.weight) plan.hops.items)
        ⊎ sounds.IsDirect plan.row (map (λ h. h.row) plan.hops.items) (map (λ h. h.weight) plan.hops.items)
    sums = by_case (cases_Bool (is_live_in c plan.stripe plan.row)) where
      by_case : ((is_live_in c plan.stripe plan.row ≡ true) ⊎ (is_live_in c plan.stripe plan.row ≡ false))
          → sounds.IsSum shape plan.row (map (λ h. h.row) plan.hops.items) (map (λ h. h.weight) plan.hops.items)
          ⊎ sounds.IsDirect plan.row (map (λ h. h.row) plan.hops.items) (map (λ h. h.weight) plan.hops.items)
      by_case (inl live) = let d = made.helped.helps.direct live in inr (record { itself = d.0; weighted = d.1 })
      by_case (inr lost) =
          let o = made.helped.helps.others lost in
          inl (record { count = o.0.count ∙ same_k; distinct = rising_distinct (map (λ h. h.row) plan.hops.items) o.0.rising; weighted = o.1 })

    one_or_each : (plan.lanes ≡ 1) ⊎ (plan.lanes ≡ length (map (λ h. h.row) plan.hops.items))
    one_or_each = by_case cyclic made.lanes where
      by_case : (b : Bool) → plan.lanes ≡ lanes_for b (length plan.hops.items) → (plan.lanes ≡ 1) ⊎ (plan.lanes ≡ length (map (λ h. h.row) plan.hops.items))
      by_case true lanes = inr (lanes ∙ sym (length-map plan.hops.items (λ (h : Hop N). h.row)))
      by_case false lanes = inl lanes

    pub made_sound : plan.row < shape.n → plan.block ≡ shape.block → 1 ≤ plan.slice → plan.slice ≤ shape.block → is_recoverable shape (told_table shape history) (block_of plan) ≡ true
        → IsSound shape told plan
    made_sound row len some short had =
        let hops : List (Hop N) = plan.hops.items in
        let t : PlainTable = told_table shape history in
        let sound : sounds.IsSoundPlan shape told history (plan_seen plan) = record {
          in_range = range;
          of_row = row;
          helpers = record {
            legal = legal;
            known = record {
              there = has_stripe shape t (block_of plan) range.data_rows had;
              in_stripe = All-map (λ r. r < shape.n) (λ (h : Hop N). h.row) hops (All-weaker (IsHelper shape told t plan.stripe) (λ h. h.row < shape.n) (λ h x. x.in_stripe) hops helpers);
              one_each = length-map hops (λ (h : Hop N). h.node) ∙ sym (length-map hops (λ (h : Hop N). h.row));
              on_nodes = All-map (λ m. m < shape.nodes) (λ (h : Hop N). h.node) hops (All-weaker (IsHelper shape told t plan.stripe) (λ h. h.node < shape.nodes) (λ h x. x.on_node) hops helpers);
              named = rows_are shape told t plan (All-weaker (IsHelper shape told t plan.stripe) (λ h. AreOfBlock shape told t plan.stripe h.row h.receipt.bytes) (λ h x. x.bytes) hops helpers);
            };
          };
          makes = sums;
          len_is = len;
          some = some;
          within = omega (arith, short, len);
          lanes_are = one_or_each;
        } in
        record {
          front = ap (λ (k : Known). k.log) made.front;
          sound = subst (λ (front : Log). sounds.IsSoundPlan shape told front (plan_seen plan)) (sym (ap (λ (k : Known). k.items) made.front)) sound;
          named = All-weaker (IsHelper shape told t plan.stripe) (IsNamed plan.stripe) (λ h x. x.named) hops helpers;
        }

    pub made_chosen : AreChosen shape (told_table shape history) stamps cyclic plan
    made_chosen =
        let t : PlainTable = told_table shape history in
        let rows : List ℕ = map (λ (h : Hop N). h.row) plan.hops.items in
        let same = live_same shape told c (history_of history) is plan.stripe plan.row in
        record {
          direct = λ live. (made.helped.helps.direct (same ∙ live)).0;
          others = λ lost.
              subst (λ (k : ℕ). IsChoice stamps (live_among (rows_of t plan.stripe)) k rows) same_k
              (subst (λ (xs : List Standing). IsChoice stamps (live_among xs) c.shape.k rows) (is.rows plan.stripe) (made.helped.helps.others (same ∙ lost)).0);
          lanes = made.lanes;
          incs = All-weaker (IsHelper shape told t plan.stripe) (λ h. h.inc ≡ inc_of t h.node) (λ h x. x.inc) plan.hops.items helpers;
        }

    -- no helper is on a node past the last
    pub made_stamped : All (λ h. h.node < MAX_NODES) plan.hops.items
    made_stamped = All-weaker (IsHelper shape told (told_table shape history) plan.stripe) (λ h. h.node < MAX_NODES) (λ h x. omega (arith, x.on_node, range.few)) plan.hops.items helpers

    pub made_live : All (λ h. is_live_on (told_table shape plan.front.items) plan.stripe h.row h.node ≡ true) plan.hops.items
    made_live =
        subst (λ (front : Log). All (λ (h : Hop N). is_live_on (told_table shape front) plan.stripe h.row h.node ≡ true) plan.hops.items) (sym (ap (λ (k : Known). k.items) made.front))
        (All-weaker (IsHelper shape told (told_table shape history) plan.stripe) (λ h. is_live_on (told_table shape history) plan.stripe h.row h.node ≡ true) (λ h x. x.live) plan.hops.items helpers)

-- ---- a plan that was noted

-- a note of a plan is behind those before it
planned-more : {N : Type 0} (was : Log) (point room : ℕ) (plan : Plan N) → plans_noted (was ++ note point room (planning_of plan) ∷ []) ≡ plans_noted was ++ plan_says plan ∷ []
planned-more was point room plan =
    let x : List ℕ = note point room (planning_of plan) in
    ap (λ (f : HandFacts). map says_of (filter (λ y. kind_of y == planned) f.since)) (facts-other was point room (planning_of plan) (omega arith))
    ∙ ap (λ (xs : Log). map says_of xs) (filter-append (λ y. kind_of y == planned) (facts_of was).since (x ∷ []))
    ∙ map-append says_of (filter (λ y. kind_of y == planned) (facts_of was).since) (x ∷ [])

-- what a plan is beside its notes
pub record IsFit (shape : Shape) (told : Bool) (asked : Deed) (v : PassState) {N : Type 0} (plan : Plan N) : Type 0 where
  pub sound : IsSound shape told plan
  pub of_block : OfBlock (calling.kind_of (Some asked)) (place_of plan.part)
  pub due : IsDue shape v asked plan.part plan.front.items
  pub block : deed_block shape (told_table shape plan.front.items) plan.part (Some asked) ≡ Some (block_of plan)
  pub recoverable : IsRecoverable shape (told_table shape plan.front.items) plan.stripe plan.row
  pub attempt : plan.attempt ≡ plan.voids.len + 1
  pub most : plan.attempt ≤ MAX_ATTEMPTS
  pub voids : AreVoids shape (λ t x. is_voiding t plan.stripe x) v.hand plan.front.items plan.voids
  pub fits : shape.k ≤ vec_capacity plan.hops
  pub live : All (λ h. is_live_on (told_table shape plan.front.items) plan.stripe h.row h.node ≡ true) plan.hops.items
  pub onto : plan.to ≡ None

module _ (shape : Shape) (told : Bool) (s t : SequencerState) (v w : PassState) (asked : Deed) (room : ℕ) {N : Type 0} (plan : Plan N) where
  pub planned_is : Event shape told s v [] (note (length s.history) room (planning_of plan) ∷ []) t w → w.calls ≡ v.calls → IsOpen v asked → 1 ≤ room → MAX_ATTEMPTS + 3 ≤ room + plan.attempt
      → plan.front.items ≡ s.history → plan.point ≡ length s.history → IsFit shape told asked v plan → IsPlanned shape told w plan
  planned_is event calls open_call some enough front point fit =
      let noted : Log = v.notes ++ note (length s.history) room (planning_of plan) ∷ [] in
      let facts = ap (λ (ns : Log). facts_of ns) event.steps.noted ∙ facts-other v.notes (length s.history) room (planning_of plan) (omega arith) in
      let roomed : room_noted w.notes ≡ room = ap (λ (f : HandFacts). f.room) facts in
      record {
        asked = asked;
        is_open = record {
          whole = steps_whole v w [] (note (length s.history) room (planning_of plan) ∷ []) event.steps open_call.whole;
          begun = omega (arith, open_call.begun, calls);
          call = ap (λ (f : HandFacts). f.call) facts ∙ open_call.call ∙ ap (λ (n : ℕ). Some (call_with (n - 1) asked)) (sym calls);
          room = omega (arith, roomed, some);
        };
        last = (plans_noted v.notes, ap (λ (ns : Log). plans_noted ns) event.steps.noted ∙ planned-more v.notes (length s.history) room plan);
        sound = fit.sound;
        of_block = fit.of_block;
        due = due_by shape v w asked plan.part plan.front.items event.steps.caller calls fit.due;
        block = fit.block;
        recoverable = fit.recoverable;
        point = point ∙ ap (λ (xs : Log). length xs) (sym front);
        own = ap (λ (h : ℕ). items_by h plan.front.items) event.steps.hand
            ∙ ap (items_by v.hand) (front ∙ sym (event.front ∙ event.history ∙ append-nil s.history)) ∙ event.steps.settled;
        attempt = fit.attempt;
        most = fit.most;
        voids = subst (λ (h : ℕ). AreVoids shape (λ u x. is_voiding u plan.stripe x) h plan.front.items plan.voids) (sym event.steps.hand) fit.voids;
        room = omega (arith, roomed, enough);
        fits = fit.fits;
        live = fit.live;
        onto = fit.onto;
      }
