-- The history of the tests is legal and has the file's stripe, and their plans are sound by it.
use Rattle.std.proofs.Common.{◌≡◌, ℕ, zero, suc, ◌^◌, ◌<◌, ◌≤◌, Bool, true, List, [], ◌∷◌, length, map, refl, sym, ap, subst, arith, true≢false, inl, inr, nat_eq}
use Rattle.std.specs.Prelude.{All}
use Rattle.std.specs.List.{IsDistinct}
use Rattle.std.proofs.lemmas.Bool.{false≢true}
use Rattle.std.proofs.lemmas.List.Elements.{All-nil, All-cons}
use Rattle.ecp_field.specs.Field.{carryless_product, reduced, byte_product, byte_quotient}
use Rattle.ecp_field.specs.Lists.{AreBytes}
use Rattle.ecp_code.specs.Stripes.{stripes}
use Rattle.ecp_code.specs.Weights.{weights}
use Rattle.ecp_shape.specs.Range.{IsInRange}
use Rattle.ecp_shape.specs.declared.limits.TheConstants.{MAX_BLOCK}
use Rattle.ecp_shape.specs.declared.shape.Shape.{Shape}
use Rattle.ecp_entry.proofs.ToldLaws.{history_of-more}
use Rattle.ecp_history.specs.Fronts.{told_table}
use Rattle.ecp_history.specs.Legal.{MayFollow, TellsLegal}
use Rattle.ecp_history.specs.Plans as history
use Rattle.ecp_history.specs.table.Tables.{PlainTable, HasStripe, block}
use Rattle.ecp_history.specs.table.Steps.{table_of}
use Rattle.ecp_history.proofs.FrontLaws.{legal_none, legal_more}
use Rattle.ecp_book.specs.Logs.{Known, history_log}
use Rattle.ecp_node.specs.Receipts.{ReceiptState}
use Rattle.ecp_plan.specs.Plans as plans
use Rattle.ecp_plan.specs.declared.hop.Hop.{Hop}
use Rattle.ecp_plan.specs.declared.plan.Plan.{Plan}
use Rattle.ecp_slice.specs.OneFile.{three_rows, stores_file, file_item, IsReceiptOf}

-- ---- the history

-- the file may be stored first
may_store : (size : ℕ) (told : Bool) (bytes : List ℕ) → 1 ≡ length (stripes 2 size bytes) → MayFollow (three_rows size) told [] (stores_file bytes)
may_store size told bytes one = record {
  point = record { late = omega arith; early = omega arith; own = λ back. absurd (true≢false back) };
  agrees = record { call = (refl, refl); caller = omega arith; name = refl; bytes = refl };
  part = λ refusal. absurd (false≢true refusal);
  holds = record { free = refl; counted = one; fresh = λ s from below. refl; mask = refl; enough = omega arith; steady = λ node up. refl };
}

pub legal : (size : ℕ) (told : Bool) (bytes : List ℕ) → 1 ≡ length (stripes 2 size bytes) → AreBytes bytes → TellsLegal (three_rows size) told (file_item bytes ∷ [])
legal size told bytes one bytes_are =
    legal_more (three_rows size) told [] 0 (stores_file bytes) (legal_none (three_rows size) told) (may_store size told bytes one) (λ stored. bytes_are)

-- bytes one by one
no_bytes : AreBytes []
no_bytes zero = omega arith
no_bytes (suc k) = omega arith

byte_more : (x : ℕ) (xs : List ℕ) → x < 2 ^ 8 → AreBytes xs → AreBytes (x ∷ xs)
byte_more x xs low are zero = low
byte_more x xs low are (suc k) = are k

-- the sizes are in their range
rows_in_range : (size : ℕ) → 1 ≤ size → size ≤ MAX_BLOCK → IsInRange (three_rows size)
rows_in_range size some short = record {
  data_rows = omega arith;
  parity_rows = omega arith;
  at_most = omega arith;
  enough = omega arith;
  few = omega arith;
  some = some;
  short = short;
}

-- the table that its item tells is that of the entry
pub told_is : (size : ℕ) (bytes : List ℕ) → told_table (three_rows size) (file_item bytes ∷ []) ≡ table_of (three_rows size) (stores_file bytes ∷ [])
told_is size bytes = ap (table_of (three_rows size)) (history_of-more [] 0 (stores_file bytes))

-- a plan with these fields is sound, where its receipts are those of its rows
sound_as : {N : Type 0} (shape : Shape) (told : Bool) (plan : Plan N) (telling : Bool) (bytes : List ℕ) (size : ℕ) (seen : history.Plan) → shape ≡ three_rows size → told ≡ telling
    → plan.front ≡ record { log = history_log; items = file_item bytes ∷ [] } → plans.plan_seen plan ≡ seen → history.IsSoundPlan (three_rows size) telling (file_item bytes ∷ []) seen
    → All (plans.IsNamed plan.stripe) plan.hops.items → plans.IsSound shape told plan
sound_as shape told plan telling bytes size seen shape_is told_so front plan_is sound named = record {
  front = ap (λ (t : Known). t.log) front;
  sound =
      subst (λ (s : Shape). history.IsSoundPlan s told plan.front.items (plans.plan_seen plan)) (sym shape_is)
      (subst (λ (b : Bool). history.IsSoundPlan (three_rows size) b plan.front.items (plans.plan_seen plan)) (sym told_so)
      (subst (λ (items : List (List ℕ)). history.IsSoundPlan (three_rows size) telling items (plans.plan_seen plan)) (sym (ap (λ (t : Known). t.items) front))
      (subst (history.IsSoundPlan (three_rows size) telling (file_item bytes ∷ [])) (sym plan_is) sound)));
  named = named;
}

-- ---- the plan by two rows of data 41 and 42

abbrev pub two_bytes : List ℕ
two_bytes = 0x41 ∷ 0x42 ∷ []

two_bytes_are : AreBytes two_bytes
two_bytes_are = byte_more 0x41 (0x42 ∷ []) (omega arith) (byte_more 0x42 [] (omega arith) no_bytes)

-- its table, with blocks of so many bytes
abbrev pub two_table : ℕ → PlainTable
two_table size = table_of (three_rows size) (stores_file two_bytes ∷ [])

-- rows 1 and 2, on node 1 and this one
abbrev pub two_route : ℕ → List ℕ → List ℕ → history.Route
two_route m a b = record { stripe = 0; rows = 1 ∷ 2 ∷ []; nodes = 1 ∷ m ∷ []; bytes = a ∷ b ∷ [] }

abbrev by_two : ℕ → ℕ → List ℕ → List ℕ → history.Plan
by_two size m a b = record { target = 0; route = two_route m a b; weights = 0xf5 ∷ 0xf4 ∷ []; len = size; slice = size; lanes = 1 }

pub two_rows : history.AreRows (three_rows 1) true (two_table 1) (two_route 2 (0x42 ∷ []) (0x47 ∷ []))
unfolding carryless_product reduced byte_product byte_quotient
two_rows = refl

two_weights : 0xf5 ∷ 0xf4 ∷ [] ≡ weights (1 ∷ 2 ∷ []) 0
unfolding carryless_product reduced byte_product byte_quotient
two_weights = refl

two_apart : IsDistinct nat_eq (1 ∷ 2 ∷ [])
unfolding IsDistinct
two_apart = ((refl, tt), (tt, tt))

both_low : (a b : ℕ) → a < 3 → b < 3 → All (λ n. n < 3) (a ∷ b ∷ [])
both_low a b low_a low_b = All-cons (λ n. n < 3) a (b ∷ []) low_a (All-cons (λ n. n < 3) b [] low_b (All-nil (λ n. n < 3)))

two_sound : (telling : Bool) (size m : ℕ) (a b : List ℕ) → 1 ≤ size → size ≤ MAX_BLOCK → m < 3 → 1 ≡ length (stripes 2 size two_bytes) → HasStripe (two_table size) 0
    → history.AreRows (three_rows size) telling (two_table size) (two_route m a b) → history.IsSoundPlan (three_rows size) telling (file_item two_bytes ∷ []) (by_two size m a b)
two_sound telling size m a b some short low one there named = record {
  in_range = rows_in_range size some short;
  of_row = omega arith;
  helpers = record {
    legal = legal size telling two_bytes one two_bytes_are;
    known = subst (λ (t : PlainTable). history.IsRoute (three_rows size) telling t (two_route m a b)) (sym (told_is size two_bytes))
        (record { there = there; in_stripe = both_low 1 2 (omega arith) (omega arith); one_each = refl; on_nodes = both_low 1 m (omega arith) low; named = named });
  };
  makes = inl (record { count = refl; distinct = two_apart; weighted = two_weights });
  len_is = refl;
  some = some;
  within = omega arith;
  lanes_are = inl refl;
}

abbrev pub two_hops : {N : Type 0} → ℕ → ReceiptState → ReceiptState → List (Hop N)
two_hops m one two = record { row = 1; node = 1; inc = 0; weight = 0xf5; receipt = one } ∷ record { row = 2; node = m; inc = 0; weight = 0xf4; receipt = two } ∷ []

pub sound_by_two : {N : Type 0} (shape : Shape) (told : Bool) (plan : Plan N) (telling : Bool) (size m : ℕ) (one two : ReceiptState) → shape ≡ three_rows size → told ≡ telling
    → plan.front ≡ record { log = history_log; items = file_item two_bytes ∷ [] } → plan.stripe ≡ 0 → plan.row ≡ 0 → plan.lanes ≡ 1 → plan.block ≡ size → plan.slice ≡ size
    → plan.hops.items ≡ two_hops m one two → IsReceiptOf one 1 1 one.bytes → IsReceiptOf two 2 m two.bytes
    → 1 ≤ size → size ≤ MAX_BLOCK → m < 3 → 1 ≡ length (stripes 2 size two_bytes) → HasStripe (two_table size) 0
    → history.AreRows (three_rows size) telling (two_table size) (two_route m one.bytes two.bytes) → plans.IsSound shape told plan
sound_by_two {N} shape told plan telling size m one two shape_is told_so front stripe row lanes block_is slice_is hops is_one is_two some short low whole there named =
    let rows : map (λ hop. hop.row) plan.hops.items ≡ 1 ∷ 2 ∷ [] = ap (map (λ hop. hop.row)) hops in
    let nodes : map (λ hop. hop.node) plan.hops.items ≡ 1 ∷ m ∷ [] = ap (map (λ hop. hop.node)) hops in
    let ws : map (λ hop. hop.weight) plan.hops.items ≡ 0xf5 ∷ 0xf4 ∷ [] = ap (map (λ hop. hop.weight)) hops in
    let bytes : map (λ hop. hop.receipt.bytes) plan.hops.items ≡ one.bytes ∷ two.bytes ∷ [] = ap (map (λ hop. hop.receipt.bytes)) hops in
    let seen : plans.plan_seen plan ≡ by_two size m one.bytes two.bytes = cc in
    let receipts : All (plans.IsNamed {N = N} 0) (two_hops m one two) =
    All-cons (plans.IsNamed {N = N} 0) (record { row = 1; node = 1; inc = 0; weight = 0xf5; receipt = one }) (record { row = 2; node = m; inc = 0; weight = 0xf4; receipt = two } ∷ [])
    (record { of_stripe = is_one.stripe; of_row = is_one.row; of_node = is_one.node })
    (All-cons (plans.IsNamed {N = N} 0) (record { row = 2; node = m; inc = 0; weight = 0xf4; receipt = two }) [] (record { of_stripe = is_two.stripe; of_row = is_two.row; of_node = is_two.node }) (All-nil (plans.IsNamed {N = N} 0))) in
    sound_as shape told plan telling two_bytes size (by_two size m one.bytes two.bytes) shape_is told_so front seen (two_sound telling size m one.bytes two.bytes some short low whole there named)
    (subst (λ (n : ℕ). All (plans.IsNamed {N = N} n) plan.hops.items) (sym stripe) (subst (All (plans.IsNamed {N = N} 0)) (sym hops) receipts))

-- ---- the plan by row 1 itself of ten bytes

abbrev ten_bytes : List ℕ
ten_bytes = 1 ∷ 2 ∷ 3 ∷ 4 ∷ 5 ∷ 6 ∷ 7 ∷ 8 ∷ 9 ∷ 10 ∷ []

ten_bytes_are : AreBytes ten_bytes
ten_bytes_are =
    byte_more 1 (2 ∷ 3 ∷ 4 ∷ 5 ∷ 6 ∷ 7 ∷ 8 ∷ 9 ∷ 10 ∷ []) (omega arith) (byte_more 2 (3 ∷ 4 ∷ 5 ∷ 6 ∷ 7 ∷ 8 ∷ 9 ∷ 10 ∷ []) (omega arith) (byte_more 3 (4 ∷ 5 ∷ 6 ∷ 7 ∷ 8 ∷ 9 ∷ 10 ∷ []) (omega arith) (byte_more 4 (5 ∷ 6 ∷ 7 ∷ 8 ∷ 9 ∷ 10 ∷ []) (omega arith) (byte_more 5 (6 ∷ 7 ∷ 8 ∷ 9 ∷ 10 ∷ []) (omega arith) (byte_more 6 (7 ∷ 8 ∷ 9 ∷ 10 ∷ []) (omega arith) (byte_more 7 (8 ∷ 9 ∷ 10 ∷ []) (omega arith) (byte_more 8 (9 ∷ 10 ∷ []) (omega arith) (byte_more 9 (10 ∷ []) (omega arith) (byte_more 10 [] (omega arith) no_bytes)))))))))

abbrev itself : history.Plan
itself = record {
  target = 1;
  route = record { stripe = 0; rows = 1 ∷ []; nodes = 1 ∷ []; bytes = (6 ∷ 7 ∷ 8 ∷ 9 ∷ 10 ∷ []) ∷ [] };
  weights = 1 ∷ [];
  len = 5;
  slice = 2;
  lanes = 1;
}

own_row : itself.route.bytes ≡ map (block (table_of (three_rows 5) (stores_file ten_bytes ∷ [])) 0) (1 ∷ [])
unfolding carryless_product reduced byte_product byte_quotient
own_row = refl

just_one : All (λ n. n < 3) (1 ∷ [])
just_one = All-cons (λ n. n < 3) 1 [] (omega arith) (All-nil (λ n. n < 3))

itself_sound : history.IsSoundPlan (three_rows 5) true (file_item ten_bytes ∷ []) itself
itself_sound = record {
  in_range = rows_in_range 5 (omega arith) (omega arith);
  of_row = omega arith;
  helpers = record {
    legal = legal 5 true ten_bytes refl ten_bytes_are;
    known = subst (λ (t : PlainTable). history.IsRoute (three_rows 5) true t itself.route) (sym (told_is 5 ten_bytes))
        (record { there = refl; in_stripe = just_one; one_each = refl; on_nodes = just_one; named = own_row });
  };
  makes = inr (record { itself = refl; weighted = refl });
  len_is = refl;
  some = omega arith;
  within = omega arith;
  lanes_are = inl refl;
}

pub sound_by_itself : {N : Type 0} (shape : Shape) (told : Bool) (plan : Plan N) (receipt : ReceiptState) → shape ≡ three_rows 5 → told ≡ true
    → plan.front ≡ record { log = history_log; items = file_item ten_bytes ∷ [] } → plan.stripe ≡ 0 → plan.row ≡ 1 → plan.lanes ≡ 1 → plan.block ≡ 5 → plan.slice ≡ 2
    → plan.hops.items ≡ record { row = 1; node = 1; inc = 0; weight = 1; receipt = receipt } ∷ [] → IsReceiptOf receipt 1 1 (6 ∷ 7 ∷ 8 ∷ 9 ∷ 10 ∷ []) → plans.IsSound shape told plan
sound_by_itself {N} shape told plan receipt shape_is telling front stripe row lanes size slice hops is =
    let rows : map (λ hop. hop.row) plan.hops.items ≡ 1 ∷ [] = ap (map (λ hop. hop.row)) hops in
    let nodes : map (λ hop. hop.node) plan.hops.items ≡ 1 ∷ [] = ap (map (λ hop. hop.node)) hops in
    let ws : map (λ hop. hop.weight) plan.hops.items ≡ 1 ∷ [] = ap (map (λ hop. hop.weight)) hops in
    let bytes : map (λ hop. hop.receipt.bytes) plan.hops.items ≡ receipt.bytes ∷ [] = ap (map (λ hop. hop.receipt.bytes)) hops in
    let seen : plans.plan_seen plan ≡ itself = cc (is.bytes) in
    let named : All (plans.IsNamed {N = N} 0) (record { row = 1; node = 1; inc = 0; weight = 1; receipt = receipt } ∷ []) =
    All-cons (plans.IsNamed {N = N} 0) (record { row = 1; node = 1; inc = 0; weight = 1; receipt = receipt }) [] (record { of_stripe = is.stripe; of_row = is.row; of_node = is.node }) (All-nil (plans.IsNamed {N = N} 0)) in
    sound_as shape told plan true ten_bytes 5 itself shape_is telling front seen itself_sound
    (subst (λ (n : ℕ). All (plans.IsNamed {N = N} n) plan.hops.items) (sym stripe) (subst (All (plans.IsNamed {N = N} 0)) (sym hops) named))
