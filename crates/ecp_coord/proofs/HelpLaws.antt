-- The helpers of a plan, by a catalog that is the outline of a history.
use Rattle.std.proofs.Common.{◌≡◌, ℕ, ◌-◌, ◌*◌, ◌<◌, ◌≤◌, ◌⊎◌, ◌==◌, Bool, true, false, ◌&&◌, ◌||◌, List, [], ◌∷◌, length, map, drop, get_or, slice_get, Option, Some, None, IsSome, nat_eq, refl, sym, ◌∙◌, ap, subst, arith, inl, inr, length-take}
use Rattle.std.specs.Prelude.{All, Contains, count_by, nat_le, option_map}
use Rattle.std.specs.List.{IsDistinct}
use Rattle.std.specs.Option.{option_map_or}
use Rattle.std.proofs.lemmas.Bool.{false≢true, and_parts, cases_Bool, eqb-true, eq-eqb}
use Rattle.std.proofs.lemmas.Bool.Decides.{nat_tests}
use Rattle.std.proofs.lemmas.Option.{slice_get_within, slice_get-map}
use Rattle.std.proofs.lemmas.List.{length-map, get_or-map}
use Rattle.std.proofs.lemmas.List.Elements.{All-nil, All-cons, All-same, All-weaker, All-map, All-contains}
use Rattle.ecp_shape.specs.declared.limits.TheConstants.{MAX_NODES}
use Rattle.ecp_shape.specs.declared.shape.Shape.{Shape}
use Rattle.ecp_shape.specs.Range.{IsInRange}
use Rattle.ecp_node.specs.Receipts.{ReceiptState}
use Rattle.ecp_entry.specs.declared.entry.Entry.{Entry}
use Rattle.ecp_history.specs.declared.table.block_name.BlockName.{BlockName}
use Rattle.ecp_history.specs.declared.table.node.Node.{Node}
use Rattle.ecp_history.specs.declared.table.standing.Standing.{Standing}
use Rattle.ecp_history.specs.Fronts.{AreOfBlock}
use Rattle.ecp_history.specs.Legal.{IsLegal}
use Rattle.ecp_history.specs.table.Steps.{table_of}
use Rattle.ecp_history.specs.table.Tables.{PlainTable, inc_of, is_live, is_live_on, is_up, live_rows, rows_of, stands_live}
use Rattle.ecp_plan.specs.Plans.{IsNamed}
use Rattle.ecp_plan.specs.declared.hop.Hop.{Hop}
use Rattle.ecp_plan.specs.declared.live_row.LiveRow.{LiveRow}
use Rattle.ecp_catalog.specs.Standing.{FileSeen, file_with, is_up_in, live_among, rows_in, standing}
use Rattle.ecp_catalog.specs.Catalogs.{CatalogState, NodeSeen, is_live_in, plain, receipts_of, standings_of}
use Rattle.ecp_catalog.specs.Outline.{IsOutline, IsReceiptOf}
use Rattle.ecp_catalog.proofs.AnswerLaws.{length-live_among, live_rows_there}
use Rattle.ecp_catalog.proofs.ApartLaws.{all_apart, distinct_nodes}
use Rattle.ecp_coord.specs.Helping.{CanHelp, Helps, IsGiven, IsHelped}
use Rattle.ecp_coord.specs.Plans.{is_recoverable}

-- ---- what is live in a catalog

-- a live row has a receipt
pub live_receipt : (c : CatalogState) (s r : ℕ) → is_live_in c s r ≡ true → IsSome (slice_get (receipts_of c s) r)
live_receipt c s r live =
    one (slice_get (receipts_of c s) r) (ap (λ (o : Option Standing). option_map_or (λ x. x.live) o false) (sym (slice_get-map (standing (plain c).nodes) (receipts_of c s) r)) ∙ live) where
      one : (o : Option ReceiptState) → option_map_or (λ (x : Standing). x.live) (option_map (standing (plain c).nodes) o) false ≡ true → IsSome o
      one None h = absurd (false≢true h)
      one (Some x) h = refl

-- the rows that help are live
pub helpers_live : (c : CatalogState) (stamps : List ℕ) (b : BlockName) (rows ws : List ℕ) → Helps c stamps b rows ws → All (λ r. is_live_in c b.stripe r ≡ true) rows
helpers_live c stamps b rows ws helps = by_case (cases_Bool (is_live_in c b.stripe b.row)) where
  by_case : ((is_live_in c b.stripe b.row ≡ true) ⊎ (is_live_in c b.stripe b.row ≡ false)) → All (λ r. is_live_in c b.stripe r ≡ true) rows
  by_case (inl live) =
      All-same (λ r. is_live_in c b.stripe r ≡ true) rows (b.row ∷ []) (helps.direct live).0
      (All-cons (λ r. is_live_in c b.stripe r ≡ true) b.row [] live (All-nil (λ r. is_live_in c b.stripe r ≡ true)))
  by_case (inr lost) =
      let live : List LiveRow = live_among (standings_of c b.stripe) in
      let all : All (λ r. is_live_in c b.stripe r ≡ true) (map (λ x. x.row) live) =
      All-map (λ r. is_live_in c b.stripe r ≡ true) (λ (x : LiveRow). x.row) live
      (All-weaker (λ x. (x.row < c.shape.n) × (is_live_in c b.stripe x.row ≡ true) × (is_up (plain c) x.node ≡ true)) (λ x. is_live_in c b.stripe x.row ≡ true) (λ x h. h.1) live (live_rows_there c b.stripe)) in
      All-weaker (Contains (map (λ x. x.row) live)) (λ r. is_live_in c b.stripe r ≡ true)
      (λ r h. All-contains (λ r. is_live_in c b.stripe r ≡ true) (map (λ x. x.row) live) r all h) rows ((helps.others lost).0).among

-- ---- a helper, by the table

-- the row is live on its node, which is there in this incarnation, and its receipt is that of the row
pub record IsHelper (shape : Shape) (told : Bool) (t : PlainTable) (s : ℕ) {N : Type 0} (h : Hop N) : Type 0 where
  pub in_stripe : h.row < shape.n
  pub on_node : h.node < shape.nodes
  pub live : is_live_on t s h.row h.node ≡ true
  pub inc : h.inc ≡ inc_of t h.node
  pub named : IsNamed s h
  pub bytes : AreOfBlock shape told t s h.row h.receipt.bytes

few_receipts : (c : CatalogState) (s : ℕ) → length (receipts_of c s) ≤ c.shape.n
few_receipts c s = few (file_with c.files s) where
  few : (o : Option FileSeen) → length (option_map_or (rows_in c.shape.n s) o []) ≤ c.shape.n
  few None = omega arith
  few (Some f) = omega (arith, length-take c.shape.n (drop ((s - f.file.first) * c.shape.n) f.rows))

-- a node that is up in an incarnation is there, and that is its incarnation
up_there : (nodes : List Node) (m inc : ℕ) → option_map_or (is_up_in inc) (slice_get nodes m) false ≡ true → (m < length nodes) × (inc ≡ option_map_or (λ x. x.inc) (slice_get nodes m) 0)
up_there nodes m inc up = one (slice_get nodes m) refl up where
  one : (o : Option Node) → slice_get nodes m ≡ o → option_map_or (is_up_in inc) o false ≡ true → (m < length nodes) × (inc ≡ option_map_or (λ x. x.inc) o 0)
  one None is h = absurd (false≢true h)
  one (Some y) is h = (slice_get_within nodes m y is, sym (eqb-true y.inc inc (and_parts y.up (y.inc == inc) h).1))

-- what the catalog says of a block is what the table says
pub live_same : (shape : Shape) (told : Bool) (c : CatalogState) (history : List Entry) → IsOutline shape told c history → (s r : ℕ) → is_live_in c s r ≡ is_live (table_of shape history) s r
live_same shape told c history is s r = ap (λ (xs : List Standing). option_map_or (λ x. x.live) (slice_get xs r) false) (is.rows s)

pub count_same : (shape : Shape) (told : Bool) (c : CatalogState) (history : List Entry) → IsOutline shape told c history → (s : ℕ) → length (live_among (standings_of c s)) ≡ live_rows (table_of shape history) s
count_same shape told c history is s = length-live_among (standings_of c s) ∙ ap (λ (xs : List Standing). count_by (λ x. x.live) xs) (is.rows s)

module _ (shape : Shape) (told : Bool) (c : CatalogState) (history : List Entry) (is : IsOutline shape told c history) (each : length c.nodes ≡ shape.nodes) where
  helper_is : {N : Type 0} (s : ℕ) (h : Hop N) → IsGiven c s h → is_live_in c s h.row ≡ true → IsHelper shape told (table_of shape history) s h
  helper_is s h given live =
      let t : PlainTable = table_of shape history in
      let x : ReceiptState = h.receipt in
      let nodes : List Node = (plain c).nodes in
      let y : Standing = standing nodes x in
      let stands : slice_get (standings_of c s) h.row ≡ Some y = slice_get-map (standing nodes) (receipts_of c s) h.row ∙ ap (option_map (standing nodes)) given.receipt in
      let alive : y.live ≡ true = ap (λ (o : Option Standing). option_map_or (λ z. z.live) o false) (sym stands) ∙ live in
      let row : slice_get (rows_of t s) h.row ≡ Some y = ap (λ (ys : List Standing). slice_get ys h.row) (sym (is.rows s)) ∙ stands in
      let up : (x.node < length nodes) × (x.inc ≡ option_map_or (λ z. z.inc) (slice_get nodes x.node) 0) = up_there nodes x.node x.inc alive in
      let own : x.node == x.node ≡ true = eq-eqb x.node x.node refl in
      let on : is_live_on t s h.row x.node ≡ true =
      ap (λ (o : Option Standing). option_map_or (stands_live x.node) o false) row ∙ ap (λ (b : Bool). b && (x.node == x.node)) alive ∙ own in
      let receipt : IsReceiptOf shape told t s h.row x = is.receipts s h.row x given.receipt in
      record {
        in_stripe = omega (arith, slice_get_within (receipts_of c s) h.row x given.receipt, few_receipts c s, ap (λ (z : Shape). z.n) is.sizes);
        on_node = omega (arith, given.node, up.0, length-map c.nodes (λ (z : NodeSeen). z.node), each);
        live = subst (λ (m : ℕ). is_live_on t s h.row m ≡ true) (sym given.node) on;
        inc = given.inc ∙ up.1 ∙ ap (λ (ns : List Node). option_map_or (λ (z : Node). z.inc) (slice_get ns x.node) 0) is.nodes ∙ ap (inc_of t) (sym given.node);
        named = record { of_stripe = receipt.of_stripe; of_row = receipt.of_row; of_node = sym given.node };
        bytes = receipt.bytes;
      }

  pub helpers_are : {N : Type 0} (stamps : List ℕ) (b : BlockName) (hops : List (Hop N)) → IsHelped c stamps b hops → All (IsHelper shape told (table_of shape history) b.stripe) hops
  helpers_are {N} stamps b hops helped =
      let lives : All (λ r. is_live_in c b.stripe r ≡ true) (map (λ h. h.row) hops) = helpers_live c stamps b (map (λ h. h.row) hops) (map (λ h. h.weight) hops) helped.helps in
      λ k d lt.
      let within : k < length (map (λ (h : Hop N). h.row) hops) = omega (arith, lt, length-map hops (λ (h : Hop N). h.row)) in
      helper_is b.stripe (get_or hops k d) (helped.given k d lt)
      (subst (λ (r : ℕ). is_live_in c b.stripe r ≡ true) (get_or-map (λ (h : Hop N). h.row) hops k d 0 lt) (lives k 0 within))

  -- a block that can be had has helpers
  pub can_help : (b : BlockName) → IsInRange shape → IsLegal shape told history → b.row < shape.n → is_recoverable shape (table_of shape history) b ≡ true → CanHelp c b
  can_help b range legal row had = record {
    in_stripe = omega (arith, row, ap (λ (z : Shape). z.n) is.sizes);
    enough = enough (cases_Bool (is_live (table_of shape history) b.stripe b.row));
    apart = subst (λ (xs : List Standing). IsDistinct nat_eq (map (λ x. x.node) (live_among xs))) (sym (is.rows b.stripe))
        (distinct_nodes (rows_of (table_of shape history) b.stripe) (all_apart shape told history range legal b.stripe));
    stamped = All-weaker (λ x. (x.row < c.shape.n) × (is_live_in c b.stripe x.row ≡ true) × (is_up (plain c) x.node ≡ true)) (λ x. x.node < MAX_NODES)
        (λ x h. low x.node h.2) (live_among (standings_of c b.stripe)) (live_rows_there c b.stripe);
  }
    where
      low : (m : ℕ) → is_up (plain c) m ≡ true → m < MAX_NODES
      low m up = one (slice_get (plain c).nodes m) refl up where
        one : (o : Option Node) → slice_get (plain c).nodes m ≡ o → option_map_or (λ (x : Node). x.up) o false ≡ true → m < MAX_NODES
        one None none h = absurd (false≢true h)
        one (Some y) at h = omega (arith, slice_get_within (plain c).nodes m y at, length-map c.nodes (λ (z : NodeSeen). z.node), each, range.few)

      enough : ((is_live (table_of shape history) b.stripe b.row ≡ true) ⊎ (is_live (table_of shape history) b.stripe b.row ≡ false))
          → (is_live_in c b.stripe b.row ≡ true) ⊎ (c.shape.k ≤ length (live_among (standings_of c b.stripe)))
      enough (inl live) = inl (live_same shape told c history is b.stripe b.row ∙ live)
      enough (inr lost) =
          let more : nat_le shape.k (live_rows (table_of shape history) b.stripe) ≡ true = sym (ap (λ (x : Bool). x || nat_le shape.k (live_rows (table_of shape history) b.stripe)) lost) ∙ had in
          let many : shape.k ≤ live_rows (table_of shape history) b.stripe = grind (arith, nat_tests) in
          inr (omega (arith, many, count_same shape told c history is b.stripe, ap (λ (z : Shape). z.k) is.sizes))

-- live rows are rows of the stripe
pub live_low : (c : CatalogState) (s : ℕ) → All (λ x. x.row < c.shape.n) (live_among (standings_of c s))
live_low c s =
    All-weaker (λ x. (x.row < c.shape.n) × (is_live_in c s x.row ≡ true) × (is_up (plain c) x.node ≡ true)) (λ x. x.row < c.shape.n) (λ x h. h.0) (live_among (standings_of c s)) (live_rows_there c s)
