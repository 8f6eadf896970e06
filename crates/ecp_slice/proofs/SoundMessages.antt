-- A message is sound as its slice begins, and stays so as a helper is added.
use Rattle.std.proofs.Common.{◌≡◌, ℕ, ◌+◌, ◌^◌, ◌<◌, Bool, List, [], ◌∷◌, true, false, cond, length, map, take, replicate, refl, sym, ◌∙◌, ap, subst, arith}
use Rattle.std.specs.Prelude.{All, IsTrue, bit_or, nat_eq, slice_index}
use Rattle.std.proofs.lemmas.Bool.{eqb-true}
use Rattle.std.proofs.lemmas.List.{length-map, length-replicate}
use Rattle.std.proofs.lemmas.List.Elements.{All-map, All-head, All-tail}
use mathlib.Core.List.{map-map}
use Rattle.ecp_field.specs.Lists.{sums, scaled}
use Rattle.ecp_field.proofs.ListLaws.{length-sums, length-scaled}
use Rattle.ecp_code.proofs.HelperLaws.{helper_start}
use Rattle.ecp_shape.specs.declared.shape.Shape.{Shape}
use Rattle.ecp_history.specs.Plans as history
use Rattle.ecp_node.specs.Receipts.{ReceiptState}
use Rattle.ecp_book.specs.Logs.{Log}
use Rattle.ecp_plan.specs.Order.{slice_start}
use Rattle.ecp_plan.specs.Plans as plans
use Rattle.ecp_plan.specs.declared.hop.Hop.{Hop}
use Rattle.ecp_plan.specs.declared.plan.Plan.{Plan}
use Rattle.ecp_plan.proofs.OrderLaws.{helper_within}
use Rattle.ecp_slice.specs.Cancels.{Cancelling, copied}
use Rattle.ecp_slice.specs.Messages.{Message, helpers, next_hop, HasNext, receipt_at, slice_of, slice_len, started, after_add}
use Rattle.ecp_slice.specs.Sound.{IsSound, AreNamed, IsSlice, plan_of, sum_added, partial_sum}
use Rattle.ecp_slice.proofs.PartialSums.{sum_none, sum_more}
use Rattle.ecp_slice.proofs.Receipts.{weight_count, receipt_count, slice_at}
use Rattle.ecp_slice.proofs.Visits.{sets_next, added_more, none_added}

-- as a slice begins
pub begun : (shape : Shape) (told : Bool) (m : Message) → history.IsSoundPlan shape told m.front (plan_of m) → AreNamed m → IsSlice m
    → m.at ≡ 0 → m.summed ≡ 0 → m.payload ≡ replicate m.len 0 → IsSound shape told m
begun shape told m plan named slice none clear zeros = record {
  planned = plan;
  named = named;
  placed = slice;
  added = none_added m none clear;
  summed_up = record {
    whole = ap length zeros ∙ length-replicate m.len 0;
    empty = λ _. zeros;
    exact = λ _. zeros ∙ sym (ap (λ (n : ℕ). sum_added m.len n m.weights (map (λ r. slice_of m r.bytes) m.route)) clear ∙ sum_none m.len m.weights (map (λ r. slice_of m r.bytes) m.route));
  };
}

-- what is written or added to the payload: where no helper was added yet it is zeros
payload_more : (first : Bool) (len w : ℕ) (bytes room new : List ℕ) → (first ≡ true → take len room ≡ replicate len 0) → length bytes ≡ len
    → take (length bytes) new ≡ cond first (scaled w bytes) (sums (take (length bytes) room) (scaled w bytes)) → take len new ≡ sums (take len room) (scaled w bytes)
payload_more true len w bytes room new zeros size is =
    ap (λ (n : ℕ). take n new) (sym size) ∙ is ∙ sym (helper_start len (scaled w bytes) (take len room) (zeros refl) (length-scaled w bytes ∙ size))
payload_more false len w bytes room new zeros size is =
    ap (λ (n : ℕ). take n new) (sym size) ∙ is ∙ ap (λ (n : ℕ). sums (take n room) (scaled w bytes)) size

-- the message after the call, as its fields are then: this mask, and the payload at the front of this room
pub seen_after : (m : Message) (hop added w : ℕ) (bytes room new items : List ℕ) → m.payload ≡ take m.len room → (m.at ≡ 0 → m.payload ≡ replicate m.len 0)
    → added ≡ bit_or m.summed (2 ^ hop) → w ≡ slice_index m.weights hop → length bytes ≡ m.len
    → take (length bytes) new ≡ cond (nat_eq m.at 0) (scaled w bytes) (sums (take (length bytes) room) (scaled w bytes)) → items ≡ new
    → record m { summed = added; at = m.at + 1; payload = take m.len items } ≡ after_add m hop bytes
seen_after m hop added w bytes room new items front empty mask weight size is written =
    let sum : take m.len items ≡ sums m.payload (scaled (slice_index m.weights hop) bytes) =
    ap (take m.len) written ∙ payload_more (nat_eq m.at 0) m.len w bytes room new (λ first. sym front ∙ empty (eqb-true m.at 0 first)) size is
    ∙ ap (λ (xs : List ℕ). sums xs (scaled w bytes)) (sym front) ∙ ap (λ (n : ℕ). sums m.payload (scaled n bytes)) weight in
    ap (λ (n : ℕ). record m { summed = n; at = m.at + 1; payload = take m.len items }) mask
    ∙ ap (λ (xs : List ℕ). record m { summed = bit_or m.summed (2 ^ hop); at = m.at + 1; payload = xs }) sum

-- as the next helper is added
pub sound_more : (shape : Shape) (told : Bool) (m : Message) (bytes : List ℕ) → IsSound shape told m → HasNext m → length bytes ≡ m.len
    → (IsTrue told → bytes ≡ slice_of m (receipt_at m (next_hop m)).bytes) → IsSound shape told (after_add m (next_hop m) bytes)
sound_more shape told m bytes sound more size is =
    let hop : ℕ = next_hop m in
    let w : ℕ = slice_index m.weights hop in
    let low : hop < helpers m = helper_within m.lanes (helpers m) m.slice m.at sound.planned.lanes_are more in
    let slices : List (List ℕ) = map (λ r. slice_of m r.bytes) m.route in
    record {
      planned = sound.planned;
      named = record { of_stripe = sound.named.of_stripe; of_rows = sound.named.of_rows; of_nodes = sound.named.of_nodes };
      placed = record { of_block = sound.placed.of_block; begins = sound.placed.begins; ends = sound.placed.ends };
      added = added_more m bytes sound.planned.lanes_are more sound.added;
      summed_up = record {
        whole = length-sums m.payload (scaled w bytes) (sound.summed_up.whole ∙ sym (length-scaled w bytes ∙ size)) ∙ sound.summed_up.whole;
        empty = λ none. absurd (omega arith);
        exact = λ telling.
            ap (λ (xs : List ℕ). sums xs (scaled w bytes)) (sound.summed_up.exact telling)
            ∙ ap (λ (xs : List ℕ). sums (partial_sum m) (scaled w xs)) (is telling ∙ sym (slice_at m hop sound.named low))
            ∙ sym (sum_more hop m.len m.summed (after_add m hop bytes).summed m.weights slices (sets_next m sound.planned.lanes_are more sound.added)
            (omega (arith, weight_count shape told m sound)) (omega (arith, receipt_count m sound.named, length-map m.route (λ (r : ReceiptState). slice_of m r.bytes))));
      };
    }

-- the rows and nodes that the receipts of helpers name are theirs
named_rows : {N : Type 0} (stripe : ℕ) (hops : List (Hop N)) → All (plans.IsNamed stripe) hops → map (λ r. r.row) (map (λ hop. hop.receipt) hops) ≡ map (λ hop. hop.row) hops
named_rows stripe [] named = refl
named_rows stripe (hop ∷ hops) named =
    ap (λ (n : ℕ). n ∷ map (λ r. r.row) (map (λ hop. hop.receipt) hops)) (All-head (plans.IsNamed stripe) hop hops named).of_row
    ∙ ap (λ (ns : List ℕ). hop.row ∷ ns) (named_rows stripe hops (All-tail (plans.IsNamed stripe) hop hops named))

named_nodes : {N : Type 0} (stripe : ℕ) (hops : List (Hop N)) → All (plans.IsNamed stripe) hops → map (λ r. r.node) (map (λ hop. hop.receipt) hops) ≡ map (λ hop. hop.node) hops
named_nodes stripe [] named = refl
named_nodes stripe (hop ∷ hops) named =
    ap (λ (n : ℕ). n ∷ map (λ r. r.node) (map (λ hop. hop.receipt) hops)) (All-head (plans.IsNamed stripe) hop hops named).of_node
    ∙ ap (λ (ns : List ℕ). hop.node ∷ ns) (named_nodes stripe hops (All-tail (plans.IsNamed stripe) hop hops named))

named_stripe : {N : Type 0} (stripe : ℕ) (hops : List (Hop N)) → All (plans.IsNamed stripe) hops → All (λ r. r.stripe ≡ stripe) (map (λ hop. hop.receipt) hops)
named_stripe stripe hops named = All-map (λ r. r.stripe ≡ stripe) (λ hop. hop.receipt) hops (λ k d within. (named k d within).of_stripe)

-- what a message takes from a sound plan
pub named_started : {N : Type 0} (shape : Shape) (told : Bool) (plan : Plan N) (slice : ℕ) (cancel : Cancelling) (home : ℕ) → plans.IsSound shape told plan → AreNamed (started plan slice cancel home)
named_started shape told plan slice cancel home sound = record {
  of_stripe = named_stripe plan.stripe plan.hops.items sound.named;
  of_rows = named_rows plan.stripe plan.hops.items sound.named;
  of_nodes = named_nodes plan.stripe plan.hops.items sound.named;
}

pub plan_started : {N : Type 0} (shape : Shape) (told : Bool) (plan : Plan N) (slice : ℕ) (cancel : Cancelling) (home : ℕ) → plans.IsSound shape told plan
    → history.IsSoundPlan shape told plan.front.items (plan_of (started plan slice cancel home))
plan_started shape told plan slice cancel home sound =
    subst (λ (bytes : List (List ℕ)). history.IsSoundPlan shape told plan.front.items (record {
      target = plan.row;
      route = record { stripe = plan.stripe; rows = map (λ hop. hop.row) plan.hops.items; nodes = map (λ hop. hop.node) plan.hops.items; bytes = bytes };
      weights = map (λ hop. hop.weight) plan.hops.items;
      len = plan.block;
      slice = plan.slice;
      lanes = plan.lanes;
    }))
    (sym (map-map (λ (r : ReceiptState). r.bytes) (λ hop. hop.receipt) plan.hops.items)) sound.sound

-- a message of which the fields are so is the one that begins the slice
pub started_is : {N : Type 0} (plan : Plan N) (slice : ℕ) (cancel handle : Cancelling) (home off len : ℕ) (rows nodes ws payload : List ℕ) (route : List ReceiptState) (front : Log)
    → off ≡ slice_start plan.slice slice → len ≡ slice_len plan.block plan.slice slice → rows ≡ map (λ hop. hop.row) plan.hops.items → nodes ≡ map (λ hop. hop.node) plan.hops.items
    → ws ≡ map (λ hop. hop.weight) plan.hops.items → payload ≡ replicate len 0 → route ≡ map (λ hop. hop.receipt) plan.hops.items → front ≡ plan.front.items → handle ≡ copied cancel
    → record {
      repair = plan.repair;
      attempt = plan.attempt;
      slice = slice;
      summed = 0;
      stripe = plan.stripe;
      row = plan.row;
      lanes = plan.lanes;
      at = 0;
      home = home;
      off = off;
      len = len;
      block = plan.block;
      size = plan.slice;
      rows = rows;
      nodes = nodes;
      weights = ws;
      payload = payload;
      route = route;
      front = front;
      cancel = handle;
    } ≡ started plan slice cancel home
started_is plan slice cancel handle home off len rows nodes ws payload route front o l r n w p s f h = cc
