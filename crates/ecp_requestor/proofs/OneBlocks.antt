-- The plan of the tests is sound: it takes the first block of the file from the node that has it.
use Rattle.std.proofs.Common.{◌≡◌, ℕ, zero, suc, ◌<◌, inl, inr, Bool, true, false, List, [], ◌∷◌, length, map, refl, sym, ◌∙◌, ap, subst, arith}
use Rattle.std.specs.Prelude.{All}
use Rattle.std.proofs.lemmas.List.Elements.{All-cons}
use Rattle.ecp_book.specs.Logs.{Known}
use Rattle.ecp_field.specs.Lists.{AreBytes}
use Rattle.ecp_code.specs.Rows.{row, IsData}
use Rattle.ecp_code.proofs.DataLaws.{row-data}
use Rattle.ecp_history.specs.Fronts.{told_table}
use Rattle.ecp_history.specs.Plans as history
use Rattle.ecp_history.specs.table.Tables.{PlainTable, HasStripe, block}
use Rattle.ecp_plan.specs.Plans as plans
use Rattle.ecp_plan.specs.declared.hop.Hop.{Hop}
use Rattle.ecp_plan.specs.declared.plan.Plan.{Plan}
use Rattle.ecp_shape.specs.declared.shape.Shape.{Shape}
use Rattle.ecp_slice.specs.OneFile.{three_rows, IsReceiptOf}
use Rattle.ecp_slice.proofs.OneFiles.{legal, told_is}
use Rattle.ecp_requestor.specs.Assemblies.{begun}
use Rattle.ecp_requestor.specs.OneBlock.{file_bytes, first_block, file_log, file_front, IsOfFirst}
use Rattle.ecp_requestor.specs.Renewing.{IsOfBlock}

bytes_are : AreBytes file_bytes
bytes_are zero = omega arith
bytes_are (suc zero) = omega arith
bytes_are (suc (suc zero)) = omega arith
bytes_are (suc (suc (suc zero))) = omega arith
bytes_are (suc (suc (suc (suc k)))) = omega arith

-- what holds of the only one
only : {X : Type 0} (P : X → Type 0) (x : X) → P x → All P (x ∷ [])
only P x p = All-cons P x [] p (λ k d within. absurd (omega (arith, within)))

abbrev the_route : history.Route
the_route = record { stripe = 0; rows = 0 ∷ []; nodes = 0 ∷ []; bytes = first_block ∷ [] }

there : HasStripe (told_table (three_rows 2) file_log) 0
there = subst (λ (t : PlainTable). HasStripe t 0) (sym (told_is 2 file_bytes)) refl

-- the data of the stripe, of which the first is row 0
abbrev second_block : List ℕ
second_block = 67 ∷ 68 ∷ []

abbrev two_blocks : List (List ℕ)
two_blocks = first_block ∷ second_block ∷ []

first_bytes : AreBytes first_block
first_bytes zero = omega arith
first_bytes (suc zero) = omega arith
first_bytes (suc (suc k)) = omega arith

second_bytes : AreBytes second_block
second_bytes zero = omega arith
second_bytes (suc zero) = omega arith
second_bytes (suc (suc k)) = omega arith

are_data : IsData two_blocks
are_data = record {
  few = omega arith;
  even = All-cons (λ b. length b ≡ 2) first_block (second_block ∷ []) refl (only (λ b. length b ≡ 2) second_block refl);
  bytes = All-cons AreBytes first_block (second_block ∷ []) first_bytes (only AreBytes second_block second_bytes);
}

first_row : first_block ≡ row two_blocks 0
first_row = cc (row-data two_blocks 0 are_data (omega arith))

named : (told : Bool) → history.AreRows (three_rows 2) told (told_table (three_rows 2) file_log) the_route
named true = ap (λ (b : List ℕ). b ∷ []) first_row ∙ ap (λ (t : PlainTable). map (block t 0) (0 ∷ [])) (sym (told_is 2 file_bytes))
named false = (refl, only (λ b. length b ≡ 2) first_block refl)

abbrev the_plan : history.Plan
the_plan = record { target = 0; route = the_route; weights = 1 ∷ []; len = 2; slice = 1; lanes = 1 }

the_plan_is_sound : (told : Bool) → history.IsSoundPlan (three_rows 2) told file_log the_plan
the_plan_is_sound told = record {
  in_range = record {
    data_rows = omega arith;
    parity_rows = omega arith;
    at_most = omega arith;
    enough = omega arith;
    few = omega arith;
    some = omega arith;
    short = omega arith;
  };
  of_row = omega arith;
  helpers = record {
    legal = legal 2 told file_bytes refl bytes_are;
    known = record {
      there = there;
      in_stripe = only (λ r. r < 3) 0 (omega arith);
      one_each = refl;
      on_nodes = only (λ m. m < 3) 0 (omega arith);
      named = named told;
    };
  };
  makes = inr (record { itself = refl; weighted = refl });
  len_is = refl;
  some = omega arith;
  within = omega arith;
  lanes_are = inl refl;
}

-- a plan of these sizes, whose one helper is that row
pub record TakesTheRow {N : Type 0} (plan : Plan N) (hop : Hop N) : Type 0 where
  pub front : plan.front ≡ file_front
  pub hops : plan.hops.items ≡ hop ∷ []
  pub receipt : IsReceiptOf hop.receipt 0 0 first_block
  pub row : hop.row ≡ 0
  pub node : hop.node ≡ 0
  pub weight : hop.weight ≡ 1
  pub of_stripe : plan.stripe ≡ 0
  pub of_row : plan.row ≡ 0
  pub lanes : plan.lanes ≡ 1
  pub block : plan.block ≡ 2
  pub slice : plan.slice ≡ 1

abbrev plan_with : ℕ → ℕ → ℕ → ℕ → ℕ → List ℕ → List ℕ → List ℕ → List (List ℕ) → history.Plan
plan_with target stripe len slice lanes rows nodes weights bytes =
    record { target = target; route = record { stripe = stripe; rows = rows; nodes = nodes; bytes = bytes }; weights = weights; len = len; slice = slice; lanes = lanes }

seen_is : (target stripe len slice lanes : ℕ) (rows nodes weights : List ℕ) (bytes : List (List ℕ)) → target ≡ 0 → stripe ≡ 0 → len ≡ 2 → slice ≡ 1 → lanes ≡ 1
    → rows ≡ 0 ∷ [] → nodes ≡ 0 ∷ [] → weights ≡ 1 ∷ [] → bytes ≡ first_block ∷ [] → plan_with target stripe len slice lanes rows nodes weights bytes ≡ the_plan
seen_is target stripe len slice lanes rows nodes weights bytes a b c d e f g h i =
    ap (λ (n : ℕ). plan_with n stripe len slice lanes rows nodes weights bytes) a
    ∙ ap (λ (n : ℕ). plan_with 0 n len slice lanes rows nodes weights bytes) b
    ∙ ap (λ (n : ℕ). plan_with 0 0 n slice lanes rows nodes weights bytes) c
    ∙ ap (λ (n : ℕ). plan_with 0 0 2 n lanes rows nodes weights bytes) d
    ∙ ap (λ (n : ℕ). plan_with 0 0 2 1 n rows nodes weights bytes) e
    ∙ ap (λ (ns : List ℕ). plan_with 0 0 2 1 1 ns nodes weights bytes) f
    ∙ ap (λ (ns : List ℕ). plan_with 0 0 2 1 1 (0 ∷ []) ns weights bytes) g
    ∙ ap (λ (ns : List ℕ). plan_with 0 0 2 1 1 (0 ∷ []) (0 ∷ []) ns bytes) h
    ∙ ap (λ (bs : List (List ℕ)). plan_with 0 0 2 1 1 (0 ∷ []) (0 ∷ []) (1 ∷ []) bs) i

sound_there : {N : Type 0} (told : Bool) (plan : Plan N) (hop : Hop N) → TakesTheRow plan hop → plans.IsSound (three_rows 2) told plan
sound_there told plan hop is =
    let seen : plans.plan_seen plan ≡ the_plan =
    seen_is plan.row plan.stripe plan.block plan.slice plan.lanes (map (λ hop. hop.row) plan.hops.items) (map (λ hop. hop.node) plan.hops.items) (map (λ hop. hop.weight) plan.hops.items)
    (map (λ hop. hop.receipt.bytes) plan.hops.items) is.of_row is.of_stripe is.block is.slice is.lanes
    (ap (map (λ hop. hop.row)) is.hops ∙ ap (λ (n : ℕ). n ∷ []) is.row)
    (ap (map (λ hop. hop.node)) is.hops ∙ ap (λ (n : ℕ). n ∷ []) is.node)
    (ap (map (λ hop. hop.weight)) is.hops ∙ ap (λ (n : ℕ). n ∷ []) is.weight)
    (ap (map (λ hop. hop.receipt.bytes)) is.hops ∙ ap (λ (b : List ℕ). b ∷ []) is.receipt.bytes) in
    record {
      front = ap (λ (t : Known). t.log) is.front;
      sound =
          subst (λ (items : List (List ℕ)). history.IsSoundPlan (three_rows 2) told items (plans.plan_seen plan)) (sym (ap (λ (t : Known). t.items) is.front))
          (subst (history.IsSoundPlan (three_rows 2) told file_log) (sym seen) (the_plan_is_sound told));
      named =
          subst (All (plans.IsNamed plan.stripe)) (sym is.hops)
          (only (plans.IsNamed plan.stripe) hop (record {
            of_stripe = is.receipt.stripe ∙ sym is.of_stripe;
            of_row = is.receipt.row ∙ sym is.row;
            of_node = is.receipt.node ∙ sym is.node;
          }));
    }

pub takes_the_row : {N : Type 0} (shape : Shape) (told : Bool) (plan : Plan N) (hop : Hop N) → shape ≡ three_rows 2 → TakesTheRow plan hop → plans.IsSound shape told plan
takes_the_row shape told plan hop of_shape is = subst (λ (s : Shape). plans.IsSound s told plan) (sym of_shape) (sound_there told plan hop is)

-- two plans of one repair for it are of one block
pub another_attempt : {N : Type 0} (repair : ℕ) (plan next : Plan N) → IsOfFirst repair plan → IsOfFirst repair next → IsOfBlock next (begun plan)
another_attempt repair plan next a b = record {
  repair = b.repair_is ∙ sym a.repair_is;
  stripe = b.stripe ∙ sym a.stripe;
  row = b.row ∙ sym a.row;
  block = b.block ∙ sym a.block;
  size = b.size ∙ sym a.size;
}
