use Rattle.std.proofs.Common.{◌≡◌, ◌≤◌, ◌<◌, ◌+◌, ◌-◌, ◌/◌, ℕ, length, take, map, ap, sym, ◌∙◌, subst, arith, nat_eq}
use Rattle.std.specs.Prelude.{All}
use Rattle.std.specs.List.{IsDistinct}
use Rattle.std.proofs.lemmas.Result.{IfOk-weaker}
use Rattle.ecp_field.specs.Lists.{AreBytes}
use Rattle.ecp_code.specs.Rows.{row, other_rows, weighted_sum}
use Rattle.ecp_code.specs.Stripes.{blocks, stripe_len}
use Rattle.ecp_code.specs.Weights.{weights}
use Rattle.ecp_code.proofs.StripeLaws.{rounded_up}
use Rattle.ecp_code.proofs.HelperLaws.{other_most, others_distinct, others_within, each_other, rebuilt}
use Rattle.ecp_code.proofs.code.Code.rebuild.Goals as goal

pub weights-weights-requires-clause-distinct : goal.weights-weights-requires-clause-distinct
weights-weights-requires-clause-distinct c =
    subst (λ (n : ℕ). IsDistinct nat_eq (take n c.helpers-helpers.result)) (sym c.k-k.ensures.k)
    (subst (IsDistinct nat_eq) (sym c.helpers-helpers.ensures) (others_distinct c.args.self.now.k c.args.row))

pub weights-weights-requires-clause-rows : goal.weights-weights-requires-clause-rows
weights-weights-requires-clause-rows c =
    let low = c.k-k.ensures.shape.parity_rows in
    subst (λ (n : ℕ). All (λ r. r < c.args.self.now.n) (take n c.helpers-helpers.result)) (sym c.k-k.ensures.k)
    (subst (All (λ r. r < c.args.self.now.n)) (sym c.helpers-helpers.ensures) (each_other (λ r. r < c.args.self.now.n) c.args.self.now.k c.args.row (λ i h. omega (arith, other_most c.args.row i, low))))

pub sum_of_helpers-requires-clause-helpers : goal.sum_of_helpers-requires-clause-helpers
sum_of_helpers-requires-clause-helpers c =
    subst (λ (n : ℕ). All (λ r. r ≤ n) (take n c.helpers-helpers.result)) (sym c.k-k.ensures.k)
    (subst (All (λ r. r ≤ c.args.self.now.k)) (sym c.helpers-helpers.ensures) (others_within c.args.self.now.k c.args.row))

pub sum_of_helpers-requires-clause-parity : goal.sum_of_helpers-requires-clause-parity
sum_of_helpers-requires-clause-parity c i d h is =
    let k = c.k-k.result in
    let n = length c.args.bytes.now in
    let pos : 0 < k = omega (arith, c.k-k.ensures.k, c.k-k.ensures.shape.data_rows) in
    let size : c.div_ceil-len.result ≡ stripe_len c.args.self.now.k n = c.div_ceil-len.ensures ∙ rounded_up n k pos ∙ ap (λ (m : ℕ). (n + m - 1) / m) c.k-k.ensures.k in
    c.bytes.ensures ∙ c.in_ok-parity.ensures
    ∙ ap (λ (m : ℕ). row (blocks m (stripe_len c.args.self.now.k n) c.args.bytes.now) k) (sym c.k-k.ensures.k)
    ∙ ap (λ (m : ℕ). row (blocks k m c.args.bytes.now) k) (sym size)

pub returns : goal.returns
returns c =
    let k = c.k-k.result in
    let bytes = c.args.bytes.now in
    let t = c.args.row in
    let n = length bytes in
    let len = c.div_ceil-len.result in
    let rows = take k c.helpers-helpers.result in
    let ws = take k c.weights-weights.result.w in
    let pos : 1 ≤ k = omega (arith, c.k-k.ensures.k, c.k-k.ensures.shape.data_rows) in
    let few : k ≤ 16 = omega (arith, c.k-k.ensures.k, c.k-k.ensures.shape.parity_rows, c.k-k.ensures.shape.at_most) in
    let size : len ≡ stripe_len c.args.self.now.k n = c.div_ceil-len.ensures ∙ rounded_up n k pos ∙ ap (λ (m : ℕ). (n + m - 1) / m) c.k-k.ensures.k in
    let are : rows ≡ other_rows k t = ap (λ (m : ℕ). take m c.helpers-helpers.result) c.k-k.ensures.k ∙ c.helpers-helpers.ensures ∙ ap (λ (m : ℕ). other_rows m t) (sym c.k-k.ensures.k) in
    let weigh : ws ≡ weights rows t = ap (λ (m : ℕ). take m c.weights-weights.result.w) c.k-k.ensures.k ∙ c.weights-weights.ensures.weights in
    let are_bytes : AreBytes bytes = λ i. omega (arith, c.type_inv.bytes i) in
    let whole : weighted_sum len ws (map (row (blocks k len bytes)) rows) ≡ row (blocks c.args.self.now.k (stripe_len c.args.self.now.k n) bytes) t =
    rebuilt k len bytes rows ws t pos few (omega arith) are_bytes are weigh
    ∙ ap (λ (m : ℕ). row (blocks m len bytes) t) c.k-k.ensures.k
    ∙ ap (λ (m : ℕ). row (blocks c.args.self.now.k m bytes) t) size in
    IfOk-weaker c.sum_of_helpers.result (λ s. s ≡ weighted_sum len ws (map (row (blocks k len bytes)) rows))
    (λ s. s ≡ row (blocks c.args.self.now.k (stripe_len c.args.self.now.k n) bytes) t) (λ s is. is ∙ whole) c.sum_of_helpers.ensures
