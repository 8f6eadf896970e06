use Rattle.std.proofs.Common.{rules, ◌≡◌, ℕ, List, ltb, ltb-true, ltb-false, slice_get, find, sym, ◌∙◌, ap, arith, subst}
use Rattle.std.specs.Prelude.{nat_le}
use Rattle.std.specs.List.Sorted.{IsNonDecreasingBy}
use Rattle.std.proofs.lemmas.List.Sorted.{IsPartitionPoint-from_clause, IsPartitionedBy-ltb}
use Rattle.ecp_catalog.specs.Catalogs.{NodeSeen}
use Rattle.ecp_catalog.proofs.PositionLaws.{rise, first_by}
use Rattle.ecp_catalog.proofs.node_row.NodeRow.first_loss_from.Goals as goal

pub returns : goal.returns
returns c =
    let xs : List ℕ = c.self.inside.losses.items in
    let i = c.partition_point-at.result in
    let ys : List ℕ = c.deref.result.now in
    let same : ys ≡ xs = c.deref.ensures.value in
    let parted = IsPartitionedBy-ltb (λ (x : ℕ). x) ys c.args.point (subst (IsNonDecreasingBy (λ (x : ℕ). x)) (sym same) (rise xs c.self.invariant.rising)) in
    let point = IsPartitionPoint-from_clause (λ (x : ℕ). ltb x c.args.point) _ _ c.partition_point-at.ensures.partitioned parted (λ a r q k. search rules) in
    let found : find (nat_le c.args.point) ys ≡ slice_get ys i =
    first_by c.args.point i ys c.partition_point-at.ensures.bound (λ k h. ltb-true _ _ (point.0 k 0 (omega arith) h)) (λ h. ltb-false _ _ (point.1 i 0 (omega arith) h)) in
    c.position_at.ensures ∙ ap (λ (zs : List ℕ). slice_get zs i) (c.deref-2.ensures.value ∙ sym same) ∙ sym found ∙ ap (find (nat_le c.args.point)) same ∙ ap (λ (x : NodeSeen). find (nat_le c.args.point) x.losses) c.self.view_is
