use Rattle.std.proofs.Common.{◌≡◌, ℕ, sym, ◌∙◌, ap, subst}
use Rattle.ecp_plan.specs.Order.{slice_count}
use Rattle.ecp_slice.specs.Messages.{Message}
use Rattle.ecp_requestor.specs.declared.accepted.Accepted.TheVariants.{Taken}
use Rattle.ecp_requestor.specs.Accepting.{answer_to}
use Rattle.ecp_requestor.specs.Assemblies.{AssemblyState}
use Rattle.ecp_requestor.specs.Renewing.{IsFor}
use Rattle.ecp_requestor.proofs.Answered.{AreOne, belongs, are_one}
use Rattle.ecp_requestor.proofs.Renewed.{is_for_after}
use Rattle.ecp_requestor.proofs.errand.Errand.take.Goals as goal

pub restart-requires : goal.restart-requires
restart-requires g c =
    let a : AssemblyState = c.self.inside.assembly in
    let m : Message = c.accept.new.msg in
    let taken : answer_to a m ≡ Taken = ap (answer_to a) c.accept.ensures.message ∙ sym c.accept.ensures.answer ∙ c.in-Taken.is in
    let one : AreOne a m = are_one a m (belongs a m taken).of_repair in
    c.slices.ensures
    ∙ ap (λ (n : ℕ). slice_count n c.self.inside.plan.slice) (c.self.invariant.is_for.block.block ∙ sym one.block)
    ∙ ap (λ (n : ℕ). slice_count m.block n) (c.self.invariant.is_for.block.size ∙ sym one.size)

pub invariant_of-self : goal.invariant_of-self
invariant_of-self g c = record {
  sound = c.self.invariant.sound;
  is_for = subst (IsFor c.self.inside.plan) (sym c.accept.ensures.state) (is_for_after c.self.inside.plan c.accept.result c.self.inside.assembly _ c.self.invariant.is_for);
}

pub invariant_of-self-in-Stale-1 : goal.invariant_of-self-in-Stale-1
invariant_of-self-in-Stale-1 g c = record {
  sound = c.self.invariant.sound;
  is_for = subst (IsFor c.self.inside.plan) (sym c.accept.ensures.state) (is_for_after c.self.inside.plan c.accept.result c.self.inside.assembly _ c.self.invariant.is_for);
}
