use Rattle.std.proofs.Common.{◌≡◌, Bool, false, List, length, replicate, sym, ◌∙◌, ap, subst}
use Rattle.std.specs.Prelude.{count_by}
use Rattle.std.proofs.lemmas.List.{with_items_is, length-replicate}
use Rattle.ecp_book.specs.Logs.{Known}
use Rattle.ecp_requestor.specs.Assemblies.{AssemblyState, IsAssembly}
use Rattle.ecp_requestor.specs.AssemblyParts.{assembly_seen}
use Rattle.ecp_requestor.specs.Renewing.{IsOfBlock}
use Rattle.ecp_requestor.proofs.Counting.{none_so}
use Rattle.ecp_requestor.proofs.Renewed.{seen_renewed, renewed_is}
use Rattle.ecp_requestor.proofs.assembly.Assembly.renew.Goals as goal

pub invariant_of-self : goal.invariant_of-self
invariant_of-self g c =
    let shape = g.N.Names.shape in
    let told = g.N.Names.told in
    let a : AssemblyState = assembly_seen c.self.inside in
    let of : IsOfBlock c.args.plan.now a = subst (IsOfBlock c.args.plan.now) (sym c.self.view_is) c.requires.block in
    let front : c.replace.new.dest ≡ c.args.plan.now.front = c.replace.ensures.after ∙ c.copy-front.ensures.copy in
    let filled : c.fill.new.self ≡ replicate (length a.there) false = c.fill.ensures.after (λ y e. e) ∙ ap (λ (xs : List Bool). replicate (length xs) false) c.as_mut_slice.ensures.value in
    let there = with_items_is c.self.inside.there c.fill.new.self (ap length filled ∙ length-replicate (length a.there) false ∙ sym c.self.inside.there.ok.0) ∙ filled in
    record {
      of_history = ap (λ (t : Known). t.log) front ∙ c.requires.sound.front;
      counted = sym (ap (count_by (λ x. x)) there ∙ none_so (length a.there));
      sound =
          subst (IsAssembly shape told) (sym (seen_renewed c.args.plan.now a _ _ (ap (λ (t : Known). t.items) front) there))
          (renewed_is shape told c.args.plan.now a c.self.invariant.sound c.requires.sound of);
    }

pub returns-clause-sound : goal.returns-clause-sound
returns-clause-sound g c = (invariant_of-self g c).sound
