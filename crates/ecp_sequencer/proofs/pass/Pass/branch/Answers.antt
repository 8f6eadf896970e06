use Rattle.std.proofs.Common.{◌≡◌, ◌∙◌, List, [], ◌∷◌, ◌++◌, Option, ap, sym, subst, arith}
use Rattle.std.specs.Option.{option_to_list}
use Rattle.ecp_book.specs.Logs.{Known}
use Rattle.ecp_sequencer.specs.Facts.{facts_of}
use Rattle.ecp_sequencer.specs.Passes.{HandNotes, PassState, IsPass, call_seen, pass_seen}
use Rattle.ecp_sequencer.proofs.BranchLaws.{last_same, last_of_same, held_last, pass_holds, branch_is}
use Rattle.ecp_sequencer.proofs.pass.Pass.branch.Goals as goal

pub invariant_of-result : goal.invariant_of-result
invariant_of-result g c =
    let own : HandNotes = c.self.inside.hand in
    let h : HandNotes = c.unwrap-hand.result in
    let rest : List HandNotes = c.pop.new.self.items in
    let split : c.self.inside.spare.items ≡ rest ++ h ∷ [] = c.pop.ensures.items ∙ ap (λ (o : Option HandNotes). rest ++ option_to_list o) c.unwrap-hand.ensures in
    let held = held_last g.N.Names.callers g.N.Names.spare_hands c.self.inside.front.log c.self.inside.caller c.self.inside.calls c.self.inside.front.items own c.self.inside.spare.items rest h
    c.self.invariant.0 split in
    let same : c.requires.last ≡ h =
    last_same c.requires.others rest c.requires.last h (sym c.requires.split ∙ sym (ap (λ (p : PassState). p.spare) c.self.view_is) ∙ split) in
    let mine = ap (λ (p : PassState). (facts_of p.notes).call) c.self.view_is in
    let branch = branch_is g.N.Names.callers g.N.Names.spare_hands c.self.inside.front.log c.copy.result.log c.self.inside.caller c.self.inside.calls c.self.inside.front.items own h
    c.self.inside.spare.items c.new.result.items c.self.invariant.0 (ap (λ (k : Known). k.log) c.copy.ensures.copy ∙ c.self.invariant.0.on_history) held.1 c.new.ensures.items in (
      subst (λ (k : Known). IsPass g.N.Names.callers g.N.Names.spare_hands c.copy.result.log (pass_seen g.N.Names.spare_hands c.self.inside.caller c.self.inside.calls k.items h c.new.result.items)) (sym c.copy.ensures.copy) branch,
      last_of_same h.notes own.notes (call_seen c.self.inside.number c.self.inside.deed) (sym (ap (λ (x : HandNotes). (facts_of x.notes).call) same) ∙ c.requires.call ∙ sym mine) c.self.invariant.1,
      λ is. absurd (omega (arith, held.1.spare, is)),
    )

pub invariant_of-self : goal.invariant_of-self
invariant_of-self g c =
    let own : HandNotes = c.self.inside.hand in
    let h : HandNotes = c.unwrap-hand.result in
    let rest : List HandNotes = c.pop.new.self.items in
    let split : c.self.inside.spare.items ≡ rest ++ h ∷ [] = c.pop.ensures.items ∙ ap (λ (o : Option HandNotes). rest ++ option_to_list o) c.unwrap-hand.ensures in
    let held = held_last g.N.Names.callers g.N.Names.spare_hands c.self.inside.front.log c.self.inside.caller c.self.inside.calls c.self.inside.front.items own c.self.inside.spare.items rest h
    c.self.invariant.0 split in
    let pass = pass_holds g.N.Names.callers g.N.Names.spare_hands c.self.inside.front.log c.copy.new.tag.log c.self.inside.caller c.self.inside.calls c.self.inside.front.items own
    c.self.inside.spare.items rest c.self.invariant.0 (ap (λ (k : Known). k.log) c.copy.ensures.kept ∙ c.self.invariant.0.on_history) held.0 in (
      subst (λ (k : Known). IsPass g.N.Names.callers g.N.Names.spare_hands c.copy.new.tag.log (pass_seen g.N.Names.spare_hands c.self.inside.caller c.self.inside.calls k.items own rest)) (sym c.copy.ensures.kept) pass,
      c.self.invariant.1,
      λ is. omega (arith, c.self.invariant.2 is, c.pop.ensures.capacity),
    )
