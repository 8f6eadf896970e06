use Rattle.std.proofs.Common.{◌∙◌, List, sym, subst, arith}
use Rattle.std.specs.Prelude.{All}
use mathlib.Core.List.{IsPrefix}
use Rattle.std.proofs.lemmas.List.Elements.{All-push}
use Rattle.ecp_book.specs.Logs.{Log}
use Rattle.ecp_sequencer.specs.Branches.{IsBranch}
use Rattle.ecp_sequencer.specs.Passes.{HandNotes, PassState, IsHeld, IsPass, pass_seen, longer}
use Rattle.ecp_sequencer.proofs.BranchLaws.{with_front, pass_holds, branch_noted, held_again}
use Rattle.ecp_sequencer.proofs.pass.Pass.rejoin.Goals as goal

pub invariant_of-self : goal.invariant_of-self
invariant_of-self g c =
    let own : HandNotes = c.self.inside.hand in
    let spare : List HandNotes = c.self.inside.spare.items in
    let front : Log = c.self.inside.front.items in
    let v : PassState = c.args.self.now in
    let up : PassState = pass_seen g.N.Names.spare_hands c.self.inside.caller c.self.inside.calls front own spare in
    let b : PassState = pass_seen g.N.Names.spare_hands c.branch.inside.caller c.branch.inside.calls c.branch.inside.front.items c.branch.inside.hand c.branch.inside.spare.items in
    let r = c.requires.branch in
    let raised : IsBranch g.N.Names.spare_hands (with_front v (longer v.front c.branch.inside.front.items)) c.args.branch = record { caller = r.caller; hand = r.hand; calls = r.calls } in
    let of : IsBranch g.N.Names.spare_hands up b =
    subst (λ (p : PassState). IsBranch g.N.Names.spare_hands p b) (sym (c.self.view_is ∙ c.raise.ensures.raised))
    (subst (IsBranch g.N.Names.spare_hands (with_front v (longer v.front c.branch.inside.front.items))) (sym c.branch.view_is) raised) in
    let reaches : IsPrefix b.front front = subst (λ (p : PassState). IsPrefix b.front p.front) (sym c.self.view_is) c.raise.ensures.reaches in
    let held : IsHeld g.N.Names.callers g.N.Names.spare_hands c.self.inside.caller c.self.inside.calls front c.branch.inside.hand =
    held_again g.N.Names.callers g.N.Names.spare_hands c.branch.inside.front.log up b front c.branch.invariant.0 of reaches in (
      pass_holds g.N.Names.callers g.N.Names.spare_hands c.self.inside.front.log c.self.inside.front.log c.self.inside.caller c.self.inside.calls front own spare c.push_reserved.new.self.items
          c.self.invariant.0 c.self.invariant.0.on_history
          (subst (All (IsHeld g.N.Names.callers g.N.Names.spare_hands c.self.inside.caller c.self.inside.calls front)) (sym c.push_reserved.ensures.items)
          (All-push (IsHeld g.N.Names.callers g.N.Names.spare_hands c.self.inside.caller c.self.inside.calls front) spare c.branch.inside.hand c.self.invariant.0.held held)),
      c.self.invariant.1,
      λ is. omega (arith, c.self.invariant.2 is, c.push_reserved.ensures.capacity),
    )

pub returns-clause-noted : goal.returns-clause-noted
returns-clause-noted g c =
    let b : PassState = pass_seen g.N.Names.spare_hands c.branch.inside.caller c.branch.inside.calls c.branch.inside.front.items c.branch.inside.hand c.branch.inside.spare.items in
    let front : Log = c.self.inside.front.items in
    let reaches : IsPrefix b.front front = subst (λ (p : PassState). IsPrefix b.front p.front) (sym c.self.view_is) c.raise.ensures.reaches in
    branch_noted g.N.Names.callers g.N.Names.spare_hands c.branch.inside.front.log c.args.branch front
    (subst (IsPass g.N.Names.callers g.N.Names.spare_hands c.branch.inside.front.log) c.branch.view_is c.branch.invariant.0)
    (subst (λ (p : PassState). IsPrefix p.front front) c.branch.view_is reaches)
