use Rattle.std.proofs.Common.{◌∙◌, ap, sym, subst, arith}
use mathlib.Core.List.{IsPrefix}
use Rattle.ecp_book.specs.Logs.{Known}
use Rattle.ecp_sequencer.proofs.StepLaws.{pass_longer}
use Rattle.ecp_sequencer.proofs.EventLaws.{renewed}
use Rattle.ecp_sequencer.proofs.sequencer.Sequencer.renew.Goals as goal

pub invariant_of-pass : goal.invariant_of-pass
invariant_of-pass g c =
    let front = c.renew_front.ensures.front in
    let met = rw (← c.self.view_is, ← c.pass.view_is) at c.requires in
    let longer : IsPrefix c.pass.inside.front.items c.renew_front.new.front.items =
    subst (λ (k : Known). IsPrefix c.pass.inside.front.items k.items) (sym front) met.begins in (
      pass_longer g.N.Names.callers g.N.Names.spare_hands c.pass.inside.front.log c.renew_front.new.front.log c.pass.inside.caller c.pass.inside.calls c.pass.inside.calls
          c.pass.inside.front.items c.renew_front.new.front.items c.pass.inside.hand c.pass.inside.spare.items c.pass.invariant.0
          (ap (λ (k : Known). k.log) front ∙ c.self.invariant.on_history) longer (omega arith),
      c.pass.invariant.1,
      c.pass.invariant.2,
    )

pub returns-clause-event : goal.returns-clause-event
returns-clause-event g c =
    renewed g.N.Names.shape g.N.Names.told g.N.Names.callers g.N.Names.spare_hands c.args.self.now c.args.pass.now c.self.inside.keeper.log c.pass.inside.front.log c.self.inside.taken
    c.self.inside.keeper.items c.renew_front.new.keeper.items c.renew_front.new.front.items c.self.inside.journal c.self.inside.desks.items c.pass.inside.caller c.pass.inside.calls
    c.pass.inside.front.items c.pass.inside.hand c.pass.inside.spare.items c.self.invariant c.self.view_is c.pass.invariant.0 c.pass.view_is c.requires
    (ap (λ (k : Known). k.items) c.renew_front.ensures.kept) (ap (λ (k : Known). k.items) c.renew_front.ensures.front)
