use Rattle.std.proofs.Common.{◌≡◌, ◌∙◌, ◌≤◌, length, ap, sym, subst, arith}
use mathlib.Core.List.{IsPrefix}
use Rattle.ecp_book.specs.Logs.{Known}
use Rattle.ecp_book.proofs.Prefixes.{shorter_is_prefix}
use Rattle.ecp_sequencer.proofs.StepLaws.{pass_longer}
use Rattle.ecp_sequencer.proofs.pass.Pass.raise.Goals as goal

pub invariant_of-self : goal.invariant_of-self
invariant_of-self g c =
    let now : c.replace-old.new.dest ≡ c.args.front.now = c.replace-old.ensures.after ∙ c.copy.ensures.copy ∙ c.meet_tags.ensures.b in
    let old : c.meet_tags.new.a ≡ c.self.inside.front = c.meet_tags.ensures.a in
    let less : length c.self.inside.front.items ≤ length c.args.front.now.items =
    omega (arith, c.if-len.true, c.len.ensures, c.len-2.ensures, ap (λ (k : Known). length k.items) old, ap (λ (k : Known). length k.items) c.meet_tags.ensures.b) in
    let longer : IsPrefix c.self.inside.front.items c.replace-old.new.dest.items =
    subst (λ (k : Known). IsPrefix c.self.inside.front.items k.items) (sym now)
    (shorter_is_prefix c.self.inside.front.items c.args.front.now.items c.meet_tags.ensures.prefix less) in (
      pass_longer g.N.Names.callers g.N.Names.spare_hands c.self.inside.front.log c.replace-old.new.dest.log c.self.inside.caller c.self.inside.calls c.self.inside.calls
          c.self.inside.front.items c.replace-old.new.dest.items c.self.inside.hand c.self.inside.spare.items c.self.invariant.0 (ap (λ (k : Known). k.log) now ∙ c.requires) longer (omega arith),
      c.self.invariant.1,
      c.self.invariant.2,
    )
