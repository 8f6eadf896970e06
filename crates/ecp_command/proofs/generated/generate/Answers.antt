use Rattle.std.proofs.Common.{sym, ap, ◌∙◌}
use Rattle.ecp_command.specs.Generated.{next}
use Rattle.ecp_command.proofs.Generating.{goes_on, starts}
use Rattle.ecp_command.proofs.generated.generate.Goals as goal

pub loop-place-init : goal.loop-place-init
loop-place-init c = (c.in_ok-bytes.ensures.items, sym (starts c.args.seed))

pub loop-place-preserved : goal.loop-place-preserved
loop-place-preserved c =
    let more = goes_on c.args.seed c.loop-place._place in
    let number = c.next-number.ensures ∙ ap next c.loop-place.invariant.1 in (
      c.in_ok-push.ensures.items ∙ rw (c.loop-place.invariant.0, number) (sym more.0),
      number ∙ sym more.1,
    )
