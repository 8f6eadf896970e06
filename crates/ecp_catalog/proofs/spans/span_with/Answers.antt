use Rattle.std.proofs.Common.{sym}
use Rattle.ecp_catalog.specs.declared.limits.TheConstants.{END_OF_STRIPES}
use Rattle.ecp_catalog.proofs.SpanLaws.{with-found, with-other, with-none}
use Rattle.ecp_catalog.proofs.spans.span_with.Goals as goal

pub returns-in-None : goal.returns-in-None
returns-in-None c =
    with-none c.args.spans.now END_OF_STRIPES c.args.stripe c.ended_by-at.result c.requires c.ended_by-at.ensures.before c.ended_by-at.ensures.behind (sym c.in-None.ensures.lookup.0)

pub returns-then-span-stripe : goal.returns-then-span-stripe
returns-then-span-stripe c =
    with-found c.args.spans.now END_OF_STRIPES c.args.stripe c.ended_by-at.result c.in-Some.span.now c.requires c.ended_by-at.ensures.before c.ended_by-at.ensures.behind
    (sym c.in-Some.ensures.lookup.0) c.in-Some.ensures.lookup.1 c.if-span-stripe.true

pub returns-else-span-stripe : goal.returns-else-span-stripe
returns-else-span-stripe c =
    with-other c.args.spans.now END_OF_STRIPES c.args.stripe c.ended_by-at.result c.in-Some.span.now c.requires c.ended_by-at.ensures.before c.ended_by-at.ensures.behind
    (sym c.in-Some.ensures.lookup.0) c.in-Some.ensures.lookup.1 c.if-span-stripe.false
