use Rattle.std.proofs.Common.{◌<◌, ◌+◌, leb, leb-true, leb-false, length, arith, rules, length-take, length-drop}
use Rattle.std.proofs.lemmas.List.{get_or-take, get_or-drop}
use Rattle.std.proofs.lemmas.List.Sorted.{IsPartitionPoint-from_clause, IsPartitionedBy-leb}
use Rattle.ecp_catalog.specs.declared.span.Span.{Span}
use Rattle.ecp_catalog.proofs.SpanLaws.{ends_rise}
use Rattle.ecp_catalog.specs.declared.limits.TheConstants.{END_OF_STRIPES}
use Rattle.ecp_catalog.proofs.spans.ended_by.Goals as goal

pub returns-clause-before : goal.returns-clause-before
returns-clause-before c =
    let xs = c.args.spans.now in
    let i = c.partition_point.result in
    let parted = IsPartitionedBy-leb (λ (x : Span). x.end) xs c.args.stripe (ends_rise 0 END_OF_STRIPES xs c.requires) in
    let point = IsPartitionPoint-from_clause (λ (x : Span). leb x.end c.args.stripe) _ _ c.partition_point.ensures.partitioned parted (λ a r q k. search rules) in
    λ k d h.
    let low : k < i = omega (arith, h, length-take i xs) in
    rw (get_or-take i xs k d low) (leb-true _ _ (point.0 k d (omega arith) low))

pub returns-clause-behind : goal.returns-clause-behind
returns-clause-behind c =
    let xs = c.args.spans.now in
    let i = c.partition_point.result in
    let parted = IsPartitionedBy-leb (λ (x : Span). x.end) xs c.args.stripe (ends_rise 0 END_OF_STRIPES xs c.requires) in
    let point = IsPartitionPoint-from_clause (λ (x : Span). leb x.end c.args.stripe) _ _ c.partition_point.ensures.partitioned parted (λ a r q k. search rules) in
    λ k d h.
    let within : i + k < length xs = omega (arith, h, length-drop i xs) in
    rw (get_or-drop i xs k d) (leb-false _ _ (point.1 (i + k) d (omega arith) within))
