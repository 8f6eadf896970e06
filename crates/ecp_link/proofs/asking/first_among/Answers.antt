use Rattle.std.proofs.Common.{◌≡◌, ℕ, ◌<◌, ◌≤◌, length, subst, sym, ap, ◌∙◌, arith}
use Rattle.std.specs.Prelude.{Some}
use Rattle.std.proofs.lemmas.Option.{slice_get-get_or}
use Rattle.ecp_link.specs.Among.{NoneAmong}
use Rattle.ecp_link.proofs.Asked.{none_more, takes_here}
use Rattle.ecp_link.proofs.asking.first_among.Goals as goal

pub loop-from-preserved-then-is_empty : goal.loop-from-preserved-then-is_empty
loop-from-preserved-then-is_empty g c =
    let h = c.loop-from.invariant in
    let lt : c.loop-from.from < c.args.last = c.loop-from-test.true in
    let within : c.loop-from.from < length c.loop-from.ends = omega (arith, h.count, c.requires.last) in
    none_more _ _ _ _ _ _ h c.loop-from.auto.from within (slice_get-get_or c.loop-from.ends c.loop-from.from c.index-ends-from.result within) (c.is_empty.ensures.none c.if-is_empty.true)

pub returns-in-Some-clause-some : goal.returns-in-Some-clause-some
returns-in-Some-clause-some g c =
    let h = c.loop-from.invariant in
    let lt : c.loop-from.from < c.args.last = c.loop-from-test.true in
    let within : c.loop-from.from < length c.loop-from.ends = omega (arith, h.count, c.requires.last) in
    let there = slice_get-get_or c.loop-from.ends c.loop-from.from c.index-ends-from.result within ∙ ap Some (sym (c.is_empty.ensures.some c.if-is_empty.false)) in
    takes_here _ _ _ _ _ _ _ _ h c.loop-from.auto.from lt within there c.in-Some.ensures.some

pub loop-from-preserved : goal.loop-from-preserved
loop-from-preserved g c =
    let h = c.loop-from.invariant in
    let lt : c.loop-from.from < c.args.last = c.loop-from-test.true in
    let within : c.loop-from.from < length c.loop-from.ends = omega (arith, h.count, c.requires.last) in
    let there = slice_get-get_or c.loop-from.ends c.loop-from.from c.index-ends-from.result within ∙ ap Some (sym (c.is_empty.ensures.some c.if-is_empty.false)) in
    none_more _ _ _ _ _ _ h c.loop-from.auto.from within there c.in_default.ensures.none

pub returns-clause-none : goal.returns-clause-none
returns-clause-none g c =
    let over : c.args.last ≤ c.loop-from.from = c.loop-from-test.false in
    let end : c.loop-from.from ≡ c.args.last = let e = c.loop-from.auto.from-end c.requires.first in omega arith in
    subst (λ (n : ℕ). NoneAmong c.args.first n c.args.ends.now c.loop-from.ends) end c.loop-from.invariant
