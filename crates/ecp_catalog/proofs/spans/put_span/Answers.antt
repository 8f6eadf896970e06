use Rattle.std.proofs.Common.{◌≡◌, ◌<◌, ◌≤◌, List, length, get_or, take, sym, ◌∙◌, ap, subst, arith, insert, find}
use Rattle.std.specs.List.{AllByRecursion}
use Rattle.std.proofs.lemmas.List.Elements.{recursion_from_All}
use Rattle.ecp_catalog.specs.declared.limits.TheConstants.{END_OF_STRIPES}
use Rattle.ecp_catalog.specs.declared.span.Span.{Span}
use Rattle.ecp_catalog.specs.Kept.{IsSpread, covers}
use Rattle.ecp_catalog.proofs.SpanLaws.{spread-insert, find-insert, behind_new, first-behind}
use Rattle.ecp_catalog.proofs.spans.put_span.Goals as goal

pub returns-clause-spread : goal.returns-clause-spread
returns-clause-spread c =
    let xs = c.args.spans.now.items in
    let i = c.ended_by-at.result in
    let same : c.deref.result.now ≡ xs = c.deref.ensures.value in
    let before : AllByRecursion (λ x. x.end ≤ c.args.span.first) (take i xs) =
    subst (λ (ys : List Span). AllByRecursion (λ x. x.end ≤ c.args.span.first) (take i ys)) same (recursion_from_All (λ x. x.end ≤ c.args.span.first) (take i c.deref.result.now) c.ended_by-at.ensures.before) in
    let items : c.insert-put.new.self.items ≡ insert xs i c.args.span = rw c.unwrap.ensures at c.insert-put.ensures.items in
    subst (IsSpread 0 END_OF_STRIPES) (sym items)
    (spread-insert 0 END_OF_STRIPES i c.args.span xs c.requires.spread before (omega arith) c.requires.some c.requires.below
    (behind_new 0 END_OF_STRIPES i c.args.span xs c.requires.spread c.requires.some (λ d h.
    subst (λ (ys : List Span). i < length ys → c.args.span.first < (get_or ys i d).end) same (first-behind i c.args.span.first c.deref.result.now c.ended_by-at.ensures.behind d) h) c.requires.fresh))

pub returns-clause-found : goal.returns-clause-found
returns-clause-found c = λ s.
    let xs = c.args.spans.now.items in
    let i = c.ended_by-at.result in
    let same : c.deref.result.now ≡ xs = c.deref.ensures.value in
    let before : AllByRecursion (λ x. x.end ≤ c.args.span.first) (take i xs) =
    subst (λ (ys : List Span). AllByRecursion (λ x. x.end ≤ c.args.span.first) (take i ys)) same (recursion_from_All (λ x. x.end ≤ c.args.span.first) (take i c.deref.result.now) c.ended_by-at.ensures.before) in
    let items : c.insert-put.new.self.items ≡ insert xs i c.args.span = rw c.unwrap.ensures at c.insert-put.ensures.items in
    ap (find (covers s)) items ∙ find-insert s i c.args.span xs before
