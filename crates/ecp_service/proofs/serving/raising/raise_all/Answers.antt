use Rattle.std.proofs.Common.{◌≡◌, ◌∙◌, List, ap, get_or, set, subst}
use Rattle.std.proofs.lemmas.List.{set-get_or}
use Rattle.ecp_sequencer.specs.Passes.{PassState}
use Rattle.ecp_service.specs.Callers.{RaisedBy}
use Rattle.ecp_service.specs.declared.serving.caller.Caller.{Caller}
use Rattle.ecp_service.proofs.RaiseLaws.{raised_twice}
use Rattle.ecp_service.proofs.serving.raising.raise_all.Goals as goal

pub returns : goal.returns
returns g c =
    let old : List (Caller g.row.N.Denot) = c.args.callers.now in
    let x : Caller g.row.N.Denot = c.index-callers-0.result in
    let first = c.front-first.result.items in
    let middle = c.raise_each-longest.result.items in
    let last = c.raise_each.result.items in
    let mid = c.raise_each-longest.new.callers in
    let same : set old 0 (record (get_or old 0 x) { pass = c.front-first.new.pass }) ≡ old =
    ap (λ (p : PassState). set old 0 (record (get_or old 0 x) { pass = p })) c.front-first.ensures.kept ∙ set-get_or old 0 x in
    let one : RaisedBy first old mid middle = subst (λ (cs : List (Caller g.row.N.Denot)). RaisedBy first cs mid middle) same c.raise_each-longest.ensures.raised in
    raised_twice first middle last old mid c.raise_each.new.callers one c.raise_each.ensures.raised
