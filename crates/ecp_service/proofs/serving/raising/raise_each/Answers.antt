use Rattle.std.proofs.Common.{◌≡◌, ◌∙◌, refl, sym, ap, subst, get_or}
use mathlib.Core.List.{IsPrefix}
use Rattle.ecp_book.specs.Logs.{Known}
use Rattle.ecp_sequencer.specs.Passes.{PassState, longer}
use Rattle.ecp_service.specs.Served.{Grown}
use Rattle.ecp_service.proofs.RaiseLaws.{grown_by, raised_step}
use Rattle.ecp_service.proofs.serving.raising.raise_each.Goals as goal

pub loop-caller-preserved : goal.loop-caller-preserved
loop-caller-preserved g c =
    let was = c.loop-caller.invariant in
    let now = c.loop-caller.callers in
    let place = c.loop-caller.caller-index in
    let e = c.caller-item.result in
    let v : PassState = (get_or now place e).pass in
    let u : PassState = c.raise.new.pass in
    let p : PassState = c.front-front.new.pass in
    let kept : p ≡ u = c.front-front.ensures.kept in
    let grown : Grown v p = subst (Grown v) (sym kept) (grown_by v u (longer v.front c.loop-caller.front.items) c.raise.ensures.raised c.raise.ensures.extends) in
    let reaches : IsPrefix c.loop-caller.front.items p.front = subst (λ (x : PassState). IsPrefix c.loop-caller.front.items x.front) (sym kept) c.raise.ensures.reaches in
    record {
      log = ap (λ (k : Known). k.log) c.front-front.ensures.front;
      so = raised_step c.args.front.items c.args.callers.now place now c.loop-caller.front.items c.front-front.result.items (record (get_or now place e) { pass = p }) e was.so
          c.loop-caller-test.true refl grown reaches (ap (λ (k : Known). k.items) c.front-front.ensures.front ∙ ap (λ (x : PassState). x.front) (sym kept));
    }
