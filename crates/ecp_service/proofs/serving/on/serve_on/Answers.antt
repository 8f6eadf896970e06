use Rattle.std.proofs.Common.{◌≡◌, List, length, length-take, map, sym, subst, take, ap, arith}
use Rattle.std.specs.Prelude.{max}
use Rattle.ecp_command.specs.Input.Accepted.{session_view}
use Rattle.ecp_command.specs.Input.Calls.{SessionCalls}
use Rattle.ecp_command.specs.Input.Settings.{shape_of}
use Rattle.ecp_service.specs.Over.{IsServedBy, IsServedOn, starts_of}
use Rattle.ecp_service.specs.Served.{answers_by}
use Rattle.ecp_service.specs.declared.serving.sizes.Sizes.{Sizes}
use Rattle.ecp_service.proofs.SeatLaws.{if_ok_by, take_joined}
use Rattle.ecp_service.proofs.serving.on.serve_on.Goals as goal

pub returns-in-Ok-part-clause-served : goal.returns-in-Ok-part-clause-served
returns-in-Ok-part-clause-served g c =
    let tells = g.S.Store.tells in
    let faults = g.S.Store.faults in
    let faultless = g.S.Store.faultless in
    let head = c.args.head.now in
    let stores = c.args.stores.items in
    let used = c.in-Ok-part.used.items in
    let came = c.serve_named-run.result.1.items in
    let joined = c.join.result.items in
    let sizes : Sizes = c.sizes_of-sizes.result in
    let sessions : List SessionCalls = map session_view c.args.script.sessions.items in
    let first : used ≡ take head.nodes stores = c.in-Ok-part.ensures.ok.0 in
    let long : length came ≡ head.nodes =
    omega (arith, c.serve_named-run.ensures.back, c.serve_named-run.result.1.ok, c.in-Ok-part.used.ok, ap (λ xs. length xs) first, length-take head.nodes stores, c.requires.enough, c.args.stores.ok) in
    let back : take head.nodes joined ≡ came = take_joined c.in-Ok.all.items came c.in-Ok-part.rest.items joined head.nodes c.join.ensures c.in-Ok.ensures.items long in
    if_ok_by (λ run. IsServedBy sizes.shape tells sizes.callers sizes.hands sessions faults (starts_of faults faultless used) (answers_by run.replies.items) run.journal.lines came)
    (λ run. IsServedOn head tells faults faultless c.args.callers sessions stores (answers_by run.replies.items) run.journal.lines joined) c.serve_named-run.result.0
    (λ run by.
    subst (λ news. IsServedBy (shape_of head) tells c.args.callers (max head.workers 1) sessions faults (starts_of faults faultless (take head.nodes stores)) (answers_by run.replies.items) run.journal.lines news) (sym back)
    (subst (λ us. IsServedBy (shape_of head) tells c.args.callers (max head.workers 1) sessions faults (starts_of faults faultless us) (answers_by run.replies.items) run.journal.lines came) first
    (subst (λ (z : Sizes). IsServedBy z.shape tells z.callers z.hands sessions faults (starts_of faults faultless used) (answers_by run.replies.items) run.journal.lines came)
    c.sizes_of-sizes.ensures by)))
    c.serve_named-run.ensures.served
