use Rattle.std.proofs.Common.{◌≡◌, List, false, map, sym, subst}
use Rattle.std.specs.Prelude.{All}
use Rattle.ecp_command.specs.Input.Accepted.{session_view}
use Rattle.ecp_command.specs.Input.Calls.{SessionCalls}
use Rattle.ecp_sequencer.specs.Passes.{PassState}
use Rattle.ecp_service.specs.Callers.{replies_of}
use Rattle.ecp_service.specs.Served.{EachServed, answers_by}
use Rattle.ecp_service.specs.declared.serving.caller.Caller.{Caller}
use Rattle.ecp_service.specs.declared.serving.replies.Replies.{Replies}
use Rattle.ecp_service.proofs.SeatLaws.{all_ready, all_served, if_ok, room_of}
use Rattle.ecp_service.proofs.serving.over.served.Goals as goal

pub serve_with_workers-callers-requires-clause-ready : goal.serve_with_workers-callers-requires-clause-ready
serve_with_workers-callers-requires-clause-ready g c κs within =
    all_ready g.N.Names.spare_hands g.N.Names.callers c.args.script.phases (map session_view c.args.script.sessions.items) c.in_ok-callers.callers.items c.in_ok-callers.ensures c.requires.servable

pub returns : goal.returns
returns g c =
    let shape = g.N.Names.shape in
    let told = g.N.Names.told in
    let spares = g.N.Names.spare_hands in
    let callers = g.N.Names.callers in
    let sessions : List SessionCalls = map session_view c.args.script.sessions.items in
    let old : List (Caller g.row.N.Denot) = c.in_ok-callers.callers.items in
    let new : List (Caller g.row.N.Denot) = c.serve_with_workers-callers.result.items in
    if_ok (All (λ (x : Caller g.row.N.Denot). x.failed ≡ false) new) (λ r. r.0.items ≡ map (λ (x : Caller g.row.N.Denot). x.pass) new) (λ r. r.1.items ≡ map replies_of new)
    (λ r. EachServed shape told spares callers sessions (answers_by r.1.items) r.0.items) c.parted.result
    (λ well r passes replies.
    let each : EachServed shape told spares callers sessions (answers_by (map replies_of new)) (map (λ x. x.pass) new) =
    all_served shape told spares callers c.args.script.phases sessions old new c.in_ok-callers.ensures c.requires.servable c.serve_with_workers-callers.ensures well
    (room_of callers c.args.script.sessions.items c.requires.room) in
    subst (λ (ps : List PassState). EachServed shape told spares callers sessions (answers_by r.1.items) ps) (sym passes)
    (subst (λ (rs : List Replies). EachServed shape told spares callers sessions (answers_by rs) (map (λ x. x.pass) new)) (sym replies) each))
    c.parted.ensures.well c.parted.ensures.passes c.parted.ensures.replies
