use Rattle.std.proofs.Common.{◌≡◌, ◌+◌, List, ℕ, [], ◌∷◌, length, subst, arith}
use Rattle.std.specs.Prelude.{OnOk}
use Rattle.ecp_sequencer.specs.declared.limits.TheConstants.{ROOM}
use Rattle.ecp_sequencer.specs.Notes.{note, beginning_of}
use Rattle.ecp_sequencer.specs.Passes.{PassState}
use Rattle.ecp_sequencer.specs.Rounds.{Began}
use Rattle.ecp_sequencer.specs.Sequencers.{SequencerState}
use Rattle.ecp_sequencer.specs.Steps.{Event, call_with}
use Rattle.ecp_sequencer.proofs.RoundLaws.{began, on_ok}
use Rattle.ecp_sequencer.proofs.tests.spine.begin.Goals as goal

pub returns-clause-ok : goal.returns-clause-ok
returns-clause-ok g c =
    let s : SequencerState = c.meet.new.self in
    let v : PassState = c.meet.new.pass in
    let t : SequencerState = c.begin.new.self in
    let w : PassState = c.begin.new.pass in
    let x : List ℕ = note (length s.history) ROOM (beginning_of (call_with v.calls c.args.deed)) in
    subst (λ (p : PassState). OnOk c.begin.result (Began p c.args.deed w)) c.meet.ensures.pass
    (on_ok (Event g.N.Names.shape g.N.Names.told s v [] (x ∷ []) t w) (w.calls ≡ v.calls + 1) (Began v c.args.deed w) c.begin.result
    (λ ev counted. began g.N.Names.shape g.N.Names.told s t v w (length s.history) ROOM c.args.deed ev counted (omega arith)) c.begin.ensures.ok c.begin.ensures.counted)
