-- The callers of a run while the calls of their sessions are served, phase by phase.
use Rattle.std.specs.Prelude.{◌≡◌, ◌≢◌, ℕ, ◌<◌, ◌≤◌, Bool, false, List, [], ◌∷◌, ◌++◌, drop, length, slice_get, slice_index_or, vec_capacity, MatchOption, Some, ⊤}
use mathlib.Core.List.{IsPrefix}
use Rattle.ecp_book.specs.Logs.{Log}
use Rattle.ecp_cluster.specs.declared.answer.Answer.{Answer}
use Rattle.ecp_command.specs.Input.Calls.{SessionCalls}
use Rattle.ecp_command.specs.declared.input.planned.Planned.{Planned}
use Rattle.ecp_sequencer.specs.Passes.{IsWhole, PassState, first_pass}
use Rattle.ecp_service.specs.Servable.{AreRising, EachServable}
use Rattle.ecp_service.specs.Served.{AnsweredCall, Grown, Served, calls_by}
use Rattle.ecp_service.specs.declared.serving.caller.Caller.{Caller}
use Rattle.ecp_service.specs.declared.serving.replies.Replies.{Replies}
use Rattle.ecp_shape.specs.declared.shape.Shape.{Shape}

-- a caller that made none of its calls, which has room for the answers of all
pub record IsSeated {N : Type 0} (first : PassState) (asked : List Planned) (c : Caller N) : Type 0 where
  pub pass : c.pass ≡ first
  pub calls : c.calls.items ≡ asked
  pub none : c.answers.items ≡ []
  pub room : length asked ≤ vec_capacity c.answers
  pub well : c.failed ≡ false

-- the callers of these sessions, each with its first pass
pub record AreSeated {N : Type 0} (spares callers : ℕ) (sessions : List SessionCalls) (cs : List (Caller N)) : Type 0 where
  pub each : length cs ≡ callers
  pub seated : (c : ℕ) (d : Caller N) → c < callers → IsSeated (first_pass spares c) (calls_by sessions c) (slice_index_or cs c d)

-- the answers of a caller
abbrev pub replies_of : {N : Type 0} → Caller N → Replies
replies_of c = record { answers = c.answers }

-- the first of these calls, as many as there are answers, were answered so, one after another, and are of this phase
abbrev pub ServedOf : Shape → Bool → ℕ → PassState → List Planned → List Answer → PassState → Type 0
ServedOf shape told phase v calls [] w = w ≡ v
ServedOf shape told phase v [] (a ∷ answers) w = ⊥
ServedOf shape told phase v (p ∷ calls) (a ∷ answers) w =
    (p.phase ≡ phase) × (u : PassState) × AnsweredCall shape told v p.call a u × ServedOf shape told phase u calls answers w

-- the call at this place is not of this phase, where there is one
abbrev pub IsPast : ℕ → List Planned → ℕ → Type 0
IsPast phase calls at = MatchOption (slice_get calls at) ⊤ (λ p. p.phase ≢ phase)

-- a caller has its pass whole and room for the answers to its calls, and those can be served
pub record CanServe {N : Type 0} (c : Caller N) : Type 0 where
  pub whole : IsWhole c.pass
  pub room : length c.calls.items ≤ vec_capacity c.answers
  pub servable : EachServable c.calls.items

-- such a caller, which made none of its calls, and whose calls stand in the order of their phases
pub record IsReady {N : Type 0} (c : Caller N) : Type 0 where
  pub can : CanServe c
  pub none : c.answers.items ≡ []
  pub rising : AreRising 0 c.calls.items

-- Of these calls, the first of which have these answers, all that come next in a phase were answered: a pass went from v to w
pub record ServedNext (shape : Shape) (told : Bool) (phase : ℕ) (calls : List Planned) (old : List Answer) (v : PassState) (new : List Answer) (w : PassState) : Type 0 where
  pub given : List Answer
  pub answers : new ≡ old ++ given
  pub served : ServedOf shape told phase v (drop (length old) calls) given w
  pub past : IsPast phase calls (length new)

-- a caller has its calls still, and room for the answers, and its pass is whole if it was
pub record IsSame {N : Type 0} (v w : Caller N) : Type 0 where
  pub whole : IsWhole v.pass → IsWhole w.pass
  pub calls : w.calls.items ≡ v.calls.items
  pub room : vec_capacity w.answers ≡ vec_capacity v.answers

-- A caller's next calls in a phase were answered, unless memory ran out for one of its calls. Its front has grown in either case
pub record ServedPhase {N : Type 0} (shape : Shape) (told : Bool) (phase : ℕ) (v w : Caller N) : Type 0 where
  pub same : IsSame v w
  pub grows : IsPrefix v.pass.front w.pass.front
  pub well : w.failed ≡ false → v.failed ≡ false
  pub served : w.failed ≡ false → ServedNext shape told phase v.calls.items v.answers.items v.pass w.answers.items w.pass

-- a caller is as it was, but that the front of its pass has grown to at least this length
pub record IsRaisedTo {N : Type 0} (top : ℕ) (v w : Caller N) : Type 0 where
  pub same : w ≡ record v { pass = w.pass }
  pub grown : Grown v.pass w.pass
  pub reaches : top ≤ length w.pass.front

-- Each caller was raised by this front, so that all fronts are at least as long, and the last front is as long as any of theirs was
pub record RaisedBy {N : Type 0} (front : Log) (old new : List (Caller N)) (last : Log) : Type 0 where
  pub each : length new ≡ length old
  pub longest : length front ≤ length last
  pub within : (c : ℕ) (d : Caller N) → c < length old → length (slice_index_or old c d).pass.front ≤ length last
  pub raised : (c : ℕ) (d : Caller N) → c < length old → IsRaisedTo (length front) (slice_index_or old c d) (slice_index_or new c d)

-- each caller was raised to a front that is as long as any of theirs was
pub record AreRaised {N : Type 0} (old new : List (Caller N)) : Type 0 where
  pub top : ℕ
  pub each : length new ≡ length old
  pub within : (c : ℕ) (d : Caller N) → c < length old → length (slice_index_or old c d).pass.front ≤ top
  pub raised : (c : ℕ) (d : Caller N) → c < length old → IsRaisedTo top (slice_index_or old c d) (slice_index_or new c d)

-- A caller whose calls of the phases before this one were answered, and no others, unless memory ran out for one. Its front is as long as
-- the history was when this phase began
pub record IsAt {N : Type 0} (shape : Shape) (told : Bool) (fences : ℕ → ℕ) (phase : ℕ) (v w : Caller N) : Type 0 where
  pub same : IsSame v w
  pub begun : fences phase ≤ length w.pass.front
  pub served : w.failed ≡ false → Served shape told fences v.pass v.calls.items w.answers.items w.pass
  pub done : w.failed ≡ false → (i : ℕ) (p : Planned) → slice_get v.calls.items i ≡ Some p → i < length w.answers.items → p.phase < phase
  pub left : w.failed ≡ false → (i : ℕ) (p : Planned) → slice_get v.calls.items i ≡ Some p → length w.answers.items ≤ i → phase ≤ p.phase

-- so are all callers
pub record AreAt {N : Type 0} (shape : Shape) (told : Bool) (phase : ℕ) (old new : List (Caller N)) : Type 0 where
  pub fences : ℕ → ℕ
  pub rising : (i j : ℕ) → i ≤ j → fences i ≤ fences j
  pub each : length new ≡ length old
  pub at : (c : ℕ) (d : Caller N) → c < length old → IsAt shape told fences phase (slice_index_or old c d) (slice_index_or new c d)
