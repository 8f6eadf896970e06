-- The calls of a script, with their sessions and phases.
use Rattle.std.specs.Prelude.{ℕ, ◌+◌, ◌==◌, not, Bool, true, false, List, [], ◌∷◌, length, map, filter, count_by, sum_by}
use Rattle.std.specs.List.{range_with_len}
use Rattle.ecp_shape.specs.declared.limits.TheConstants.{MAX_SESSIONS}
use Rattle.ecp_command.specs.declared.input.call.Call.{Call as TheCall}
use Rattle.ecp_command.specs.declared.input.form.Form.{Form}
use Rattle.ecp_command.specs.declared.input.form.Form.TheVariants.{Session, Barrier, Call}
use Rattle.ecp_command.specs.declared.input.planned.Planned.{Planned}

-- a call in this phase
abbrev pub planned : ℕ → TheCall → Planned
planned phase call = record { phase = phase; call = call }

-- Each call with its session and its phase. The lines after a `session` belong to that one, also over a `barrier`, and those before the
-- first one to session 0. The lines after a `barrier` are in the next phase, and those before the first one in phase 0.
abbrev pub calls_from : (session phase : ℕ) → List Form → List (ℕ × Planned)
calls_from session phase [] = []
calls_from session phase (Session number ∷ rest) = calls_from number phase rest
calls_from session phase (Barrier ∷ rest) = calls_from session (phase + 1) rest
calls_from session phase (Call call ∷ rest) = (session, planned phase call) ∷ calls_from session phase rest

abbrev pub calls_of : List Form → List (ℕ × Planned)
calls_of forms = calls_from 0 0 forms

-- whether the next phase begins at the line
abbrev pub is_barrier : Form → Bool
is_barrier (Session number) = false
is_barrier Barrier = true
is_barrier (Call call) = false

-- how many phases the lines are in
abbrev pub phases_of : List Form → ℕ
phases_of forms = 1 + count_by is_barrier forms

-- the calls of one session, in their order
pub record SessionCalls : Type 0 where
  pub number : ℕ
  pub calls : List Planned

abbrev pub session_of : List (ℕ × Planned) → ℕ → SessionCalls
session_of cs number = record { number = number; calls = map (λ c. c.1) (filter (λ c. c.0 == number) cs) }

-- how many calls the sessions have
abbrev pub call_count : List SessionCalls → ℕ
call_count sessions = sum_by (λ s. length s.calls) sessions

abbrev pub has_calls : SessionCalls → Bool
has_calls s = not (length s.calls == 0)

-- the sessions with at least one call, in rising order
abbrev pub sessions_of : List Form → List SessionCalls
sessions_of forms = filter has_calls (map (session_of (calls_of forms)) (range_with_len 0 MAX_SESSIONS))
