-- The sessions of a script, each with its calls.
use Rattle.std.specs.Prelude.{◌≡◌, ℕ, ◌<◌, List, [], ◌∷◌, ◌++◌, map}
use Rattle.std.specs.List.{range_with_len}
use Rattle.ecp_shape.specs.declared.limits.TheConstants.{MAX_SESSIONS}
use Rattle.ecp_command.specs.declared.input.form.Form.{Form}
use Rattle.ecp_command.specs.declared.input.form.Form.TheVariants.{Session as SessionForm, Barrier, Call}
use Rattle.ecp_command.specs.declared.input.planned.Planned.{Planned}
use Rattle.ecp_command.specs.declared.input.session.Session.{Session}
use Rattle.ecp_command.specs.Input.Accepted.{session_view}
use Rattle.ecp_command.specs.Input.Calls.{session_of}

-- a session that a line names is one of those that there are
abbrev pub IsSession : Form → Type 0
IsSession (SessionForm number) = number < MAX_SESSIONS
IsSession Barrier = Unit {0}
IsSession (Call call) = Unit {0}

-- these are the first sessions, with these calls
abbrev pub HaveCalls : ℕ → List (ℕ × Planned) → List Session → Type 0
HaveCalls count calls sessions = map session_view sessions ≡ map (session_of calls) (range_with_len 0 count)

-- one session has this call more, behind its others
abbrev pub GainCall : ℕ → Planned → List Session → List Session → Type 0
GainCall session planned old new = (calls : List (ℕ × Planned)) → HaveCalls MAX_SESSIONS calls old → HaveCalls MAX_SESSIONS (calls ++ (session, planned) ∷ []) new
