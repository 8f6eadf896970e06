-- Which calls of a script can be served, and which sessions.
use Rattle.std.specs.Prelude.{◌≡◌, ℕ, ◌<◌, ◌≤◌, List, [], ◌∷◌, length, slice_get, All, Some}
use Rattle.std.specs.Str.{IsAscii}
use Rattle.ecp_command.specs.Input.Calls.{SessionCalls}
use Rattle.ecp_command.specs.declared.input.call.Call.{Call}
use Rattle.ecp_command.specs.declared.input.call.Call.TheVariants.{Put, Read, Sum, Cat, Lose, Join, Rebuild, Stat}
use Rattle.ecp_command.specs.declared.input.planned.Planned.{Planned}
use Rattle.ecp_shape.specs.declared.limits.TheConstants.{MAX_NAME, MAX_PUT_BYTES, MAX_SESSIONS}

-- a name has at least a byte, is no longer than names may be, and is ASCII
pub record IsShortName (name : List ℕ) : Type 0 where
  pub some : 1 ≤ length name
  pub short : length name ≤ MAX_NAME
  pub ascii : IsAscii name

-- the call is one that is served
abbrev pub IsServable : Call → Type 0
IsServable (Put name bytes) = IsShortName name × (length bytes ≤ MAX_PUT_BYTES)
IsServable (Read name index) = IsShortName name
IsServable (Sum name index) = IsShortName name
IsServable (Cat name) = IsShortName name
IsServable (Lose node) = Unit {0}
IsServable (Join node) = Unit {0}
IsServable (Stat name) = IsShortName name
IsServable (Rebuild from to) = ⊥

-- each of these calls is
abbrev pub EachServable : List Planned → Type 0
EachServable [] = Unit {0}
EachServable (planned ∷ rest) = IsServable planned.call × EachServable rest

-- the calls stand in rising order of their phases, from this one on
abbrev pub AreRising : ℕ → List Planned → Type 0
AreRising phase [] = Unit {0}
AreRising phase (p ∷ rest) = (phase ≤ p.phase) × AreRising p.phase rest

-- a session of calls that are served, each in one of so many phases, in the order of their phases
pub record IsServableSession (phases : ℕ) (s : SessionCalls) : Type 0 where
  pub session : s.number < MAX_SESSIONS
  pub calls : EachServable s.calls
  pub rising : AreRising 0 s.calls
  pub within : All (λ p. p.phase < phases) s.calls

-- these sessions can be served, and stand in rising order of their numbers
pub record AreServable (phases : ℕ) (sessions : List SessionCalls) : Type 0 where
  pub each : (i : ℕ) (s : SessionCalls) → slice_get sessions i ≡ Some s → IsServableSession phases s
  pub apart : (i j : ℕ) (s t : SessionCalls) → i < j → slice_get sessions i ≡ Some s → slice_get sessions j ≡ Some t → s.number < t.number
