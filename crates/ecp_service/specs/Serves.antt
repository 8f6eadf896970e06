-- When a history serves an input: it has just the calls of the input, each once and in its session's order.
use Rattle.std.specs.Prelude.{◌≡◌, ℕ, ◌+◌, ◌<◌, nat_lt, true, if◌then◌else◌, List, map, count_by, find, slice_get, Some, IsSomeAnd, Contains}
use Rattle.std.specs.List.{enumerate_from, flat_map}
use Rattle.std.specs.Option.{option_map_or}
use Rattle.ecp_cluster.specs.Whole.{opened_count}
use Rattle.ecp_command.specs.Input.Accepted.{Content}
use Rattle.ecp_command.specs.declared.input.planned.Planned.{Planned}
use Rattle.ecp_entry.specs.declared.act.Act.{Act}
use Rattle.ecp_entry.specs.declared.act.Act.TheVariants.{Whole, Broken, Rebuilt}
use Rattle.ecp_entry.specs.declared.entry.Entry.{Entry}
use Rattle.ecp_history.specs.Counted.{DropsCounted}
use Rattle.ecp_history.specs.Files.{is_stored, Storing, StripesBounded}
use Rattle.ecp_history.specs.Spans.{ends, is_part}
use Rattle.ecp_service.specs.Asked.{deed_of, put_bytes, put_stripes, call_at}
use Rattle.ecp_shape.specs.declared.limits.TheConstants.{MAX_SESSIONS}
use Rattle.ecp_shape.specs.declared.shape.Shape.{Shape}

-- an entry has the deed of its call, and the bytes of its put where it stores a file
pub record IsOfCall (e : Entry) (planned : Planned) : Type 0 where
  pub deed : e.deed ≡ Some (deed_of planned.call)
  pub bytes : is_stored e.line.act ≡ true → e.bytes ≡ put_bytes planned.call

-- each entry of a session is of a call of the input
abbrev pub NamesCalls : Content → List Entry → Type 0
NamesCalls input history =
    (i : ℕ) (e : Entry) → slice_get history i ≡ Some e → e.line.caller < MAX_SESSIONS → IsSomeAnd (call_at input e.line.caller e.line.call) (IsOfCall e)

-- how many blocks the file has that a call opened in its part 0
abbrev pub opened_blocks : List Entry → ℕ → ℕ → ℕ
opened_blocks history caller call = option_map_or (λ e. opened_count e.line.act) (find (is_part caller call 0) history) 0

-- how many parts a call has before its end, by the act of that end
abbrev pub part_count : ℕ → Act → ℕ
part_count opened Whole = opened + 1
part_count opened (Broken index) = index + 2
part_count opened (Rebuilt restored live clash gone failed unsteady down) = restored + live + clash + gone + failed + unsteady + down + 1
part_count opened _ = 0

-- a call has one end, and each of the parts that this end asks for once
pub record IsComplete (history : List Entry) (caller call : ℕ) : Type 0 where
  pub one_end : count_by (ends caller call) history ≡ 1
  pub parts : (e : Entry) (j : ℕ) → Contains history e → ends caller call e ≡ true →
      count_by (is_part caller call j) history ≡ (if nat_lt j (part_count (opened_blocks history caller call) e.line.act) then 1 else 0)

-- each call of the input is complete
abbrev pub EachComplete : Content → List Entry → Type 0
EachComplete input history =
    (caller call : ℕ) (planned : Planned) → call_at input caller call ≡ Some planned → IsComplete history caller call

-- the entries of an earlier call of a session stand before those of a later one
abbrev pub AreInOrder : List Entry → Type 0
AreInOrder history =
    (i j : ℕ) (d e : Entry) → slice_get history i ≡ Some d → slice_get history j ≡ Some e →
    d.line.caller < MAX_SESSIONS → d.line.caller ≡ e.line.caller → d.line.call < e.line.call → i < j

-- the phase of the call of an entry
abbrev pub phase_of : Content → Entry → ℕ
phase_of input e = option_map_or (λ p. p.phase) (call_at input e.line.caller e.line.call) 0

-- the point of an entry is behind every entry of an earlier phase
abbrev pub PhasesApart : Content → List Entry → Type 0
PhasesApart input history =
    (i j : ℕ) (d e : Entry) → slice_get history i ≡ Some d → slice_get history j ≡ Some e →
    d.line.caller < MAX_SESSIONS → e.line.caller < MAX_SESSIONS → phase_of input d < phase_of input e → i < e.line.point

-- the puts of the input, each with the stripes that it may store
abbrev pub puts_of : Shape → Content → List Storing
puts_of shape input =
    flat_map (λ s. map (λ p. record { caller = s.number; call = p.0; stripes = put_stripes shape p.1.call }) (enumerate_from 0 s.calls)) input.sessions

-- the history serves the input
pub record Serves (shape : Shape) (input : Content) (history : List Entry) : Type 0 where
  pub calls : NamesCalls input history
  pub complete : EachComplete input history
  pub ordered : AreInOrder history
  pub phases : PhasesApart input history
  pub drops : DropsCounted shape history
  pub stripes : StripesBounded (puts_of shape input) history
