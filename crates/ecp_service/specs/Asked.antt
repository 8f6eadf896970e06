-- What the calls of an input ask for.
use Rattle.std.specs.Prelude.{ℕ, ◌==◌, List, [], length, find, slice_get, Option}
use Rattle.std.specs.Option.{option_map_or}
use Rattle.ecp_code.specs.Stripes.{stripe_count}
use Rattle.ecp_command.specs.Input.Accepted.{Content}
use Rattle.ecp_command.specs.declared.input.call.Call.{Call}
use Rattle.ecp_command.specs.declared.input.call.Call.TheVariants.{Put, Read, Sum, Cat, Lose, Join, Rebuild, Stat}
use Rattle.ecp_command.specs.declared.input.planned.Planned.{Planned}
use Rattle.ecp_entry.specs.declared.deed.Deed.{Deed}
use Rattle.ecp_entry.specs.declared.deed.Deed.TheVariants as deed
use Rattle.ecp_shape.specs.declared.shape.Shape.{Shape}

-- what a call asks for, without the bytes of a put
abbrev pub deed_of : Call → Deed
deed_of (Put name bytes) = deed.Put name (length bytes)
deed_of (Read name index) = deed.Read name index
deed_of (Sum name index) = deed.Sum name index
deed_of (Cat name) = deed.Cat name
deed_of (Lose node) = deed.Lose node
deed_of (Join node) = deed.Join node
deed_of (Rebuild from to) = deed.Rebuild from to
deed_of (Stat name) = deed.Stat name

-- the bytes that a call puts
abbrev pub put_bytes : Call → List ℕ
put_bytes (Put name bytes) = bytes
put_bytes _ = []

-- how many stripes a call puts
abbrev pub put_stripes : Shape → Call → ℕ
put_stripes shape (Put name bytes) = stripe_count shape.k shape.block (length bytes)
put_stripes shape _ = 0

-- the calls of a session, in their order
abbrev pub calls_in : Content → ℕ → List Planned
calls_in input session = option_map_or (λ s. s.calls) (find (λ s. s.number == session) input.sessions) []

-- the call of a session with this number, if there is one
abbrev pub call_at : Content → ℕ → ℕ → Option Planned
call_at input session number = slice_get (calls_in input session) number
