-- What contracts see of a source and a sink that are kept in memory.
use Rattle.std.specs.Prelude.{ℕ, ◌-◌, min, List, length}
use Rattle.ecp_store.specs.Calls.{Calls}

-- a source: the bytes that it has left, the most that one call moves, and its calls
pub record MemSourceState : Type 0 where
  pub left : List ℕ
  pub piece : ℕ
  pub calls : Calls

-- a sink: the bytes that were appended, how many of them are flushed, how many bytes it has room for in all,
-- the most that one call moves, and its calls
pub record MemSinkState : Type 0 where
  pub appended : List ℕ
  pub flushed : ℕ
  pub room : ℕ
  pub piece : ℕ
  pub calls : Calls

-- how many bytes a pull into a buffer of this length moves
abbrev pub pulled_count : MemSourceState → ℕ → ℕ
pulled_count source buffer = min source.piece (min buffer (length source.left))

-- the room that is left
abbrev pub room_left : MemSinkState → ℕ
room_left sink = sink.room - length sink.appended

-- how many of this many bytes a push moves
abbrev pub pushed_count : MemSinkState → ℕ → ℕ
pushed_count sink bytes = min sink.piece (min bytes (room_left sink))
