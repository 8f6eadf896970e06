use Rattle.std.proofs.Common.{◌≡◌, ◌+◌, ◌*◌, ◌≤◌, ◌++◌, decimal, length, map, take}
use Rattle.ecp_text.specs.Words.{spaced}
use Rattle.ecp_text.specs.declared.bytes.TheConstants.{NUMBER_ROOM}
use Rattle.ecp_text.proofs.line_buffer.LineBuffer.put_numbers.Given as goal

abbrev pub invariant-loop-number : goal.invariant-loop-number
invariant-loop-number l = record {
  within : length l.self ≤ length l.fn.self + NUMBER_ROOM * l.number-index;
  text : l.self ≡ l.fn.self ++ spaced (map decimal (take l.number-index l.numbers));
}
