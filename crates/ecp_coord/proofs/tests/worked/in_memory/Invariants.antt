use Rattle.std.proofs.Common.{◌≡◌, ◌≤◌, length, vec_len}
use Rattle.ecp_coord.specs.Coords.{AreNodeLogs}
use Rattle.ecp_coord.proofs.tests.worked.in_memory.Given as goal

abbrev pub invariant-loop-keeper : goal.invariant-loop-keeper
invariant-loop-keeper g l = record {
  few : length l.keepers.items ≤ 3;
  logs : AreNodeLogs (length l.keepers.items) l.keepers.items;
  pass : l.pass ≡ l.fn.pass;
}

abbrev pub decreases-loop-keeper : goal.decreases-loop-keeper
decreases-loop-keeper g l = vec_len l.keepers
