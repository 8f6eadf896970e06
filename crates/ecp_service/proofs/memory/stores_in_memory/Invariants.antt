use Rattle.std.proofs.Common.{◌≡◌, ◌≤◌, vec_len, vec_capacity}
use Rattle.ecp_service.proofs.memory.stores_in_memory.Given as goal

abbrev pub invariant-loop-node : goal.invariant-loop-node
invariant-loop-node l = record {
  made : vec_len l.stores ≡ l._node;
  room : 32 ≤ vec_capacity l.stores;
}
