use Rattle.std.proofs.Common.{◌≡◌, ◌+◌, vec_len}
use Rattle.std.specs.Prelude.{All}
use Rattle.ecp_cluster.proofs.opening.wires.ports_over.Given as goal

abbrev pub invariant-loop : goal.invariant-loop
invariant-loop g l = record {
  senders : vec_len l.senders + l.counter ≡ vec_len l.fn.senders;
  takers : vec_len l.takers + l.counter ≡ vec_len l.fn.senders;
  ports : vec_len l.ports ≡ l.counter;
  each : All (λ v. vec_len v ≡ g.N.Names.shape.nodes) l.senders.items;
}
