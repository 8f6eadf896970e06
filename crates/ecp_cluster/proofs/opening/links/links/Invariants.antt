use Rattle.std.proofs.Common.{◌≡◌, vec_len}
use Rattle.std.specs.Prelude.{All}
use Rattle.ecp_cluster.proofs.opening.links.links.Given as goal

abbrev pub invariant-loop : goal.invariant-loop
invariant-loop g l = record {
  owners : vec_len l.all ≡ l.owners;
  senders : All (λ v. vec_len v ≡ l.counter) l.all.items;
  takers : vec_len l.takers ≡ l.counter;
}
