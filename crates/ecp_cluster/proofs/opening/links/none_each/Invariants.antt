use Rattle.std.proofs.Common.{◌≡◌, vec_len}
use Rattle.std.specs.Prelude.{All}
use Rattle.ecp_cluster.proofs.opening.links.none_each.Given as goal

abbrev pub invariant-loop : goal.invariant-loop
invariant-loop g l = record {
  owners : vec_len l.all ≡ l.counter;
  none : All (λ v. vec_len v ≡ 0) l.all.items;
}
