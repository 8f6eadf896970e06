use Rattle.std.proofs.Common.{◌≡◌, ◌+◌, vec_len}
use Rattle.ecp_cluster.proofs.OpenLaws.{DealtTo}
use Rattle.ecp_cluster.proofs.opening.links.deal.Given as goal

abbrev pub invariant-loop-owner : goal.invariant-loop-owner
invariant-loop-owner g l = record {
  left : vec_len l.row + l.owner ≡ vec_len l.fn.all;
  same : vec_len l.all ≡ vec_len l.fn.all;
  dealt : DealtTo vec_len l.fn.all.items l.all.items l.owner;
}
