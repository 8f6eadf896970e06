use Rattle.std.proofs.Common.{◌≡◌, ◌+◌, ◌≤◌, reverse, vec_len, vec_capacity}
use Rattle.std.specs.Prelude.{fold}
use Rattle.ecp_history.specs.table.Steps.{placed}
use Rattle.ecp_history.specs.table.Rising.{IsRising}
use Rattle.ecp_history.proofs.table.storing.put_all.Given as goal

abbrev pub invariant-loop-stripe : goal.invariant-loop-stripe
invariant-loop-stripe l = record {
  room : vec_len l.stripes + vec_len l.added ≤ vec_capacity l.stripes;
  rising : IsRising l.stripes.items;
  placed : fold placed l.stripes.items (reverse l.added.items) ≡ fold placed l.fn.stripes.items (reverse l.fn.added.items);
}

abbrev pub decreases-loop-stripe : goal.decreases-loop-stripe
decreases-loop-stripe l = vec_len l.added
