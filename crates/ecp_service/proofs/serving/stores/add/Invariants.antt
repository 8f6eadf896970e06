use Rattle.std.proofs.Common.{◌≡◌, ◌++◌, vec_capacity}
use Rattle.ecp_service.proofs.serving.stores.add.Given as goal

-- those so far stand behind the others, in the room that there is for all
abbrev pub invariant-loop-store : goal.invariant-loop-store
invariant-loop-store g l = record {
  items : l.all.items ≡ l.fn.all.items ++ l.yielded;
  room : vec_capacity l.all ≡ vec_capacity l.fn.all;
}
