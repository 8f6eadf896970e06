use Rattle.std.proofs.Common.{◌≡◌, map, take}
use Rattle.ecp_slice.proofs.hops.receipts.Given as goal

abbrev pub invariant-loop-i : goal.invariant-loop-i
invariant-loop-i g l = record {
  copied : l.receipts.items ≡ map (λ hop. hop.receipt) (take l.i l.hops);
  kept : l.hops ≡ l.fn.hops;
}
