use Rattle.std.proofs.Common.{◌≡◌, ℕ, Some, length, slice_get}
use Rattle.ecp_link.specs.Links.{Sending, Taking, IsPair}
use Rattle.ecp_link.proofs.making.link.Given as goal

abbrev pub invariant-loop-number : goal.invariant-loop-number
invariant-loop-number g l = record {
  starts : length l.starts.items ≡ l.number;
  ends : length l.ends.items ≡ l.number;
  pairs : (p : ℕ) (s : Sending g.row.T.Denot) (t : Taking g.row.T.Denot) → slice_get l.starts.items p ≡ Some s → slice_get l.ends.items p ≡ Some t → IsPair p l.capacity s t;
}
