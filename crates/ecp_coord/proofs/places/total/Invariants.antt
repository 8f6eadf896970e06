use Rattle.std.proofs.Common.{◌≡◌, sum, take}
use Rattle.ecp_coord.proofs.places.total.Given as goal

-- the sum of the numbers so far
abbrev pub invariant-loop-number : goal.invariant-loop-number
invariant-loop-number l = l.all ≡ sum (take l.number-index l.numbers)
