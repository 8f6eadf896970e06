use Rattle.std.proofs.Common.{◌≡◌, ◌-◌, ◌++◌, map, take, replicate}
use Rattle.std.specs.List.{range_with_len}
use Rattle.ecp_code.proofs.HelperLaws.{other}
use Rattle.ecp_code.proofs.code.Code.helpers.Given as goal

abbrev pub invariant-loop-i : goal.invariant-loop-i
invariant-loop-i l = l.rows ≡ map (other l.row) (take l.i (range_with_len 0 16)) ++ replicate (16 - l.i) 0
