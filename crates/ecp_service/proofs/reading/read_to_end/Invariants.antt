use Rattle.std.proofs.Common.{◌+◌, ◌-◌, ◌≡◌, ◌≤◌, ◌++◌, take, vec_len, IsTrue}
use Rattle.ecp_shape.specs.declared.limits.TheConstants.{MAX_INPUT}
use Rattle.ecp_service.proofs.reading.read_to_end.Given as goal

-- the bytes that came and those that are left are those that were there
abbrev pub invariant-loop-filled : goal.invariant-loop-filled
invariant-loop-filled g l =
    let source = g.R.Source in
    record {
      within : vec_len l.buf ≤ MAX_INPUT + 1;
      filled : l.filled ≤ vec_len l.buf;
      sound : source.faults l.input ≡ source.faults l.fn.input;
      all : IsTrue source.tells → take l.filled l.buf.items ++ source.left l.input ≡ source.left l.fn.input;
    }

abbrev pub decreases-loop-filled : goal.decreases-loop-filled
decreases-loop-filled g l = MAX_INPUT + 1 - l.filled
