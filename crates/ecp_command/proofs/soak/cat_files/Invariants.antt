use Rattle.std.proofs.Common.{◌≡◌, ◌-◌, ◌*◌, ◌≤◌, ◌++◌, map}
use Rattle.std.specs.List.{range_with_len}
use Rattle.ecp_command.specs.declared.input.call.Call.TheVariants.{Cat}
use Rattle.ecp_command.specs.Input.Calls.{planned}
use Rattle.ecp_command.specs.Soak.{soak_name}
use Rattle.ecp_command.proofs.soak.cat_files.Given as goal

abbrev pub invariant-loop-file : goal.invariant-loop-file
invariant-loop-file l = record {
  low : 4 * l.fn.session ≤ l.file;
  calls : l.calls.items ≡ l.initial.calls.items ++ map (λ m. planned l.fn.phase (Cat (soak_name m))) (range_with_len (4 * l.fn.session) (l.file - 4 * l.fn.session));
}
