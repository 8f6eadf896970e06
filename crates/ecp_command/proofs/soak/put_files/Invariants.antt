use Rattle.std.proofs.Common.{◌≡◌, ◌-◌, ◌*◌, ◌≤◌, ◌++◌, map}
use Rattle.std.specs.List.{range_with_len}
use Rattle.ecp_command.specs.declared.input.call.Call.TheVariants.{Put}
use Rattle.ecp_command.specs.Input.Calls.{planned}
use Rattle.ecp_command.specs.Soak.{soak_bytes, soak_name}
use Rattle.ecp_command.proofs.soak.put_files.Given as goal

abbrev pub invariant-loop-file : goal.invariant-loop-file
invariant-loop-file l = record {
  low : 4 * l.fn.session ≤ l.file;
  calls : l.calls.items ≡ l.initial.calls.items ++ map (λ m. planned 0 (Put (soak_name m) (soak_bytes l.fn.seed m))) (range_with_len (4 * l.fn.session) (l.file - 4 * l.fn.session));
}
