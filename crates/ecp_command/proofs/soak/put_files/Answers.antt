use Rattle.std.proofs.Common.{◌≡◌, ℕ, ◌+◌, ◌-◌, ◌*◌, ◌≤◌, ◌++◌, List, map, ◌∙◌, ap, arith}
use Rattle.std.specs.List.{range_with_len}
use Rattle.ecp_command.specs.declared.input.call.Call.TheVariants.{Put}
use Rattle.ecp_command.specs.declared.input.planned.Planned.{Planned}
use Rattle.ecp_command.specs.Input.Calls.{planned}
use Rattle.ecp_command.specs.Soak.{soak_bytes, soak_name}
use Rattle.ecp_command.proofs.Soaking.{files_more}
use Rattle.ecp_command.proofs.soak.put_files.Goals as goal

pub loop-file-preserved : goal.loop-file-preserved
loop-file-preserved c = record {
  low = omega (arith, c.loop-file.invariant.low);
  calls = files_more (λ m. planned 0 (Put (soak_name m) (soak_bytes c.args.seed m))) c.args.calls.now.items c.loop-file.calls.items c.add.new.calls.items (4 * c.args.session) c.loop-file.file
      (planned 0 (Put c.in_ok-name.name c.in_ok-bytes.bytes)) c.loop-file.invariant.low
      (ap (λ (name : List ℕ). planned 0 (Put name c.in_ok-bytes.bytes)) c.in_ok-name.ensures ∙ ap (λ (bytes : List ℕ). planned 0 (Put (soak_name c.loop-file.file) bytes)) c.in_ok-bytes.ensures)
      c.loop-file.invariant.calls c.in_ok-add.ensures;
}

pub returns : goal.returns
returns c =
    let all : c.loop-file.file - 4 * c.args.session ≡ 4 = omega (arith, c.loop-file-test.false, c.loop-file.auto.file-end, c.loop-file.invariant.low, c.requires) in
    c.loop-file.invariant.calls ∙ ap (λ (n : ℕ). c.args.calls.now.items ++ map (λ m. planned 0 (Put (soak_name m) (soak_bytes c.args.seed m))) (range_with_len (4 * c.args.session) n)) all
