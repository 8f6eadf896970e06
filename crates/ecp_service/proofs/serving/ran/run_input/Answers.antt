use Rattle.std.proofs.Common.{refl}
use Rattle.ecp_command.specs.Input.Accepted.{view}
use Rattle.ecp_command.specs.declared.words.commands.Command.TheVariants.{Run}
use Rattle.ecp_service.proofs.Inputs.{accepted_sessions}
use Rattle.ecp_service.proofs.RunLaws.{run_of}
use Rattle.ecp_service.proofs.serving.ran.run_input.Goals as goal

pub serve-ran-requires-clause-servable : goal.serve-ran-requires-clause-servable
serve-ran-requires-clause-servable g c κs within = accepted_sessions c.in-Ok.ensures.read.bytes (view c.in-Ok.input) c.in-Ok.ensures.read.accepted

pub returns-in-Ok-ran-clause-run : goal.returns-in-Ok-ran-clause-run
returns-in-Ok-ran-clause-run g c =
    let script = c.in-Ok.ensures.read in
    let ran = c.in-Ok-ran.ran in
    record {
      bytes = script.bytes;
      read = script.read;
      command = Run;
      asked = refl;
      answer = run_of g.S.Store.tells g.S.Store.faults g.S.Store.faultless script.bytes (view c.in-Ok.input) c.args.stores.items ran.numbers.items ran.run.replies.items ran.run.journal.lines c.serve-ran.result.1.items
          script.accepted c.in-Ok.ensures.head.sizes (rw c.in-Ok-ran.is at c.serve-ran.ensures.run);
    }
