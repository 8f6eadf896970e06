use Rattle.ecp_command.proofs.Inputs.Keyed.{keys_refuse}
use Rattle.ecp_command.proofs.input.settings.read_head.Goals as goal

pub returns-in-Ok-clause-refused : goal.returns-in-Ok-clause-refused
returns-in-Ok-clause-refused c =
    keys_refuse c.args.text.now _ c.settings.result (record { utf8 = c.in-Ok.ensures.ok.0; toml = c.in-Ok.ensures.ok.1 }) c.settings.ensures.value
