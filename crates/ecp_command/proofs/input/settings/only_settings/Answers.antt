use Rattle.std.proofs.Common.{rules, tests, ◌∙◌, string_bytes}
use Rattle.std.specs.BTreeMap.{keys}
use Rattle.std.proofs.lemmas.Iterator.Consumers.{YieldsList-from_rest}
use Rattle.std.proofs.lemmas.Iterator.Search.{all_from_yields_List}
use Rattle.ecp_command.specs.Input.Settings.{is_setting}
use Rattle.ecp_command.proofs.Inputs.Tops.{only_keys}
use Rattle.ecp_command.proofs.input.settings.only_settings.Goals as goal

pub returns : goal.returns
returns c =
    all_from_yields_List (λ k. is_setting (string_bytes k)) _ _ _ c.all.ensures.ran (YieldsList-from_rest (keys c.args.table.now) c.keys.ensures.rest) (λ x b q k. search (rules, tests))
    ∙ only_keys c.args.table.now.entries
