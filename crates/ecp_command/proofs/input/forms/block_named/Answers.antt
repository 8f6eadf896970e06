use Rattle.std.proofs.Common.{sym, ◌∙◌}
use Rattle.std.proofs.lemmas.Bool.{false≢true}
use Rattle.ecp_command.proofs.Inputs.Spelled.{block_at, no_block}
use Rattle.ecp_command.proofs.input.forms.block_named.Goals as goal

pub returns-in_default : goal.returns-in_default
returns-in_default c = λ name index names. no_block c.args.words.now name index c.in_default.ensures.none names

pub returns-then-not-is_name : goal.returns-then-not-is_name
returns-then-not-is_name c = λ name index names.
    let p = block_at c.args.words.now c.in-Some.name.now c.in-Some.index.now name index c.in-Some.ensures.some names in
    false≢true (sym c.if-not-is_name.true ∙ c.is_name.ensures.1 p.is_name)

pub returns-in_default-number : goal.returns-in_default-number
returns-in_default-number c = λ name index names.
    let p = block_at c.args.words.now c.in-Some.name.now c.in-Some.index.now name index c.in-Some.ensures.some names in
    c.in_default-number.ensures.none p.index_is p.fits p.text_is
