use Rattle.std.proofs.Common.{sym, ap, ◌∙◌, arith, ◌≡◌, length}
use Rattle.ecp_command.proofs.Decimals.{same_number}
use Rattle.ecp_command.proofs.Generating.{length-generated}
use Rattle.ecp_command.proofs.Inputs.Recipes.{recipe_at}
use Rattle.ecp_command.proofs.input.forms.made.Goals as goal

pub returns-in_default-wide_number : goal.returns-in_default-wide_number
returns-in_default-wide_number c = λ bytes h _.
    c.in_default-wide_number.ensures.none h.seed h.seed_fits (recipe_at c.args.recipe.now c.in-Some.seed.now c.in-Some.len.now bytes c.in-Some.ensures.some h).0

pub returns-in_default-number : goal.returns-in_default-number
returns-in_default-number c = λ bytes h _.
    c.in_default-number.ensures.none h.len h.len_fits (recipe_at c.args.recipe.now c.in-Some.seed.now c.in-Some.len.now bytes c.in-Some.ensures.some h).1

pub returns-then-from-gt-MAX_PUT_BYTES : goal.returns-then-from-gt-MAX_PUT_BYTES
returns-then-from-gt-MAX_PUT_BYTES c = λ bytes h short.
    let len = c.in-Some-number.len in
    let spelled = (recipe_at c.args.recipe.now c.in-Some.seed.now c.in-Some.len.now bytes c.in-Some.ensures.some h).1 in
    let same : len ≡ h.len = same_number len h.len (omega arith) h.len_fits (sym c.in-Some-number.ensures.some ∙ spelled) in
    let made : length bytes ≡ h.len = ap length h.made ∙ length-generated h.seed h.len in
    omega (arith, same, made, short, c.if-from-gt-MAX_PUT_BYTES.true, c.from.ensures)
