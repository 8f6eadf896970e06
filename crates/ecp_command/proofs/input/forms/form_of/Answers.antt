use Rattle.std.proofs.Common.{sym, ◌∙◌}
use Rattle.std.specs.Cmp.Lexicographic.{other_text}
use Rattle.ecp_command.proofs.Inputs.Spelled.{no_word}
use Rattle.ecp_command.proofs.input.forms.form_of.Goals as goal

pub returns-else-eq-8 : goal.returns-else-eq-8
returns-else-eq-8 c = λ f h _.
    no_word c.args.line.now c.in-Some.word.now c.in-Some.rest.now c.in-Some.ensures.some
    (other_text _ _ (sym c.if-eq.false ∙ c.eq.ensures)) (other_text _ _ (sym c.if-eq-2.false ∙ c.eq-else-eq.ensures))
    (other_text _ _ (sym c.if-eq-3.false ∙ c.eq-else-eq-2.ensures)) (other_text _ _ (sym c.if-eq-4.false ∙ c.eq-else-eq-3.ensures))
    (other_text _ _ (sym c.if-eq-5.false ∙ c.eq-else-eq-4.ensures)) (other_text _ _ (sym c.if-eq-6.false ∙ c.eq-else-eq-5.ensures))
    (other_text _ _ (sym c.if-eq-7.false ∙ c.eq-else-eq-6.ensures)) (other_text _ _ (sym c.if-eq-8.false ∙ c.eq-else-eq-7.ensures)) f h
