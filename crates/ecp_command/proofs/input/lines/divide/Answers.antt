use Rattle.std.proofs.Common.{sym, ◌∙◌, arith}
use Rattle.std.specs.Cmp.Lexicographic.{same_text, other_text}
use Rattle.ecp_command.proofs.Inputs.Dividing.{ends_at, ends_last, goes_on, no_rule, is_small, room_after}
use Rattle.ecp_command.proofs.input.lines.divide.Goals as goal

pub returns-then-eq-clause-some : goal.returns-then-eq-clause-some
returns-then-eq-clause-some c = ends_at c.args.bytes.now c.lines.rest.now c.in-Some.line.now c.in-Some.after.now c.lines.first c.lines.invariant c.in-Some.ensures.some (same_text _ _ (sym c.if-eq.true ∙ c.eq.ensures))

pub overflow_add-first : goal.overflow_add-first
overflow_add-first c = omega (arith, is_small _ _ _ c.lines.invariant)

pub lines-preserved : goal.lines-preserved
lines-preserved c = goes_on _ c.lines.rest.now c.in-Some.line.now c.in-Some.after.now c.lines.first c.lines.invariant c.in-Some.ensures.some (other_text _ _ (sym c.if-eq.false ∙ c.eq.ensures))

pub returns-then-eq-2-clause-some : goal.returns-then-eq-2-clause-some
returns-then-eq-2-clause-some c = ends_last c.args.bytes.now c.lines.rest.now c.lines.first c.lines.invariant c.in_default.ensures.none (same_text _ _ (sym c.if-eq-2.true ∙ c.eq-2.ensures))

pub returns-else-eq-2-clause-none : goal.returns-else-eq-2-clause-none
returns-else-eq-2-clause-none c = no_rule _ c.lines.rest.now c.lines.first c.lines.invariant c.in_default.ensures.none (other_text _ _ (sym c.if-eq-2.false ∙ c.eq-2.ensures))

pub returns-then-eq-clause-room : goal.returns-then-eq-clause-room
returns-then-eq-clause-room c = room_after c.args.bytes.now c.lines.rest.now c.in-Some.line.now c.in-Some.after.now c.lines.first c.lines.invariant c.in-Some.ensures.some

pub returns-then-eq-2-clause-room : goal.returns-then-eq-2-clause-room
returns-then-eq-2-clause-room c = omega (arith, is_small c.args.bytes.now c.lines.rest.now c.lines.first c.lines.invariant)
