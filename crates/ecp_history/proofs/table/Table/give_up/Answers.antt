use Rattle.std.proofs.Common.{◌≡◌, ◌==◌, length, refl, sym, ◌∙◌, ap, subst, List, false, if◌then◌else◌}
use Rattle.std.specs.List.{AllByRecursion}
use Rattle.ecp_history.specs.table.Tables.{Stripe, Standing}
use Rattle.ecp_history.specs.table.Steps.{with_rows, change_row}
use Rattle.ecp_history.specs.table.Rising.{IsRising}
use Rattle.ecp_history.proofs.tables.KeptLaws.{kept_by, rising-with_rows, full-with_rows, written_over}
use Rattle.ecp_history.proofs.table.Table.give_up.Goals as goal

pub invariant_of-self : goal.invariant_of-self
invariant_of-self c =
    let change : Stripe → List Standing = λ x. if x.number == c.args.stripe then change_row (λ y. record { node = y.node; live = false }) c.args.row x.rows else x.rows in
    let old = c.self.inside.stripes.items in
    let written = written_over c.self.inside.stripes.len c.give_up_in.new.stripes old (c.give_up_in.auto.stripes ∙ c.deref_mut.ensures.len) in
    let is = written ∙ c.give_up_in.ensures ∙ ap (with_rows change) c.deref_mut.ensures.value in
    kept_by c.self.inside _ c.self.invariant refl refl refl refl refl
    (subst IsRising (sym is) (rising-with_rows change old c.self.invariant.rising))
    (subst (AllByRecursion (λ x. length x.blocks ≡ c.self.inside.shape.k)) (sym is) (full-with_rows change c.self.inside.shape.k old c.self.invariant.full))
