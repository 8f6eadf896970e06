use Rattle.std.proofs.Common.{◌≡◌, ◌<◌, ℕ, List, ap, sym, subst, slice_get, false, true, ◌∙◌, count_by}
use Rattle.std.specs.Option.{option_map_or}
use Rattle.std.proofs.lemmas.List.Elements.{All-weaker}
use Rattle.ecp_history.specs.declared.table.standing.Standing.{Standing}
use Rattle.ecp_history.specs.table.Tables.{is_live, is_up}
use Rattle.ecp_history.specs.table.Steps.{table_of}
use Rattle.ecp_plan.specs.declared.live_row.LiveRow.{LiveRow}
use Rattle.ecp_catalog.specs.Standing.{live_among}
use Rattle.ecp_catalog.specs.Catalogs.{standings_of, is_live_in, plain}
use Rattle.ecp_catalog.proofs.AnswerLaws.{length-live_among, live_rows_there}
use Rattle.ecp_catalog.proofs.laws.rows_are_the_tables.Goals as goal

pub returns : goal.returns
returns c = record {
  live = λ shape told c history s r is. ap (λ (xs : List Standing). option_map_or (λ x. x.live) (slice_get xs r) false) (is.rows s);
  count = λ shape told c history s is. length-live_among (standings_of c s) ∙ ap (count_by (λ (x : Standing). x.live)) (is.rows s);
  there = λ shape told c history s is.
      All-weaker (λ (x : LiveRow). (x.row < c.shape.n) × (is_live_in c s x.row ≡ true) × (is_up (plain c) x.node ≡ true))
      (λ x. (x.row < shape.n) × (is_live (table_of shape history) s x.row ≡ true) × (is_up (plain c) x.node ≡ true))
      (λ x h. (
        subst (λ (k : ℕ). x.row < k) (ap (λ z. z.n) is.sizes) h.0,
        sym (ap (λ (xs : List Standing). option_map_or (λ y. y.live) (slice_get xs x.row) false) (is.rows s)) ∙ h.1,
        h.2,
      ))
      (live_among (standings_of c s)) (live_rows_there c s);
}
