use Rattle.std.proofs.Common.{◌≡◌, ℕ, ◌<◌, List, map, nat_eq, take, sym, ◌∙◌, ap, subst, arith}
use Rattle.std.specs.Prelude.{All, Contains, IfOk}
use Rattle.std.specs.List.{IsDistinct}
use Rattle.std.proofs.lemmas.List.Elements.{All-contains, All-map, All-weaker}
use Rattle.ecp_plan.specs.declared.live_row.LiveRow.{LiveRow}
use Rattle.ecp_catalog.specs.Standing.{live_among}
use Rattle.ecp_catalog.specs.Catalogs.{standings_of}
use Rattle.ecp_catalog.proofs.ApartLaws.{distinct_rows}
use Rattle.ecp_coord.proofs.HelpLaws.{live_low}
use Rattle.ecp_coord.proofs.PlanLaws.{rising_distinct}
use Rattle.ecp_coord.proofs.helping.others.Goals as goal

pub pick-picks-requires-clause-rows : goal.pick-picks-requires-clause-rows
pick-picks-requires-clause-rows g c =
    subst (λ (xs : List LiveRow). IsDistinct nat_eq (map (λ x. x.row) xs)) (sym (c.as_slice-2.ensures.rows ∙ c.live_rows-live.ensures))
    (distinct_rows (standings_of c.args.catalog.now c.args.block.stripe))

pub weights-all-requires-clause-distinct : goal.weights-all-requires-clause-distinct
weights-all-requires-clause-distinct g c = rising_distinct (take c.shape-shape.result.k c.pick-picks.result.rows) c.pick-picks.ensures.choice.rising

pub weights-all-requires-clause-rows : goal.weights-all-requires-clause-rows
weights-all-requires-clause-rows g c =
    let rows : List ℕ = take c.shape-shape.result.k c.pick-picks.result.rows in
    let live : List LiveRow = live_among (standings_of c.args.catalog.now c.args.block.stripe) in
    let seen : c.as_slice-2.result.now ≡ live = c.as_slice-2.ensures.rows ∙ c.live_rows-live.ensures in
    let all : All (λ r. r < c.shape-shape.result.n) (map (λ (x : LiveRow). x.row) c.as_slice-2.result.now) =
    subst (λ (xs : List LiveRow). All (λ r. r < c.shape-shape.result.n) (map (λ (x : LiveRow). x.row) xs)) (sym seen)
    (All-map (λ r. r < c.shape-shape.result.n) (λ (x : LiveRow). x.row) live
    (All-weaker (λ (x : LiveRow). x.row < c.args.catalog.now.shape.n) (λ x. x.row < c.shape-shape.result.n) (λ x h. omega (arith, h, ap (λ s. s.n) c.shape-shape.ensures.shape)) live
    (live_low c.args.catalog.now c.args.block.stripe))) in
    let code = subst (λ r. IfOk r (λ k. (k.n ≡ c.shape-shape.result.n) × (k.k ≡ c.shape-shape.result.k))) c.unwrap-code.ensures c.new.ensures.ok in
    All-weaker (Contains (map (λ (x : LiveRow). x.row) c.as_slice-2.result.now)) (λ r. r < c.unwrap-code.result.n)
    (λ r h. let low = All-contains (λ r. r < c.shape-shape.result.n) (map (λ (x : LiveRow). x.row) c.as_slice-2.result.now) r all h in omega (arith, low, code.0))
    rows c.pick-picks.ensures.choice.among
