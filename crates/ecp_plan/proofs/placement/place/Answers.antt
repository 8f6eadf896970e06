use Rattle.std.proofs.Common.{rules, tests, refl, ◌∙◌, sym, ap, ℕ, ◌+◌, ◌==◌}
use Rattle.std.specs.Int.{bit_at}
use Rattle.std.proofs.lemmas.Iterator.{YieldsList-from_range}
use Rattle.std.proofs.lemmas.Iterator.Adapters.{option_map_id}
use Rattle.std.proofs.lemmas.Iterator.Consumers.{nth_from_yields_List, YieldsList-from_filter}
use Rattle.ecp_history.specs.table.Placement.{nodes_in}
use Rattle.ecp_plan.proofs.UpNodes.{within, there, is_place}
use Rattle.ecp_plan.proofs.placement.place.Goals as goal

pub unwrap-requires : goal.unwrap-requires
unwrap-requires c =
    there (nodes_in c.args.up) _ c.nth.result
    (within (nodes_in c.args.up) (c.args.stripe + c.from.result) c.args.row c.up_count.result c.up_count.ensures c.requires.enough)
    (sym (option_map_id _) ∙ nth_from_yields_List c.nth.result c.nth.new.self _ c.nth.ensures.ran (YieldsList-from_filter _ (λ m. bit_at c.args.up m == 1) (YieldsList-from_range 0 32 32 (cc) refl) c.filter.ensures.closure (λ x r q k. search (rules, tests))))

pub returns : goal.returns
returns c =
    is_place (nodes_in c.args.up) c.args.stripe c.args.row (c.args.stripe + c.from.result) c.up_count.result c.unwrap.result c.nth.result c.requires.enough c.up_count.ensures
    (ap (λ (m : ℕ). c.args.stripe + m) c.from.ensures)
    (sym (option_map_id _) ∙ nth_from_yields_List c.nth.result c.nth.new.self _ c.nth.ensures.ran (YieldsList-from_filter _ (λ m. bit_at c.args.up m == 1) (YieldsList-from_range 0 32 32 (cc) refl) c.filter.ensures.closure (λ x r q k. search (rules, tests))))
    c.unwrap.ensures
