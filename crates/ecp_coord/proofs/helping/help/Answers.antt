use Rattle.std.proofs.Common.{ap, arith, length, length-take, ◌≡◌, ℕ, List, IsSome, map, slice_get, true, sym, subst}
use Rattle.std.proofs.lemmas.List.{length-map}
use Rattle.std.proofs.lemmas.List.Elements.{All-weaker}
use Rattle.ecp_catalog.specs.Catalogs.{CatalogState, is_live_in, receipts_of}
use Rattle.ecp_coord.specs.Helping.{Helps, rows_chosen, weights_chosen}
use Rattle.ecp_coord.proofs.HelpLaws.{helpers_live, live_receipt}
use Rattle.ecp_coord.proofs.helping.help.Goals as goal

pub fill-requires-clause-there : goal.fill-requires-clause-there
fill-requires-clause-there g c =
    let cat : CatalogState = c.args.catalog.now in
    let s : ℕ = c.args.block.stripe in
    let rows : List ℕ = rows_chosen c.choose-helpers.result in
    All-weaker (λ r. is_live_in cat s r ≡ true) (λ r. IsSome (slice_get (receipts_of cat s) r)) (λ r live. live_receipt cat s r live) rows
    (helpers_live cat c.args.stamps.now.stamps c.args.block rows (weights_chosen c.choose-helpers.result) c.choose-helpers.ensures.helps)

pub returns-clause-hops : goal.returns-clause-hops
returns-clause-hops g c =
    let cat : CatalogState = c.args.catalog.now in
    let stamps : List ℕ = c.args.stamps.now.stamps in
    let rows : List ℕ = rows_chosen c.choose-helpers.result in
    record {
      helps = subst (λ (rs : List ℕ). Helps cat stamps c.args.block rs (map (λ x. x.weight) c.fill.new.hops.items)) (sym c.fill.ensures.hops.rows)
          (subst (λ (ws : List ℕ). Helps cat stamps c.args.block rows ws) (sym c.fill.ensures.hops.weighted) c.choose-helpers.ensures.helps);
      given = c.fill.ensures.hops.given;
      few = omega (
        arith,
        length-map c.fill.new.hops.items (λ x. x.row),
        ap (λ (rs : List ℕ). length rs) c.fill.ensures.hops.rows,
        length-take c.choose-helpers.result.len c.choose-helpers.result.rows,
        c.choose-helpers.ensures.few,
      );
    }
