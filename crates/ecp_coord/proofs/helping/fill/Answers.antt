use Rattle.std.proofs.Common.{ℕ, ◌<◌, List, IsSome, length, take, get_or, slice_get, sym, subst, arith, length-take-le}
use Rattle.std.proofs.lemmas.List.{get_or-take}
use Rattle.ecp_catalog.specs.Catalogs.{CatalogState, receipts_of}
use Rattle.ecp_coord.proofs.helping.fill.Goals as goal

pub hop-hop-requires : goal.hop-hop-requires
hop-hop-requires g c =
    let rows : List ℕ = c.args.helpers.now.rows in
    let len : ℕ = c.args.helpers.now.len in
    let k : ℕ = c.loop-at.at in
    let low : k < len = omega arith in
    let within : k < length (take len rows) = omega (arith, length-take-le len rows (omega arith), low) in
    subst (λ (d : CatalogState). IsSome (slice_get (receipts_of d c.args.stripe) (get_or rows k 0))) (sym c.loop-at.invariant.same)
    (subst (λ (r : ℕ). IsSome (slice_get (receipts_of c.args.catalog.now c.args.stripe) r)) (get_or-take len rows k 0 low) (c.requires.there k 0 within))
