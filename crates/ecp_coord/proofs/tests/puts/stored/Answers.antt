use Rattle.std.proofs.Common.{◌≡◌, ℕ, false, List, [], refl, ◌∙◌, ap, append-nil}
use Rattle.ecp_coord.specs.Coords.{CoordState, at_start}
use Rattle.ecp_coord.specs.Puts.{Reserves}
use Rattle.ecp_coord.proofs.OneStripeLaws.{receipts_are}
use Rattle.ecp_coord.proofs.tests.puts.stored.Goals as goal

-- the first reservation of all, over an empty history
pub publish-requires-clause-receipts : goal.publish-requires-clause-receipts
publish-requires-clause-receipts g c =
    let r = c.in-Ok.ensures.ok in
    let begun = c.in_ok-begin.ensures.ok in
    let made : c.in_ok-book.field-0.coord ≡ at_start 2 4 1 false = c.in_ok-book.ensures.coord in
    let first : c.in-Ok.res.first ≡ 0 = r.numbered ∙ ap (λ (x : CoordState). x.stripes) c.begin.ensures.rest ∙ ap (λ (x : CoordState). x.stripes) made in
    let empty : c.in-Ok.res.front.items ≡ [] =
    r.front ∙ begun.history ∙ append-nil c.in_ok-book.field-0.coord.sequence.history ∙ ap (λ (x : CoordState). x.sequence.history) made in
    receipts_are g.N.Names.shape g.N.Names.told c.in-Ok.res _ c.in_ok-receipts.receipts.items c.requires.names.2 c.requires.told refl c.in-Ok.ensures.named.1 first r.is_reserved.counted empty
    r.is_reserved.places.nodes c.in_ok-receipts.ensures.rows
