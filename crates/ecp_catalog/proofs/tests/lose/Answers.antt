use Rattle.std.proofs.Common.{◌≡◌, ◌<◌, [], refl, sym, ◌∙◌, ap, subst}
use Rattle.std.specs.Prelude.{All}
use Rattle.std.proofs.lemmas.List.Elements.{All-nil}
use Rattle.ecp_catalog.specs.Catalogs.{CatalogState, losses_of, with_spare}
use Rattle.ecp_catalog.proofs.NodeLaws.{at-changed_at}
use Rattle.ecp_catalog.proofs.PositionLaws.{none_at_all}
use Rattle.ecp_catalog.proofs.tests.lose.Goals as goal

pub lose-requires-clause-room : goal.lose-requires-clause-room
lose-requires-clause-room g c = c.in_ok-reserve_loss-in-None.ensures.room

pub lose-requires-clause-behind : goal.lose-requires-clause-behind
lose-requires-clause-behind g c =
    let old = c.args.catalog.now.nodes in
    let none : losses_of old c.args.node ≡ [] = none_at_all (losses_of old c.args.node) (sym c.in-None.ensures) in
    let now : losses_of c.reserve_loss.new.self.nodes c.args.node ≡ [] =
    ap (λ (x : CatalogState). losses_of x.nodes c.args.node) c.in_ok-reserve_loss-in-None.ensures.ok ∙ at-changed_at (λ x. x.losses) [] (with_spare 1) (λ x. refl) c.args.node c.args.node old ∙ none in
    subst (All (λ p. p < c.args.position)) (sym now) (All-nil (λ p. p < c.args.position))
