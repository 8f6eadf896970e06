use Rattle.std.proofs.Common.{◌≡◌, ◌==◌, length, sym, ◌∙◌, ap, Some}
use Rattle.std.specs.Prelude.{find}
use Rattle.ecp_history.proofs.tables.KeptLaws.{all-find}
use Rattle.ecp_history.proofs.table.Table.row.Goals as goal

pub encode-requires-clause-data : goal.encode-requires-clause-data
encode-requires-clause-data c =
    let found : Some c.in-Some.stripe.now ≡ find (λ x. x.number == c.args.stripe) c.self.inside.stripes.items =
    c.in-Some.ensures ∙ ap (find (λ x. x.number == c.args.stripe)) c.deref.ensures.value in
    ap length c.blocks-in-Some.ensures
    ∙ all-find (λ x. length x.blocks ≡ c.self.inside.shape.k) (λ x. x.number == c.args.stripe) c.self.inside.stripes.items c.in-Some.stripe.now c.self.invariant.full found
    ∙ sym c.self.invariant.k_is
