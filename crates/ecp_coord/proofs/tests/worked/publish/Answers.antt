use Rattle.std.proofs.Common.{◌≡◌, ℕ, sym, ◌∙◌, ap, subst, arith}
use Rattle.ecp_shape.specs.declared.shape.Shape.{Shape}
use Rattle.ecp_code.specs.Stripes.{stripe_count}
use Rattle.ecp_coord.specs.OneByte.{IfOvertaken}
use Rattle.ecp_coord.specs.Puts.{IsReserved}
use Rattle.ecp_coord.proofs.OneByteLaws.{kept_places, receipts_are, sized}
use Rattle.ecp_coord.proofs.tests.worked.publish.Goals as goal

is_sized : (s : Shape) → s.k ≡ 1 → s.block ≡ 1 → s ≡ sized s.n 1 s.nodes
is_sized s one byte =
    ap (λ (k : ℕ). let x : Shape = record { n = s.n; k = k; nodes = s.nodes; block = s.block } in x) one
    ∙ ap (λ (b : ℕ). let x : Shape = record { n = s.n; k = 1; nodes = s.nodes; block = b } in x) byte

pub publish-requires-clause-receipts : goal.publish-requires-clause-receipts
publish-requires-clause-receipts g c =
    let shape : Shape = c.args.shape in
    let sizes : g.N.Names.shape ≡ sized shape.n 1 shape.nodes = c.requires.names.0 ∙ is_sized shape c.requires.byte.0 c.requires.byte.1 in
    receipts_are shape.n 1 shape.nodes g.N.Names.shape g.N.Names.told c.args.pass.now c.args.res.now _ c.args.rows.items sizes c.requires.names.1 c.requires.range.few (omega (arith, c.requires.range.data_rows, c.requires.range.parity_rows))
    c.requires.reserved (ap (λ (len : ℕ). stripe_count 1 1 len) c.requires.len) (sym c.requires.len) c.requires.rows

pub returns-clause-overtaken : goal.returns-clause-overtaken
returns-clause-overtaken g c =
    subst (λ r. IfOvertaken c.publish.result (IsReserved g.N.Names.shape g.N.Names.told c.publish.new.pass r)) (sym c.publish.ensures.res)
    (kept_places g.N.Names.shape g.N.Names.told _ _ c.args.pass.now c.publish.new.pass c.args.res.now _ c.args.rows.items c.publish.result c.publish.ensures.done c.requires.reserved)
