use Rattle.std.proofs.Common.{◌≡◌, true, sym, ◌∙◌, ap, arith}
use Rattle.std.specs.Prelude.{is_some}
use Rattle.ecp_catalog.specs.Catalogs.{live_of}
use Rattle.ecp_catalog.specs.Standing.{file_with}
use Rattle.ecp_catalog.proofs.ReplaceLaws.{rows-stripe}
use Rattle.ecp_catalog.proofs.tests.restore_lost.Goals as goal

pub restore-requires-clause-few : goal.restore-requires-clause-few
restore-requires-clause-few g c =
    let now = c.args.catalog.now in
    let node : c.from.result ≡ c.args.receipt.node = c.from.ensures ∙ c.node.ensures in
    let there : is_some (file_with now.files 0) ≡ true = sym c.has_stripe-there.ensures ∙ c.if-there.true in
    omega (arith, rows-stripe now.shape 0 now.files there, c.live_on-live.ensures, ap (live_of now.nodes) node, c.if-live-most.true, ap (λ s. s.n) c.shape-most.ensures.shape)
