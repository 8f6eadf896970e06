use Rattle.std.proofs.Common.{ℕ, sym, ap, arith}
use Rattle.ecp_code.specs.Stripes.{stripe_count}
use Rattle.ecp_coord.proofs.OneByteLaws.{receipts_are}
use Rattle.ecp_coord.proofs.tests.cats.put.Goals as goal

pub publish-requires-clause-receipts : goal.publish-requires-clause-receipts
publish-requires-clause-receipts g c =
    receipts_are 3 2 3 g.N.Names.shape g.N.Names.told c.reserved.new.pass c.in_ok-res.res _ c.in_ok-rows.rows.items c.requires.names.0 c.requires.names.1 (omega arith) (omega arith)
    c.in_ok-res.ensures.reserved (ap (λ (len : ℕ). stripe_count 2 1 len) c.in_ok-res.ensures.len) (sym c.in_ok-res.ensures.len) c.in_ok-rows.ensures
