use Rattle.std.proofs.Common.{◌≡◌, ℕ, length, take, arith, length-take}
use Rattle.ecp_service.proofs.Pieces.{gathered_where_ok}
use Rattle.ecp_service.proofs.reading.pull_piece.Goals as goal

pub returns-clause-front : goal.returns-clause-front
returns-clause-front g c tells =
    let short : length (take c.args.filled c.args.buf.now) ≡ c.args.filled = omega (arith, length-take {A = ℕ}) in
    gathered_where_ok _ _ _ _ _ _ _ short c.pull.ensures.within (c.pull.ensures.front tells)
