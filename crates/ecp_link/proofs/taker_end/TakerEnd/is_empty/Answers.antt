use Rattle.std.proofs.Common.{◌≡◌, sym, ap, ◌∙◌, arith}
use Rattle.ecp_link.proofs.Steps.{looks_for_none_as}
use Rattle.ecp_link.proofs.taker_end.TakerEnd.is_empty.Goals as goal

pub load-pushed-requires : goal.load-pushed-requires
load-pushed-requires g c =
    let i = c.self.invariant in (
      i.in_ring ∙ ap (λ r. r.table.shared.table_id) (sym c.deref.ensures),
      omega (arith, c.deref.result.now.words),
      looks_for_none_as _ _ _ i.knows,
    )
