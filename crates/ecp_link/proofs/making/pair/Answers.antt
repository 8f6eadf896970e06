use Rattle.std.proofs.Common.{sym, ap, ◌∙◌, arith}
use Rattle.ecp_link.proofs.Steps.{begins, parts_as}
use Rattle.ecp_link.proofs.making.pair.Goals as goal

pub vacant-requires : goal.vacant-requires
vacant-requires g c = begins _

pub split_seat-requires : goal.split_seat-requires
split_seat-requires g c = (
  c.in_ok-table.ensures.2 ∙ ap (λ r. r.table.shared.table_id) (sym (c.deref.ensures ∙ c.in_ok-ring.ensures.ok)),
  omega (arith, c.deref.result.now.words),
  parts_as _ _ (ap (λ m. m.0) c.in_ok-table.ensures.4),
)
