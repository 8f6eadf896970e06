use Rattle.std.proofs.Common.{◌∙◌, sym, ap, arith}
use Rattle.ecp_slice.proofs.SetOnce.{copies}
use Rattle.ecp_slice.proofs.cancel.Cancel.copy.Goals as goal

pub split_seat-seat-requires : goal.split_seat-seat-requires
split_seat-seat-requires c =
    let i = c.self.invariant in
    let word = ap (λ w. w.shared.table_id) c.deref.ensures in (
      i.on_word ∙ sym word,
      omega (arith, i.one_word, ap (λ t. t.words) word),
      copies _ _,
    )
