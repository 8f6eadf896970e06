use Rattle.std.proofs.Common.{◌∙◌, sym, ap, arith}
use Rattle.ecp_slice.proofs.SetOnce.{loads}
use Rattle.ecp_slice.proofs.cancel.Cancel.read.Goals as goal

pub load-now-requires : goal.load-now-requires
load-now-requires c =
    let i = c.self.invariant in
    let word = ap (λ w. w.shared.table_id) c.deref.ensures in (
      i.on_word ∙ sym word,
      omega (arith, i.one_word, ap (λ t. t.words) word),
      loads _ _ _,
    )
