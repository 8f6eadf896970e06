use Rattle.std.proofs.Common.{◌∙◌, sym, ap, arith}
use Rattle.ecp_slice.proofs.SetOnce.{exchanges}
use Rattle.ecp_slice.proofs.cancel.Cancel.set.Goals as goal

pub compare_exchange-found-requires : goal.compare_exchange-found-requires
compare_exchange-found-requires c =
    let i = c.self.invariant in
    let word = ap (λ w. w.shared.table_id) c.deref.ensures in (
      i.on_word ∙ sym word,
      omega (arith, i.one_word, ap (λ t. t.words) word),
      exchanges _ _ _ _ c.requires.least c.requires.most,
    )
