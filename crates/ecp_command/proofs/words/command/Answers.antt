use Rattle.std.proofs.Common.{sym, ◌∙◌, rules, arith}
use Rattle.std.specs.Prelude.{codes}
use Rattle.ecp_command.proofs.WordLists.{text_is, is_word, is_mend, no_row}
use Rattle.ecp_command.proofs.words.command.Goals as goal

pub returns-in-len1-clause-some : goal.returns-in-len1-clause-some
returns-in-len1-clause-some c =
    is_word c.args.words.now c.word-item.result (codes "run") c.in-len1.len_at_least c.in-len1.len_below c.word-item.is
    (text_is c.word-item.result c.as_str.result.now _ c.eq.result c.as_str.ensures.value c.if-eq.true c.eq.ensures)

pub returns-then-is_row-clause-some : goal.returns-then-is_row-clause-some
returns-then-is_row-clause-some c = (
  c.is_row.ensures.0 (search rules),
  is_mend c.args.words.now _ _ _ _ c.in_ok-k-in-len4.k c.in_ok-n-in-len4.n c.in_ok-row-in-len4.row c.in-len4.len_at_least c.in-len4.len_below c.word-item-then-words-lt5.is c.k-item.is c.n-item.is c.row-item.is
      (text_is c.word-item-then-words-lt5.result c.as_str-then-words-lt5.result.now _ c.eq-then-words-lt5.result c.as_str-then-words-lt5.ensures.value c.if-eq-3.true c.eq-then-words-lt5.ensures)
      (sym c.as_bytes.ensures.value ∙ c.in_ok-k-in-len4.ensures.some) (sym c.as_bytes-in-len4.ensures.value ∙ c.in_ok-n-in-len4.ensures.some) (sym c.as_bytes-in-len4-2.ensures.value ∙ c.in_ok-row-in-len4.ensures.some),
)

pub returns-else-is_row-clause-none : goal.returns-else-is_row-clause-none
returns-else-is_row-clause-none c =
    no_row _ c.in_ok-k-in-len4.k c.in_ok-n-in-len4.n c.in_ok-row-in-len4.row (omega arith) (omega arith) (omega arith)
    (is_mend c.args.words.now _ _ _ _ c.in_ok-k-in-len4.k c.in_ok-n-in-len4.n c.in_ok-row-in-len4.row c.in-len4.len_at_least c.in-len4.len_below c.word-item-then-words-lt5.is c.k-item.is c.n-item.is c.row-item.is
    (text_is c.word-item-then-words-lt5.result c.as_str-then-words-lt5.result.now _ c.eq-then-words-lt5.result c.as_str-then-words-lt5.ensures.value c.if-eq-3.true c.eq-then-words-lt5.ensures)
    (sym c.as_bytes.ensures.value ∙ c.in_ok-k-in-len4.ensures.some) (sym c.as_bytes-in-len4.ensures.value ∙ c.in_ok-n-in-len4.ensures.some) (sym c.as_bytes-in-len4-2.ensures.value ∙ c.in_ok-row-in-len4.ensures.some))
    (search rules)

pub returns-in-len1-2-clause-some : goal.returns-in-len1-2-clause-some
returns-in-len1-2-clause-some c =
    is_word c.args.words.now c.word-item-then-words-lt2.result (codes "check") c.in-len1.len_at_least c.in-len1.len_below c.word-item-then-words-lt2.is
    (text_is c.word-item-then-words-lt2.result c.as_str-then-words-lt2.result.now _ c.eq-then-words-lt2.result c.as_str-then-words-lt2.ensures.value c.if-eq-2.true c.eq-then-words-lt2.ensures)
