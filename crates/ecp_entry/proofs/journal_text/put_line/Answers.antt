use Rattle.std.proofs.Common.{◌∷◌, ◌++◌, [], ◌∙◌, ap, append_assoc, decimal, List, ℕ}
use Rattle.std.specs.List.{join_with_byte}
use Rattle.ecp_text.specs.declared.bytes.TheConstants.{SPACE, LINE_FEED}
use Rattle.ecp_entry.specs.JournalText.{caller_word, part_word, act_words, line_words}
use Rattle.ecp_entry.proofs.TextLaws.{five_words}
use Rattle.ecp_entry.proofs.journal_text.put_line.Goals as goal

pub returns-clause-text : goal.returns-clause-text
returns-clause-text c =
    let line = c.args.line.now in
    let t = c.args.out.now in
    rw (c.end_line.ensures.text, c.put_act.ensures.text, c.put_number-2.ensures.text, c.put_part.ensures.text, c.put_number.ensures.text, c.put_caller.ensures.text, c.put_digits.ensures.text)
    (ap (λ (xs : List ℕ). xs ++ LINE_FEED ∷ []) (five_words t (decimal c.args.at) (caller_word line.caller) (decimal line.call) (part_word line.part) (decimal line.point) (act_words line.act))
    ∙ append_assoc t (join_with_byte SPACE (line_words c.args.at line)) (LINE_FEED ∷ []))
