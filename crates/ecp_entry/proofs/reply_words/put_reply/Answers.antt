use Rattle.std.proofs.Common.{[], ◌∷◌, ◌++◌, ap, ◌∙◌, sym, append_assoc, decimal, List, ℕ}
use Rattle.std.specs.Prelude.{codes}
use Rattle.std.specs.List.{join_with_byte}
use Rattle.ecp_text.specs.declared.bytes.TheConstants.{SPACE, LINE_FEED}
use Rattle.ecp_text.specs.Words.{spaced}
use Rattle.ecp_text.proofs.JoinLaws.{put_spaced, join-spaced}
use Rattle.ecp_entry.specs.JournalText.{act_words}
use Rattle.ecp_entry.proofs.reply_words.put_reply.Goals as goal

pub returns-in-Broken-clause-text : goal.returns-in-Broken-clause-text
returns-in-Broken-clause-text c =
    let words = act_words c.in-Broken.cause in
    let number = decimal c.in-Broken.index in
    let t = c.args.out.now in
    let line = join_with_byte SPACE (codes "broken" ∷ number ∷ words) in
    rw (c.end_line-in-Broken.ensures.text, c.put_act.ensures.text, c.put_number-in-Broken.ensures.text, c.put-in-Broken.ensures.bytes, c.in-Broken.is)
    (ap (λ (xs : List ℕ). xs ++ LINE_FEED ∷ [])
    (put_spaced (t ++ codes "broken") number words ∙ append_assoc t (codes "broken") (spaced (number ∷ words))
    ∙ ap (λ (xs : List ℕ). t ++ xs) (sym (join-spaced (codes "broken") (number ∷ words))))
    ∙ append_assoc t line (LINE_FEED ∷ []))
