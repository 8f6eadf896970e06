use Rattle.std.proofs.Common.{◌++◌, ◌∙◌, ap, sym, arith, append_assoc, decimal, map, length, List, ℕ}
use Rattle.std.specs.List.{join_with_byte}
use Rattle.ecp_text.specs.declared.bytes.TheConstants.{SPACE}
use Rattle.ecp_text.specs.Words.{spaced}
use Rattle.ecp_text.proofs.JoinLaws.{join-spaced}
use Rattle.ecp_entry.specs.Entries.{act_word, act_numbers}
use Rattle.ecp_entry.proofs.EntryLaws.{length-act_word, ended_words-plain}
use Rattle.ecp_entry.proofs.reply_words.put_ended.Goals as goal

pub returns-in_default : goal.returns-in_default
returns-in_default c =
    let act = c.args.act.now in
    let t = c.args.out.now in
    let numbers = spaced (map decimal (act_numbers act)) in
    record {
      within = omega (arith, c.put_act_numbers.ensures.within, c.put.ensures.len, ap length c.word.ensures, length-act_word act);
      text =
          rw (c.put_act_numbers.ensures.text, c.put.ensures.bytes, c.word.ensures)
          (append_assoc t (act_word act) numbers
          ∙ ap (λ (xs : List ℕ). t ++ xs) (sym (join-spaced (act_word act) (map decimal (act_numbers act))) ∙ ap (join_with_byte SPACE) (sym (ended_words-plain act c.in_default.not-Stored c.in_default.not-Rebuilt))));
    }
