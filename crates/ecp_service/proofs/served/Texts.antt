-- The text of a run by its history is that of its answers and its lines.
use Rattle.std.proofs.Common.{◌≡◌, ℕ, zero, suc, ◌+◌, true, List, [], ◌∷◌, ◌++◌, length, take, drop, map, Option, Some, inl, inr, refl, sym, ◌∙◌, ap, subst, arith, zero-add}
use Rattle.std.specs.Prelude.{find, slice_get, flat_map, codes, decimal}
use Rattle.std.specs.List.{enumerate_from, range_with_len}
use Rattle.std.specs.Option.{option_map_or}
use Rattle.std.proofs.lemmas.List.{length-map}
use Rattle.std.proofs.lemmas.Option.{same_Some}
use Rattle.sha2.specs.Sha256.{sha256}
use Rattle.ecp_cluster.specs.Whole.{cause_in, count_in, digest_by, file_in, len_in, opened_bytes, opened_count, parts_by}
use Rattle.ecp_cluster.specs.declared.answer.Answer.{Answer}
use Rattle.ecp_command.specs.Input.Accepted.{Content}
use Rattle.ecp_command.specs.Input.Calls.{SessionCalls}
use Rattle.ecp_command.specs.declared.input.call.Call.{Call}
use Rattle.ecp_command.specs.declared.input.call.Call.TheVariants.{Cat}
use Rattle.ecp_command.specs.declared.input.planned.Planned.{Planned}
use Rattle.ecp_entry.specs.declared.act.Act.{Act}
use Rattle.ecp_entry.specs.declared.act.Act.TheVariants.{Broken, Whole}
use Rattle.ecp_entry.specs.declared.deed.Deed.TheVariants as deed
use Rattle.ecp_entry.specs.declared.entry.Entry.{Entry}
use Rattle.ecp_entry.specs.declared.line.Line.{Line}
use Rattle.ecp_entry.specs.declared.reply.Reply.{Reply}
use Rattle.ecp_entry.specs.JournalText.{journal_line}
use Rattle.ecp_entry.specs.ReplyText.{reply_line, reply_of}
use Rattle.ecp_shape.specs.declared.shape.Shape.{Shape}
use Rattle.ecp_history.specs.Calls.{AtEnd, FitsCall, ToCat}
use Rattle.ecp_history.specs.Legal.{IsLegal}
use Rattle.ecp_history.specs.Spans.{is_part}
use Rattle.ecp_service.specs.Asked.{call_at, calls_in, deed_of}
use Rattle.ecp_service.specs.RunLines.{count_line, lines_from}
use Rattle.ecp_service.specs.RunText.{cause_of, digested, ending_reply, file_bytes, journal_text, opened_len, part_bytes, reply_to, run_text, session_text}
use Rattle.ecp_service.specs.Servable.{IsServable}
use Rattle.ecp_service.specs.Served.{HasParts, TellsFile, answer_line, served_text, session_replies}
use Rattle.ecp_service.specs.Serves.{opened_blocks}
use Rattle.ecp_service.proofs.served.Entries.{HasCaller, HasEntries, has_entries, its_end, its_part}
use Rattle.ecp_service.proofs.served.Fits.{IsSingle, data_act, file_line, kind_for, kinds_served, replied, same_line, simple_reply}
use Rattle.ecp_service.proofs.served.Inputs.{IsCall, IsInput}
use Rattle.ecp_service.proofs.served.Lists.{of_last}
use Rattle.ecp_service.proofs.served.Parts.{bytes_of, find_part, first_count, first_len, last_is}
use Rattle.ecp_service.proofs.served.Passes.{IsIn, as_many}
use Rattle.ecp_service.proofs.served.Points.{act_fits}

-- the lines of a journal, one behind the other
journal_from : (at : ℕ) (history : List Entry) → flat_map (λ p. journal_line p.0 p.1.line) (enumerate_from at history) ≡ lines_from at (map (λ e. e.line) history)
journal_from at [] = refl
journal_from at (e ∷ history) = ap (λ (xs : List ℕ). journal_line at e.line ++ xs) (journal_from (at + 1) history)

-- the journal with its head and its end
journal_part : (history : List Entry)
    → codes "journal " ++ decimal (length history) ++ codes "\n" ++ (journal_text history ++ codes "end\n")
    ≡ count_line (map (λ e. e.line) history) ++ (lines_from 0 (map (λ e. e.line) history) ++ codes "end\n")
journal_part history =
    let lines : List Line = map (λ e. e.line) history in
    ap (λ (n : ℕ). codes "journal " ++ decimal n ++ codes "\n" ++ (journal_text history ++ codes "end\n")) (sym (length-map history (λ (e : Entry). e.line)))
    ∙ ap (λ (xs : List ℕ). codes "journal " ++ decimal (length lines) ++ codes "\n" ++ (xs ++ codes "end\n")) (journal_from 0 history)

-- the replies to calls, one behind the other
replies_from : (history : List Entry) (c at : ℕ) (calls : List Planned) (answers : List Answer) → length answers ≡ length calls
    → ((k : ℕ) (p : Planned) (a : Answer) → slice_get calls k ≡ Some p → slice_get answers k ≡ Some a → reply_to history c (at + k) p ≡ answer_line a)
    → flat_map (λ p. reply_to history c p.0 p.1) (enumerate_from at calls) ≡ flat_map answer_line answers
replies_from history c at [] [] long each = refl
replies_from history c at [] (a ∷ answers) long each = absurd (omega (arith, long))
replies_from history c at (p ∷ calls) [] long each = absurd (omega (arith, long))
replies_from history c at (p ∷ calls) (a ∷ answers) long each =
    let rest : flat_map (λ q. reply_to history c q.0 q.1) (enumerate_from (at + 1) calls) ≡ flat_map answer_line answers =
    replies_from history c (at + 1) calls answers (omega (arith, long))
    (λ k q b here there. ap (λ (n : ℕ). reply_to history c n q) (next at k) ∙ each (suc k) q b here there) in
    let first : reply_to history c at p ≡ answer_line a = ap (λ (n : ℕ). reply_to history c n p) (none_more at) ∙ each 0 p a refl refl in
    ap (λ (xs : List ℕ). xs ++ flat_map (λ q. reply_to history c q.0 q.1) (enumerate_from (at + 1) calls)) first
    ∙ ap (λ (xs : List ℕ). answer_line a ++ xs) rest
  where
    next : (a k : ℕ) → a + 1 + k ≡ a + suc k
    next a k = omega arith

    none_more : (a : ℕ) → a ≡ a + 0
    none_more a = omega arith

-- ---- what the parts of a file say, as they are found in the history

module _ (history : List Entry) (c n : ℕ) (parts : List Entry) (at : (j : ℕ) → find (is_part c n j) history ≡ slice_get parts j) where
  len_found : opened_len history c n ≡ len_in parts
  len_found = ap (λ (o : Option Entry). option_map_or (λ e. opened_bytes e.line.act) o 0) (at 0) ∙ first_len parts

  count_found : opened_blocks history c n ≡ count_in parts
  count_found = ap (λ (o : Option Entry). option_map_or (λ e. opened_count e.line.act) o 0) (at 0) ∙ first_count parts

  cause_found : (e : Entry) (act : Act) → e.line.caller ≡ c → e.line.call ≡ n → length parts ≡ parts_by (count_in parts) act → cause_of history e act ≡ cause_in act parts
  cause_found e (Broken index) caller call many =
      ap (λ (k : ℕ). option_map_or (λ x. x.line.act) (find (is_part k e.line.call (index + 1)) history) e.line.act) caller
      ∙ ap (λ (k : ℕ). option_map_or (λ x. x.line.act) (find (is_part c k (index + 1)) history) e.line.act) call
      ∙ ap (λ (o : Option Entry). option_map_or (λ x. x.line.act) o e.line.act) (at (index + 1))
      ∙ last_is parts (index + 1) e.line.act (Broken index) (many ∙ one_more index)
    where
      one_more : (k : ℕ) → k + 2 ≡ suc (k + 1)
      one_more k = omega arith
  cause_found e _ caller call many = refl

  bytes_found : length parts ≡ count_in parts + 1 → file_bytes history c n ≡ file_in parts
  bytes_found many =
      ap (λ (len : ℕ). take len (flat_map (part_bytes history c n) (range_with_len 1 (opened_blocks history c n)))) len_found
      ∙ ap (λ (count : ℕ). take (len_in parts) (flat_map (part_bytes history c n) (range_with_len 1 count))) count_found
      ∙ ap (λ (xs : List ℕ). take (len_in parts) xs) (blocks parts at many)
    where
      next : (j : ℕ) → 1 + j ≡ suc j
      next j = omega arith

      blocks : (es : List Entry) → ((j : ℕ) → find (is_part c n j) history ≡ slice_get es j) → length es ≡ count_in es + 1
          → flat_map (part_bytes history c n) (range_with_len 1 (count_in es)) ≡ flat_map (λ e. e.bytes) (drop 1 es)
      blocks [] found long = absurd (omega (arith, long))
      blocks (x ∷ es) found long =
          ap (λ (k : ℕ). flat_map (part_bytes history c n) (range_with_len 1 k)) (fewer (length es) (count_in (x ∷ es)) long)
          ∙ bytes_of (part_bytes history c n) 1 es
          (λ j. ap (λ (o : Option Entry). option_map_or (λ e. e.bytes) o []) (found (1 + j) ∙ ap (λ (k : ℕ). slice_get (x ∷ es) k) (next j)))
        where
          fewer : (a b : ℕ) → suc a ≡ b + 1 → b ≡ a
          fewer a b is = omega (arith, is)

module _ (shape : Shape) (content : Content) (answers : ℕ → List Answer) (history : List Entry) (legal : IsLegal shape true history) (input : IsInput content) where
  -- the reply to a call that has no part is that of its answer
  single_reply : (c n : ℕ) (p : Planned) (one : HasEntries content answers history c n p) → IsSingle p.call → ending_reply history p one.group.last ≡ answer_line one.answer
  single_reply c n p one single =
      let e : Entry = one.group.last in
      let a : Answer = one.answer in
      let fits : FitsCall (kind_for p.call) AtEnd a.act = act_fits shape content answers history legal c n p one in
      let fits_own : FitsCall (kind_for p.call) AtEnd e.line.act = subst (λ (act : Act). FitsCall (kind_for p.call) AtEnd act) (sym one.reply.act) fits in
      ap (λ (r : Reply). reply_line r e.bytes (sha256 (digested history e e.line.act)))
      (replied p.call e.line.act single fits_own (opened_len history e.line.caller e.line.call) (cause_of history e e.line.act))
      ∙ ap (λ (act : Act). reply_line (simple_reply p.call act) e.bytes (sha256 (digested history e act))) one.reply.act
      ∙ same_line p.call a e.bytes (sha256 (digested history e a.act)) single fits one.reply.gives
      (λ has_data. ap (λ (act : Act). sha256 (digested history e act)) (data_act a.act has_data))

  -- and that to one that reads a file whole
  file_reply : (c n : ℕ) (p : Planned) (name : List ℕ) (one : HasEntries content answers history c n p) → p.call ≡ Cat name → ending_reply history p one.group.last ≡ answer_line one.answer
  file_reply c n p name one is =
      let e : Entry = one.group.last in
      let a : Answer = one.answer in
      let parts : List Entry = one.group.parts in
      let own : IsIn c n p e = of_last (IsIn c n p) parts e one.reply.own in
      let tells : TellsFile a parts = subst (λ (call : Call). HasParts call a parts) is one.reply.parted in
      let fits : FitsCall ToCat AtEnd a.act = subst (λ (call : Call). FitsCall (kind_for call) AtEnd a.act) is (act_fits shape content answers history legal c n p one) in
      let at : (j : ℕ) → find (is_part c n j) history ≡ slice_get parts j = λ j. its_part content answers history c n p one j ∙ find_part j parts tells.numbered in
      let len : opened_len history e.line.caller e.line.call ≡ a.len =
      ap (λ (k : ℕ). opened_len history k e.line.call) own.caller ∙ ap (λ (k : ℕ). opened_len history c k) own.call ∙ len_found history c n parts at ∙ sym tells.len in
      let cause : cause_of history e a.act ≡ a.cause = cause_found history c n parts at e a.act own.caller own.call tells.counted ∙ sym tells.cause in
      let file : a.act ≡ Whole → sha256 (digested history e a.act) ≡ a.digest = λ whole.
      ap (λ (act : Act). sha256 (digested history e act)) whole
      ∙ ap (λ (k : ℕ). sha256 (file_bytes history k e.line.call)) own.caller
      ∙ ap (λ (k : ℕ). sha256 (file_bytes history c k)) own.call
      ∙ ap sha256 (bytes_found history c n parts at (tells.counted ∙ ap (parts_by (count_in parts)) whole))
      ∙ sym (tells.digest ∙ ap (λ (act : Act). digest_by act (file_in parts)) whole) in
      ap (λ (call : Call). reply_line (reply_of (deed_of call) e.line.act (opened_len history e.line.caller e.line.call) (cause_of history e e.line.act)) e.bytes (sha256 (digested history e e.line.act))) is
      ∙ ap (λ (act : Act). reply_line (reply_of (deed.Cat name) act (opened_len history e.line.caller e.line.call) (cause_of history e act)) e.bytes (sha256 (digested history e act))) one.reply.act
      ∙ file_line name a.act a.by_digest (opened_len history e.line.caller e.line.call) a.len (cause_of history e a.act) a.cause e.bytes (sha256 (digested history e a.act)) a.bytes a.digest
      fits len cause file

  -- the reply to a call is that of its answer
  reply_is : (c n : ℕ) (p : Planned) (one : HasEntries content answers history c n p) → IsServable p.call → ending_reply history p one.group.last ≡ answer_line one.answer
  reply_is c n p one plain = elim (kinds_served p.call plain) [
    | inl single ↦ single_reply c n p one single
    | inr file ↦ file_reply c n p file.0 one file.1
  ]

  reply_at : (c n : ℕ) (p : Planned) (a : Answer) → HasCaller content answers history c → call_at content c n ≡ Some p → slice_get (answers c) n ≡ Some a
      → reply_to history c n p ≡ answer_line a
  reply_at c n p a has asked given =
      let call : IsCall content c p = input.calls c n p asked in
      let one : HasEntries content answers history c n p = has_entries content answers history c n p has asked in
      ap (λ (o : Option Entry). option_map_or (ending_reply history p) o []) (its_end content answers history c n p one)
      ∙ reply_is c n p one call.plain
      ∙ ap answer_line (same_Some one.answer a (sym one.given ∙ given))

  session_is : (s : SessionCalls) → calls_in content s.number ≡ s.calls → HasCaller content answers history s.number → session_text history s ≡ session_replies answers s
  session_is s own has =
      let c : ℕ = s.number in
      let replies : flat_map (λ p. reply_to history c p.0 p.1) (enumerate_from 0 (calls_in content c)) ≡ flat_map answer_line (answers c) =
      replies_from history c 0 (calls_in content c) (answers c) (as_many c 0 (calls_in content c) (answers c) has.groups has.replies)
      (λ k p a here there. ap (λ (n : ℕ). reply_to history c n p) (zero-add k) ∙ reply_at c k p a has here there) in
      ap (λ (xs : List ℕ). codes "session " ++ decimal c ++ codes "\n" ++ xs)
      (ap (λ (ps : List Planned). flat_map (λ p. reply_to history c p.0 p.1) (enumerate_from 0 ps)) (sym own) ∙ replies)

  sessions_are : (ss : List SessionCalls) → ((i : ℕ) (s : SessionCalls) → slice_get ss i ≡ Some s → session_text history s ≡ session_replies answers s)
      → flat_map (session_text history) ss ≡ flat_map (session_replies answers) ss
  sessions_are [] same = refl
  sessions_are (s ∷ ss) same =
      ap (λ (xs : List ℕ). xs ++ flat_map (session_text history) ss) (same zero s refl)
      ∙ ap (λ (xs : List ℕ). session_replies answers s ++ xs) (sessions_are ss (λ i t here. same (suc i) t here))

  -- what the run writes
  pub text_is : (lines : List Line) → lines ≡ map (λ e. e.line) history
      → ((i : ℕ) (s : SessionCalls) → slice_get content.sessions i ≡ Some s → HasCaller content answers history s.number)
      → run_text content history ≡ served_text content.sessions answers lines
  text_is lines printed each =
      let journal : List ℕ = codes "journal " ++ decimal (length history) ++ codes "\n" ++ (journal_text history ++ codes "end\n") in
      ap (λ (xs : List ℕ). xs ++ journal) (sessions_are content.sessions (λ i s here. session_is s (input.sessions i s here).calls (each i s here)))
      ∙ ap (λ (xs : List ℕ). flat_map (session_replies answers) content.sessions ++ xs) (journal_part history)
      ∙ ap (λ (ls : List Line). served_text content.sessions answers ls) (sym printed)
