-- The text of a run has one journal.
use Rattle.std.proofs.Common.{◌≡◌, ℕ, ◌+◌, ◌%◌, ◌^◌, ◌<◌, ◌==◌, Bool, true, List, [], ◌∷◌, ◌++◌, map, length, Option, Some, None, refl, sym, ◌∙◌, ap, subst, arith, append-nil, append_assoc}
use Rattle.std.specs.Prelude.{codes, decimal, nat_lt, flat_map, find, All}
use Rattle.std.specs.List.{enumerate_from, list_any, list_all, join_with_byte, AllByRecursion}
use Rattle.std.specs.Option.{option_map_or}
use Rattle.std.proofs.lemmas.Bool.{and_from, or_from}
use Rattle.std.proofs.lemmas.Bool.Decides.{nat_tests}
use Rattle.std.proofs.lemmas.Fmt.{decimal_by_steps}
use Rattle.std.proofs.lemmas.List.{map_push, length-map, append_cancel_right}
use Rattle.std.proofs.lemmas.List.Folds.{list_any-append}
use Rattle.std.proofs.lemmas.List.Elements.{recursion_from_All, All-from_recursion}
use Rattle.hex.specs.Hex.{encode_lower}
use Rattle.ecp_command.specs.Input.Accepted.{Content}
use Rattle.ecp_command.specs.Input.Calls.{SessionCalls}
use Rattle.ecp_command.specs.declared.input.planned.Planned.{Planned}
use Rattle.ecp_entry.specs.declared.entry.Entry.{Entry}
use Rattle.ecp_entry.specs.declared.line.Line.{Line}
use Rattle.ecp_entry.specs.declared.reply.Reply.{Reply}
use Rattle.ecp_entry.specs.declared.reply.Reply.TheVariants as reply
use Rattle.ecp_shape.specs.declared.shape.Shape.{Shape}
use Rattle.ecp_entry.specs.JournalText.{line_words, journal_line, line_numbers}
use Rattle.ecp_entry.specs.ReplyText.{reply_words, reply_line}
use Rattle.ecp_entry.proofs.LineLaws.{rest_of, IsGraphic, graphic-no_byte, decimal-graphic, Small, wide, line_words-graphic, journal_line-injective}
use Rattle.ecp_service.specs.Past.{entry_for, past_behind, past}
use Rattle.ecp_service.specs.Printed.{ArePrintable}
use Rattle.ecp_service.specs.RunText.{ending_reply, reply_to, session_text, journal_text, run_text}
use Rattle.ecp_history.specs.Spans.{ends}
use Rattle.ecp_service.proofs.TextLines.{lines_of, NoEnd, lines_of-one, lines_of-append, IsWhole, whole_none, whole_line, whole_append, whole_each, behind_last, behind_last-is}

-- ---- words have no line end

word-no_end : (word : List ℕ) → IsGraphic word → NoEnd word
word-no_end word graphic = graphic-no_byte 10 word (omega arith) graphic

join-no_end : (words : List (List ℕ)) → AllByRecursion IsGraphic words → NoEnd (join_with_byte 32 words)
join-no_end [] graphic = refl
join-no_end (word ∷ []) graphic = word-no_end word graphic.0
join-no_end (word ∷ next ∷ words) graphic =
    list_any-append (λ c. c == 10) word (32 ∷ join_with_byte 32 (next ∷ words))
    ∙ or_from (list_any (λ c. c == 10) word) (list_any (λ c. c == 10) (join_with_byte 32 (next ∷ words))) (word-no_end word graphic.0) (join-no_end (next ∷ words) graphic.1)

-- ---- which lines stand behind `journal`

-- the line does not begin with `j`, nor with a later letter
abbrev is_early : List ℕ → Bool
is_early [] = true
is_early (c ∷ cs) = nat_lt c 106

early-append : (xs ys : List ℕ) → is_early xs ≡ true → is_early ys ≡ true → is_early (xs ++ ys) ≡ true
early-append [] ys first second = second
early-append (x ∷ xs) ys first second = first

decimal-early : (n : ℕ) → n < 2 ^ 64 → is_early (decimal n) ≡ true
decimal-early n small = decimal_by_steps (λ n ds. is_early ds ≡ true)
    (λ n h. grind (arith, nat_tests))
    (λ n ds h early. early-append ds ((48 + n % 10) ∷ []) early (grind (arith, nat_tests)))
    n small

line-early : (at : ℕ) (a : Line) → at < 2 ^ 32 → is_early (join_with_byte 32 (line_words at a)) ≡ true
line-early at a small_at = early-append (decimal at) (32 ∷ join_with_byte 32 (rest_of (line_words at a))) (decimal-early at (wide at small_at)) refl

-- ---- the lines of a journal

-- the lines without their ends
abbrev bare : ℕ → List Line → List (List ℕ)
bare at [] = []
bare at (line ∷ lines) = join_with_byte 32 (line_words at line) ∷ bare (at + 1) lines

-- the lines have small numbers, and so have their positions
abbrev AreSmall : ℕ → List Line → Type 0
AreSmall at lines = (at + length lines < 2 ^ 32) × AllByRecursion (λ line. Small (line_numbers line)) lines

small_rest : (at : ℕ) (line : Line) (lines : List Line) → AreSmall at (line ∷ lines) → AreSmall (at + 1) lines
small_rest at line lines small = let few = small.0 in (omega (arith, few), small.1.1)

small_here : (at : ℕ) (line : Line) (lines : List Line) → AreSmall at (line ∷ lines) → at < 2 ^ 32
small_here at line lines small = let few = small.0 in omega (arith, few)

journal-lines : (at : ℕ) (history : List Entry) (rest : List ℕ) → AreSmall at (map (λ e. e.line) history)
    → lines_of (flat_map (λ p. journal_line p.0 p.1.line) (enumerate_from at history) ++ rest) ≡ bare at (map (λ e. e.line) history) ++ lines_of rest
journal-lines at [] rest small = refl
journal-lines at (e ∷ history) rest small =
    let lines : List Line = map (λ x. x.line) history in
    let words : List ℕ = join_with_byte 32 (line_words at e.line) in
    let more : List ℕ = flat_map (λ p. journal_line p.0 p.1.line) (enumerate_from (at + 1) history) in
    ap lines_of (append_assoc (words ++ 10 ∷ []) more rest ∙ append_assoc words (10 ∷ []) (more ++ rest))
    ∙ lines_of-append words (more ++ rest)
    ∙ ap (λ (ls : List (List ℕ)). ls ++ lines_of (more ++ rest)) (lines_of-one words (join-no_end (line_words at e.line) (line_words-graphic at e.line (small_here at e.line lines small) small.1.0)))
    ∙ ap (λ (ls : List (List ℕ)). words ∷ ls) (journal-lines (at + 1) history rest (small_rest at e.line lines small))

bare-early : (at : ℕ) (lines : List Line) (rest : List (List ℕ)) → AreSmall at lines → list_all is_early rest ≡ true → list_all is_early (bare at lines ++ rest) ≡ true
bare-early at [] rest small early = early
bare-early at (line ∷ lines) rest small early =
    and_from (is_early (join_with_byte 32 (line_words at line))) (list_all is_early (bare (at + 1) lines ++ rest))
    (line-early at line (small_here at line lines small))
    (bare-early (at + 1) lines rest (small_rest at line lines small) early)

-- ---- the parts of the text of a run

bare_reply : (words : List ℕ) → IsWhole ((words ++ 10 ∷ []) ++ [])
bare_reply words = subst IsWhole (sym (append-nil (words ++ 10 ∷ []))) (whole_line words)

hex_reply : (words digits : List ℕ) → IsWhole ((words ++ 32 ∷ []) ++ (digits ++ 10 ∷ []))
hex_reply words digits = subst IsWhole (append_assoc (words ++ 32 ∷ []) digits (10 ∷ [])) (whole_line ((words ++ 32 ∷ []) ++ digits))

reply-whole : (r : Reply) (bytes digest : List ℕ) → IsWhole (reply_line r bytes digest)
reply-whole (reply.Ended act) bytes digest = bare_reply (join_with_byte 32 (reply_words (reply.Ended act)))
reply-whole reply.Data bytes digest = hex_reply (join_with_byte 32 (reply_words reply.Data)) (encode_lower bytes)
reply-whole reply.Sum bytes digest = hex_reply (join_with_byte 32 (reply_words reply.Sum)) (encode_lower digest)
reply-whole (reply.File len) bytes digest = hex_reply (join_with_byte 32 (reply_words (reply.File len))) (encode_lower digest)
reply-whole (reply.Broken index cause) bytes digest = bare_reply (join_with_byte 32 (reply_words (reply.Broken index cause)))

one_reply-whole : (history : List Entry) (caller call : ℕ) (planned : Planned) → IsWhole (reply_to history caller call planned)
one_reply-whole history caller call planned = either (find (ends caller call) history) where
  either : (o : Option Entry) → IsWhole (option_map_or (ending_reply history planned) o [])
  either None = whole_none
  either (Some e) = reply-whole _ e.bytes _

session-whole : (history : List Entry) (s : SessionCalls) → IsWhole (session_text history s)
session-whole history s =
    let replies : List ℕ = flat_map (λ p. reply_to history s.number p.0 p.1) (enumerate_from 0 s.calls) in
    whole_append ((codes "session " ++ decimal s.number) ++ 10 ∷ []) replies (whole_line (codes "session " ++ decimal s.number))
    (whole_each (λ p. reply_to history s.number p.0 p.1) (enumerate_from 0 s.calls) (λ p. one_reply-whole history s.number p.0 p.1))

-- what stands behind the line of the count
abbrev tail : List (List ℕ)
tail = codes "end" ∷ [] ∷ []

count-no_end : (n : ℕ) → n < 2 ^ 64 → NoEnd (codes "journal " ++ decimal n)
count-no_end n small = word-no_end (decimal n) (decimal-graphic n small)

run-lines : (input : Content) (history : List Entry) → AreSmall 0 (map (λ e. e.line) history) → length history < 2 ^ 64
    → behind_last is_early (lines_of (run_text input history)) ≡ bare 0 (map (λ e. e.line) history) ++ tail
run-lines input history small few =
    let replies : List ℕ = flat_map (session_text history) input.sessions in
    let count : List ℕ = codes "journal " ++ decimal (length history) in
    let journal : List ℕ = journal_text history ++ codes "end\n" in
    let lines : List (List ℕ) = bare 0 (map (λ e. e.line) history) ++ tail in
    let whole : IsWhole replies = whole_each (session_text history) input.sessions (session-whole history) in
    let split : lines_of (run_text input history) ≡ whole.lines ++ count ∷ lines =
    whole.apart ((count ++ 10 ∷ []) ++ journal)
    ∙ ap (λ (ls : List (List ℕ)). whole.lines ++ ls)
    (ap lines_of (append_assoc count (10 ∷ []) journal)
    ∙ lines_of-append count journal
    ∙ ap (λ (ls : List (List ℕ)). ls ++ lines_of journal) (lines_of-one count (count-no_end (length history) few))
    ∙ ap (λ (ls : List (List ℕ)). count ∷ ls) (journal-lines 0 history (codes "end\n") small)) in
    ap (behind_last is_early) split ∙ behind_last-is is_early whole.lines count lines refl (bare-early 0 (map (λ e. e.line) history) tail small refl)

-- ---- the lines of a past

past-lines : (shape : Shape) (input : Content) (before : List Entry) (lines : List Line) → map (λ e. e.line) (past_behind shape input before lines) ≡ map (λ e. e.line) before ++ lines
past-lines shape input before [] = sym (append-nil (map (λ e. e.line) before))
past-lines shape input before (line ∷ lines) =
    let e : Entry = entry_for shape input before line in
    past-lines shape input (before ++ e ∷ []) lines
    ∙ ap (λ (ls : List Line). ls ++ lines) (map_push (λ (x : Entry). x.line) before e)
    ∙ append_assoc (map (λ x. x.line) before) (line ∷ []) lines

-- the first of some lines
abbrev first_of : List (List ℕ) → List ℕ
first_of [] = []
first_of (line ∷ lines) = line

bare-injective : (at : ℕ) (a b : List Line) → AreSmall at a → AreSmall at b → bare at a ≡ bare at b → a ≡ b
bare-injective at [] [] small_a small_b same = refl
bare-injective at [] (y ∷ b) small_a small_b same = cc
bare-injective at (x ∷ a) [] small_a small_b same = cc
bare-injective at (x ∷ a) (y ∷ b) small_a small_b same =
    let text : journal_line at x ≡ journal_line at y = ap (λ (ls : List (List ℕ)). first_of ls ++ 10 ∷ []) same in
    let first : x ≡ y = journal_line-injective at x y (small_here at x a small_a) (All-from_recursion (λ n. n < 2 ^ 32) (line_numbers x) small_a.1.0) (All-from_recursion (λ n. n < 2 ^ 32) (line_numbers y) small_b.1.0) text in
    let rest : a ≡ b = bare-injective (at + 1) a b (small_rest at x a small_a) (small_rest at y b small_b) (ap rest_of same) in
    ap (λ (z : Line). z ∷ a) first ∙ ap (λ (ls : List Line). y ∷ ls) rest

-- the numbers of printable lines are small
small_lines : (lines : List Line) → ArePrintable lines → AreSmall 0 lines
small_lines lines printable = let few = printable.few in (omega (arith, few), each lines (recursion_from_All (λ line. All (λ n. n < 2 ^ 32) (line_numbers line)) lines printable.small)) where
  each : (ls : List Line) → AllByRecursion (λ line. All (λ n. n < 2 ^ 32) (line_numbers line)) ls → AllByRecursion (λ line. Small (line_numbers line)) ls
  each [] all = tt
  each (line ∷ ls) all = (recursion_from_All (λ n. n < 2 ^ 32) (line_numbers line) all.0, each ls all.1)

past-journal : (shape : Shape) (input : Content) (lines : List Line) → ArePrintable lines → behind_last is_early (lines_of (run_text input (past shape input lines))) ≡ bare 0 lines ++ tail
past-journal shape input lines printable =
    let history : List Entry = past shape input lines in
    let are : map (λ e. e.line) history ≡ lines = past-lines shape input [] lines in
    let long : length history ≡ length lines = sym (length-map history (λ (e : Entry). e.line)) ∙ ap (λ (ls : List Line). length ls) are in
    let few = printable.few in
    run-lines input history (subst (AreSmall 0) (sym are) (small_lines lines printable)) (omega (arith, few, long))
    ∙ ap (λ (ls : List Line). bare 0 ls ++ tail) are

-- the text of a past tells its lines, whatever the input
pub one_journal : (s t : Shape) (x y : Content) (a b : List Line) → ArePrintable a → ArePrintable b → run_text x (past s x a) ≡ run_text y (past t y b) → a ≡ b
one_journal s t x y a b printable_a printable_b same =
    bare-injective 0 a b (small_lines a printable_a) (small_lines b printable_b)
    (append_cancel_right (bare 0 a) (bare 0 b) tail
    (sym (past-journal s x a printable_a)
    ∙ ap (λ (text : List ℕ). behind_last is_early (lines_of text)) same
    ∙ past-journal t y b printable_b))
