-- What a run over nodes writes is the text of a history of its input.
use Rattle.std.proofs.Common.{◌≡◌, ℕ, ◌+◌, ◌-◌, ◌^◌, ◌<◌, ◌≤◌, Bool, true, IsTrue, List, [], ◌∷◌, ◌++◌, length, map, take, drop, get_or, inl, inr, refl, sym, ◌∙◌, ap, subst, arith, get_or-take, length-take, length-take-le}
use Rattle.std.specs.Prelude.{flat_map, max, codes}
use Rattle.std.proofs.lemmas.Bool.{cases_lt}
use Rattle.std.proofs.lemmas.List.{get_or-drop}
use Rattle.ecp_book.specs.Names.{StoreStart}
use Rattle.ecp_cluster.specs.Ended.{AllPaid, HasPaid}
use Rattle.ecp_cluster.specs.Opening.{starting}
use Rattle.ecp_cluster.proofs.OpenLaws.{starts_are}
use Rattle.ecp_command.specs.Input.Accepted.{Content, IsAccepted}
use Rattle.ecp_command.specs.Input.Calls.{SessionCalls}
use Rattle.ecp_command.specs.Input.Settings.{shape_of}
use Rattle.ecp_entry.specs.Told.{history_of}
use Rattle.ecp_entry.specs.declared.line.Line.{Line}
use Rattle.ecp_history.specs.Counted.{faults_spent}
use Rattle.ecp_history.specs.Legal.{IsLegal}
use Rattle.ecp_node.specs.Held.{spends}
use Rattle.ecp_node.specs.Nodes.{start_of}
use Rattle.ecp_service.specs.Answers.{IsHistoryOf, IsRunOf, IsTextOf}
use Rattle.ecp_service.specs.Over.{RanOver, starts_of}
use Rattle.ecp_service.specs.Paid.{PaidBy, storage}
use Rattle.ecp_service.specs.RunLines.{count_line, lines_from}
use Rattle.ecp_service.specs.RunText.{run_text}
use Rattle.ecp_service.specs.Served.{answers_by, numbered_replies, run_lines, served_text, session_replies}
use Rattle.ecp_service.specs.declared.serving.replies.Replies.{Replies}
use Rattle.ecp_service.proofs.ServedRuns.{IsServedRun, each_paid, none_spent, served_run}
use Rattle.ecp_shape.specs.Range.{IsInRange}
use Rattle.ecp_shape.specs.declared.shape.Shape.{Shape}

-- the replies of sessions are those of the callers with their numbers
by_number : (replies : List Replies) (sessions : List SessionCalls)
    → flat_map (session_replies (answers_by replies)) sessions ≡ flat_map (numbered_replies replies) (map (λ s. s.number) sessions)
by_number replies [] = refl
by_number replies (s ∷ sessions) = ap (λ (xs : List ℕ). numbered_replies replies s.number ++ xs) (by_number replies sessions)

the_text : (sessions : List SessionCalls) (numbers : List ℕ) (replies : List Replies) (lines : List Line) → numbers ≡ map (λ s. s.number) sessions
    → served_text sessions (answers_by replies) lines ≡ run_lines numbers replies lines
the_text sessions numbers replies lines are =
    ap (λ (xs : List ℕ). xs ++ (count_line lines ++ (lines_from 0 lines ++ codes "end\n")))
    (by_number replies sessions ∙ ap (λ (ns : List ℕ). flat_map (numbered_replies replies) ns) (sym are))

-- the stores paid for the failures that the history tells of
module _ {S : Type 0} (faults : S → ℕ) (faultless : S → Bool) (shape : Shape) (old new : List S) (history : List (List ℕ)) where
  start_is : (m : ℕ) (s : S) → shape.nodes ≤ length old → m < shape.nodes
      → start_of (starts_of faults faultless (take shape.nodes old)) m ≡ starting (faults (get_or old m s)) (faultless (get_or old m s))
  start_is m s enough below =
      (starts_are faults faultless [] shape.nodes (take shape.nodes old) (length-take-le shape.nodes old enough)).stated m s below
      ∙ ap (λ (x : S). starting (faults x) (faultless x)) (get_or-take shape.nodes old m s below)

  rest_same : (m : ℕ) (s : S) → drop shape.nodes new ≡ drop shape.nodes old → shape.nodes ≤ m → get_or new m s ≡ get_or old m s
  rest_same m s same ge =
      let at : shape.nodes + (m - shape.nodes) ≡ m = omega (arith, ge) in
      ap (λ (k : ℕ). get_or new k s) (sym at)
      ∙ sym (get_or-drop shape.nodes new (m - shape.nodes) s)
      ∙ ap (λ (xs : List S). get_or xs (m - shape.nodes) s) same
      ∙ get_or-drop shape.nodes old (m - shape.nodes) s
      ∙ ap (λ (k : ℕ). get_or old k s) at

  unfailing_of : (start : StoreStart) (m failed : ℕ) → HasPaid history start m failed → IsTrue start.faultless → (failed ≡ start.faults) × (faults_spent m (history_of history) ≡ 0)
  unfailing_of start m failed has never =
      let never_failed = has.paid.sound.unfailing never in
      let covered = has.paid.sound.covered never_failed.1 in
      let spent : faults_spent m (history_of history) ≤ spends has.node.items =
      subst (λ (k : ℕ). faults_spent k (history_of history) ≤ spends has.node.items) has.numbered has.paid.spent in
      (has.faults ∙ never_failed.0, omega (arith, spent, covered, never_failed.0, has.paid.sound.paid))

  paid_spent : (m : ℕ) (s : S) → length new ≡ length old → drop shape.nodes new ≡ drop shape.nodes old
      → AllPaid faults (starts_of faults faultless (take shape.nodes old)) history shape.nodes (take shape.nodes new)
      → IsLegal shape true (history_of history) → shape.nodes ≤ length old
      → faults (get_or new m s) < 2 ^ 64 - 1 → faults (get_or old m s) + faults_spent m (history_of history) ≤ faults (get_or new m s)
  paid_spent m s back unused all legal enough below = elim (cases_lt m shape.nodes) [
    | inl lt ↦
        let same : get_or (take shape.nodes new) m s ≡ get_or new m s = get_or-take shape.nodes new m s lt in
        let paid = each_paid faults (starts_of faults faultless (take shape.nodes old)) shape history (take shape.nodes new) m s all lt
        (subst (λ (x : S). faults x < 2 ^ 64 - 1) (sym same) below) in
        subst (λ (x : S). faults (get_or old m s) + faults_spent m (history_of history) ≤ faults x) same
        (subst (λ (st : StoreStart). st.faults + faults_spent m (history_of history) ≤ faults (get_or (take shape.nodes new) m s)) (start_is m s enough lt) paid)
    | inr ge ↦
        let none : faults_spent m (history_of history) ≡ 0 = none_spent shape true (history_of history) m legal ge in
        let kept : faults (get_or new m s) ≡ faults (get_or old m s) = ap faults (rest_same m s unused ge) in
        omega (arith, none, kept)
  ]

  paid_unfailing : (m : ℕ) (s : S) → AllPaid faults (starts_of faults faultless (take shape.nodes old)) history shape.nodes (take shape.nodes new)
      → drop shape.nodes new ≡ drop shape.nodes old
      → IsLegal shape true (history_of history) → shape.nodes ≤ length old → IsTrue (faultless (get_or old m s))
      → (faults (get_or new m s) ≡ faults (get_or old m s)) × (faults_spent m (history_of history) ≡ 0)
  paid_unfailing m s all unused legal enough never = elim (cases_lt m shape.nodes) [
    | inl lt ↦
        unfailing_of (starting (faults (get_or old m s)) (faultless (get_or old m s))) m (faults (get_or new m s))
        (subst (λ (x : S). HasPaid history (starting (faults (get_or old m s)) (faultless (get_or old m s))) m (faults x)) (get_or-take shape.nodes new m s lt)
        (subst (λ (st : StoreStart). HasPaid history st m (faults (get_or (take shape.nodes new) m s))) (start_is m s enough lt) (all.paid m s lt)))
        never
    | inr ge ↦ (ap faults (rest_same m s unused ge), none_spent shape true (history_of history) m legal ge)
  ]

  paid_by : length new ≡ length old → drop shape.nodes new ≡ drop shape.nodes old
      → AllPaid faults (starts_of faults faultless (take shape.nodes old)) history shape.nodes (take shape.nodes new)
      → IsLegal shape true (history_of history) → shape.nodes ≤ length old → PaidBy faults faultless old new (history_of history)
  paid_by back unused all legal enough = record {
    back = back;
    spent = λ m s below. paid_spent m s back unused all legal enough below;
    unfailing = λ m s within never. paid_unfailing m s all unused legal enough never;
  }

-- A run over stores that tell writes the text of a history of its input
told_text : {S : Type 0} (faults : S → ℕ) (faultless : S → Bool) (bytes : List ℕ) (content : Content) (old : List S) (numbers : List ℕ) (replies : List Replies) (lines : List Line) (new : List S)
    → IsAccepted bytes content → IsInRange (shape_of content.head) → RanOver true faults faultless content old numbers replies lines new
    → IsTextOf (PaidBy faults faultless old new) content (run_lines numbers replies lines)
told_text {S} faults faultless bytes content old numbers replies lines new accepted range ran =
    let spares : ℕ = max content.head.workers 1 in
    let shape : Shape = shape_of content.head in
    let starts : List StoreStart = starts_of faults faultless (take content.head.nodes old) in
    let used : List S = take content.head.nodes new in
    let by = ran.served in
    let run : IsServedRun content (answers_by replies) lines (history_of by.ended.last.history) =
    served_run bytes content (answers_by replies) spares ran.callers faults starts lines by.passes used accepted range by.served by.ended in
    let enough : content.head.nodes ≤ length old = omega (arith, length-take content.head.nodes new, by.ended.stores_paid.each, ran.back) in
    record {
      journal = lines;
      printable = ran.printable;
      written = sym (the_text content.sessions numbers replies lines ran.numbers_are) ∙ sym run.written ∙ ap (run_text content) (sym run.past_is);
      history = subst (IsHistoryOf (PaidBy faults faultless old new) shape content) (sym run.past_is) (record {
        legal = run.legal;
        serves = run.serves;
        paid_for = paid_by faults faultless shape old new by.ended.last.history ran.back ran.unused by.ended.stores_paid run.legal enough;
      });
    }

-- A run of a script
pub run_of : {S : Type 0} (told : Bool) (faults : S → ℕ) (faultless : S → Bool) (bytes : List ℕ) (content : Content) (old : List S) (numbers : List ℕ) (replies : List Replies) (lines : List Line) (new : List S)
    → IsAccepted bytes content → IsInRange (shape_of content.head) → RanOver told faults faultless content old numbers replies lines new
    → IsRunOf (storage told faults faultless old new) bytes (run_lines numbers replies lines)
run_of told faults faultless bytes content old numbers replies lines new accepted range ran = record {
  content = content;
  accepted = accepted;
  text_of = λ is. told_text faults faultless bytes content old numbers replies lines new accepted range
      (subst (λ (b : Bool). RanOver b faults faultless content old numbers replies lines new) is ran);
}
