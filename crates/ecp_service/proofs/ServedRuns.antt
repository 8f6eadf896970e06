-- A run that is served over nodes is a run of a plain table: its replies and its journal are those of one legal history.
use Rattle.std.proofs.Common.{◌≡◌, ℕ, ◌+◌, ◌-◌, ◌^◌, ◌<◌, ◌≤◌, Bool, true, List, Some, ◌∙◌, ap, subst, arith}
use Rattle.std.specs.Prelude.{slice_get, slice_index_or}
use Rattle.ecp_book.specs.Names.{StoreStart}
use Rattle.ecp_cluster.specs.Ended.{AllPaid, Ended, HasPaid}
use Rattle.ecp_cluster.specs.declared.answer.Answer.{Answer}
use Rattle.ecp_command.specs.Input.Accepted.{Content, IsAccepted}
use Rattle.ecp_command.specs.Input.Calls.{SessionCalls}
use Rattle.ecp_command.specs.Input.Settings.{shape_of}
use Rattle.ecp_command.specs.declared.input.planned.Planned.{Planned}
use Rattle.ecp_entry.specs.Told.{history_of}
use Rattle.ecp_entry.specs.declared.entry.Entry.{Entry}
use Rattle.ecp_entry.specs.declared.line.Line.{Line}
use Rattle.ecp_history.specs.Counted.{faults_spent}
use Rattle.ecp_history.specs.Legal.{IsLegal}
use Rattle.ecp_node.specs.Held.{faults, spends}
use Rattle.ecp_node.specs.Nodes.{start_of}
use Rattle.ecp_sequencer.specs.Passes.{PassState}
use Rattle.ecp_sequencer.specs.Sequencers.{SequencerState}
use Rattle.ecp_service.specs.Asked.{call_at}
use Rattle.ecp_service.specs.Past.{past}
use Rattle.ecp_service.specs.RunText.{run_text}
use Rattle.ecp_service.specs.Served.{EachServed, served_text}
use Rattle.ecp_service.specs.Serves.{NamesCalls, Serves}
use Rattle.ecp_shape.specs.Range.{IsInRange}
use Rattle.ecp_shape.specs.declared.limits.TheConstants.{MAX_SESSIONS}
use Rattle.ecp_shape.specs.declared.shape.Shape.{Shape}
use Rattle.ecp_service.proofs.served.Callers.{entry_below}
use Rattle.ecp_service.proofs.served.Entries.{HasCaller, HasCallers, HasFenced}
use Rattle.ecp_service.proofs.served.Inputs.{IsCall, IsInput, accepted_input, no_calls}
use Rattle.ecp_service.proofs.served.Kept.{contains_at}
use Rattle.ecp_service.proofs.served.NoNodes.{nothing_spent}
use Rattle.ecp_service.proofs.served.Pasts.{past_of}
use Rattle.ecp_service.proofs.served.Points.{complete, names_calls, ordered, phases_apart}
use Rattle.ecp_service.proofs.served.Runs.{each_ended, one_caller}
use Rattle.ecp_service.proofs.served.Stripes.{stripes_bounded}
use Rattle.ecp_service.proofs.served.Texts.{text_is}

-- the history with these lines is legal, serves the input, and has these answers
pub record IsServedRun (content : Content) (answers : ℕ → List Answer) (lines : List Line) (history : List Entry) : Type 0 where
  pub past_is : past (shape_of content.head) content lines ≡ history
  pub legal : IsLegal (shape_of content.head) true history
  pub serves : Serves (shape_of content.head) content history
  pub written : run_text content history ≡ served_text content.sessions answers lines

-- where the calls of an accepted input were answered and the service closed, so is the history of the lines
pub served_run : {S : Type 0} (bytes : List ℕ) (content : Content) (answers : ℕ → List Answer) (spares callers : ℕ) (failed : S → ℕ)
    (starts : List StoreStart) (lines : List Line) (passes : List PassState) (stores : List S)
    → IsAccepted bytes content → IsInRange (shape_of content.head)
    → EachServed (shape_of content.head) true spares callers content.sessions answers passes
    → (ended : Ended (shape_of content.head) true callers spares failed starts lines passes stores)
    → IsServedRun content answers lines (history_of ended.last.history)
served_run bytes content answers spares callers failed starts lines passes stores accepted range each ended =
    let shape : Shape = shape_of content.head in
    let s : SequencerState = ended.last in
    let history : List Entry = history_of s.history in
    let legal : IsLegal shape true history = ended.closed.kept.legal.legal in
    let input : IsInput content = accepted_input bytes content accepted in
    let fenced : (c : ℕ) → c < callers → c < MAX_SESSIONS → HasFenced content answers each.fences history c = one_caller shape callers spares content answers lines passes s each ended.closed in
    let by : (c : ℕ) → c < callers → c < MAX_SESSIONS → HasCaller content answers history c = λ c below session. (fenced c below session).has in
    let all : HasCallers content answers history = λ i e here session. by e.line.caller (entry_below callers spares s.history ended.closed.kept.made i e here session) session in
    let sessions : (i : ℕ) (x : SessionCalls) → slice_get content.sessions i ≡ Some x → HasCaller content answers history x.number =
    λ i x here. by x.number (each.room x (contains_at content.sessions i x here)) (input.sessions i x here).session in
    let calls : (c n : ℕ) (p : Planned) → call_at content c n ≡ Some p → HasCaller content answers history c = λ c n p asked.
    let call : IsCall content c p = input.calls c n p asked in
    subst (HasCaller content answers history) call.its (sessions call.place call.owner call.listed) in
    let names : NamesCalls content history = names_calls shape content answers history legal input all in
    record {
      past_is = ap (past shape content) ended.closed.printed ∙ past_of shape content history legal names (no_calls content input);
      legal = legal;
      serves = record {
        calls = names;
        complete = complete shape content answers history legal input all calls;
        ordered = ordered shape content answers history legal input all;
        phases = phases_apart shape content answers history legal input all each.fences each.rising
            (λ i e here session. fenced e.line.caller (entry_below callers spares s.history ended.closed.kept.made i e here session) session);
        drops = ended.closed.kept.counted;
        stripes = stripes_bounded shape content answers history legal input all sessions
            (ended.numbers (each_ended shape callers spares content answers lines passes s input by each ended.closed));
      };
      written = text_is shape content answers history legal input lines ended.closed.printed sessions;
    }

-- the entries that tell of failures of a node's store are at most the rise of its count, where that is not at its end
pub each_paid : {S : Type 0} (failed : S → ℕ) (starts : List StoreStart) (shape : Shape) (history : List (List ℕ)) (stores : List S) (m : ℕ) (store : S)
    → AllPaid failed starts history shape.nodes stores → m < shape.nodes
    → failed (slice_index_or stores m store) < 2 ^ 64 - 1
    → (start_of starts m).faults + faults_spent m (history_of history) ≤ failed (slice_index_or stores m store)
each_paid failed starts shape history stores m store paid within below =
    let one : HasPaid history (start_of starts m) m (failed (slice_index_or stores m store)) = paid.paid m store within in
    let spent : faults_spent m (history_of history) ≤ spends one.node.items = subst (λ (k : ℕ). faults_spent k (history_of history) ≤ spends one.node.items) one.numbered one.paid.spent in
    let covered : (start_of starts m).faults + faults one.node.items ≤ one.node.store_faults = one.paid.sound.covered (subst (λ (k : ℕ). k < 2 ^ 64 - 1) one.faults below) in
    let least : spends one.node.items ≤ faults one.node.items = one.paid.sound.paid in
    in_all (start_of starts m).faults (faults_spent m (history_of history)) (spends one.node.items) (faults one.node.items) one.node.store_faults (failed (slice_index_or stores m store))
    spent least covered one.faults
  where
    in_all : (a b c d e f : ℕ) → b ≤ c → c ≤ d → a + d ≤ e → f ≡ e → a + b ≤ f
    in_all a b c d e f p q r s = omega (arith, p, q, r, s)

-- no entry tells of a failure of a store past the last node
pub none_spent : (shape : Shape) (told : Bool) (history : List Entry) (m : ℕ)
    → IsLegal shape told history → shape.nodes ≤ m → faults_spent m history ≡ 0
none_spent shape told history m legal past = nothing_spent shape told history m legal past
