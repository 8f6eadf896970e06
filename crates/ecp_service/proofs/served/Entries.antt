-- Where the entries of the calls of an input stand in a history that has of each caller just them.
use Rattle.std.proofs.Common.{◌≡◌, ℕ, zero, suc, ◌+◌, ◌<◌, ◌≤◌, ◌==◌, true, List, [], ◌∷◌, length, Some, Contains, inl, inr, refl, sym, ◌∙◌, ap, subst, arith, zero-add}
use Rattle.std.specs.Prelude.{slice_get, filter, count_by, find}
use Rattle.std.proofs.lemmas.List.{length-append}
use Rattle.std.proofs.lemmas.Option.{none-some, same_Some, slice_get_within}
use Rattle.std.proofs.lemmas.Bool.{and_from, cases_lt, eq-eqb}
use Rattle.ecp_cluster.specs.declared.answer.Answer.{Answer}
use Rattle.ecp_command.specs.Input.Accepted.{Content}
use Rattle.ecp_command.specs.declared.input.planned.Planned.{Planned}
use Rattle.ecp_entry.specs.declared.entry.Entry.{Entry}
use Rattle.ecp_shape.specs.declared.limits.TheConstants.{MAX_SESSIONS}
use Rattle.ecp_history.specs.Spans.{is_of, is_end, ends, is_part}
use Rattle.ecp_service.specs.Asked.{calls_in, call_at}
use Rattle.ecp_service.proofs.served.Callers.{is_by}
use Rattle.ecp_service.proofs.served.Fronts.{at_end}
use Rattle.ecp_service.proofs.served.Groups.{Rising, is_in_call, just_of_call, rising}
use Rattle.ecp_service.proofs.served.Kept.{StoodAt, contains_at, kept_there, passed, passed_le, passed_lt, stood}
use Rattle.ecp_service.proofs.served.Lists.{count_before, count_both, count_last, filter_both, filter_last, find_before, find_both, find_last, of_last, of_place}
use Rattle.ecp_service.proofs.served.Parts.{CallEntries, all_entries, end_unnumbered, ended, ends_last, entries_of, numbered}
use Rattle.ecp_service.proofs.served.Passes.{AreFenced, AreReplies, HasReply, IsFenced, IsIn, IsOfOne, IsReply, call_of_entry, entries_of_call, fenced_call}

-- of a caller the history has just the entries of its calls, as they were answered
pub record HasCaller (content : Content) (answers : ℕ → List Answer) (history : List Entry) (c : ℕ) : Type 0 where
  pub groups : List CallEntries
  pub replies : AreReplies c 0 (calls_in content c) (answers c) groups
  pub just : filter (is_by c) history ≡ all_entries groups

-- of a caller it has just those entries, each between the fences of its call's phase
pub record HasFenced (content : Content) (answers : ℕ → List Answer) (fences : ℕ → ℕ) (history : List Entry) (c : ℕ) : Type 0 where
  pub has : HasCaller content answers history c
  pub fenced : AreFenced fences history (calls_in content c) has.groups

-- so it has of each session that made an entry
abbrev pub HasCallers : Content → (ℕ → List Answer) → List Entry → Type 0
HasCallers content answers history = (i : ℕ) (e : Entry) → slice_get history i ≡ Some e → e.line.caller < MAX_SESSIONS → HasCaller content answers history e.line.caller

-- of a call of the input it has just the entries by which the call was answered
pub record HasEntries (content : Content) (answers : ℕ → List Answer) (history : List Entry) (c n : ℕ) (p : Planned) : Type 0 where
  pub answer : Answer
  pub group : CallEntries
  pub given : slice_get (answers c) n ≡ Some answer
  pub reply : IsReply c n p answer group
  pub just : filter (is_of c n) history ≡ entries_of group

-- those of a caller's call
just_its : (content : Content) (answers : ℕ → List Answer) (history : List Entry) (c n : ℕ) (g : CallEntries) → (has : HasCaller content answers history c) → slice_get has.groups n ≡ Some g
    → filter (is_of c n) history ≡ entries_of g
just_its content answers history c n g has here =
    filter_both (is_by c) (is_in_call n) history
    ∙ ap (λ (es : List Entry). filter (is_in_call n) es) has.just
    ∙ ap (λ (m : ℕ). filter (is_in_call m) (all_entries has.groups)) (sym (zero-add n))
    ∙ just_of_call c 0 (calls_in content c) (answers c) has.groups n g has.replies here

pub has_entries : (content : Content) (answers : ℕ → List Answer) (history : List Entry) (c n : ℕ) (p : Planned) → HasCaller content answers history c
    → call_at content c n ≡ Some p → HasEntries content answers history c n p
has_entries content answers history c n p has asked =
    let one : HasReply c 0 n p (answers c) has.groups = entries_of_call c 0 (calls_in content c) (answers c) has.groups n p has.replies asked in
    record {
      answer = one.answer;
      group = one.group;
      given = one.given;
      reply = subst (λ (m : ℕ). IsReply c m p one.answer one.group) (zero-add n) one.reply;
      just = just_its content answers history c n one.group has one.here;
    }

-- an entry is one of those of the call that it is of
pub record IsTold (content : Content) (answers : ℕ → List Answer) (history : List Entry) (e : Entry) : Type 0 where
  pub planned : Planned
  pub asked : call_at content e.line.caller e.line.call ≡ Some planned
  pub is : IsIn e.line.caller e.line.call planned e
  pub has : HasEntries content answers history e.line.caller e.line.call planned

pub told_at : (content : Content) (answers : ℕ → List Answer) (history : List Entry) (i : ℕ) (e : Entry) → HasCaller content answers history e.line.caller
    → slice_get history i ≡ Some e → IsTold content answers history e
told_at content answers history i e has here =
    let c : ℕ = e.line.caller in
    let there : Contains (filter (is_by c) history) e = contains_at (filter (is_by c) history) (passed (is_by c) history i) e (kept_there (is_by c) history i e here (eq-eqb c c refl)) in
    let one : IsOfOne c 0 (calls_in content c) e =
    call_of_entry c 0 (calls_in content c) (answers c) has.groups e has.replies (subst (λ (es : List Entry). Contains es e) has.just there) in
    let number : e.line.call ≡ one.number = one.is.call ∙ zero-add one.number in
    let asked : call_at content c e.line.call ≡ Some one.planned = ap (λ (n : ℕ). call_at content c n) number ∙ one.asked in
    record {
      planned = one.planned;
      asked = asked;
      is = subst (λ (n : ℕ). IsIn c n one.planned e) (sym one.is.call) one.is;
      has = has_entries content answers history c e.line.call one.planned has asked;
    }

-- ---- the entries of one call

module _ (content : Content) (answers : ℕ → List Answer) (history : List Entry) (c n : ℕ) (p : Planned) (one : HasEntries content answers history c n p) where
  last_ends : ended one.group.last ≡ true
  last_ends = ap is_end one.reply.last

  -- the call has one end
  pub one_end : count_by (ends c n) history ≡ 1
  one_end =
      count_both (is_of c n) ended history
      ∙ ap (λ (es : List Entry). count_by ended es) one.just
      ∙ count_last ended one.group.parts one.group.last one.reply.unended last_ends

  pub its_end : find (ends c n) history ≡ Some one.group.last
  its_end =
      find_both (is_of c n) ended history
      ∙ ap (λ (es : List Entry). find ended es) one.just
      ∙ find_last ended one.group.parts one.group.last one.reply.unended last_ends

  just_end : filter (ends c n) history ≡ one.group.last ∷ []
  just_end =
      filter_both (is_of c n) ended history
      ∙ ap (λ (es : List Entry). filter ended es) one.just
      ∙ filter_last ended one.group.parts one.group.last one.reply.unended last_ends

  -- and its parts before that
  pub its_part : (j : ℕ) → find (is_part c n j) history ≡ find (numbered j) one.group.parts
  its_part j =
      find_both (is_of c n) (numbered j) history
      ∙ ap (λ (es : List Entry). find (numbered j) es) one.just
      ∙ find_before (numbered j) one.group.parts one.group.last (end_unnumbered j one.group.last last_ends)

  pub its_parts : (j : ℕ) → count_by (is_part c n j) history ≡ count_by (numbered j) one.group.parts
  its_parts j =
      count_both (is_of c n) (numbered j) history
      ∙ ap (λ (es : List Entry). count_by (numbered j) es) one.just
      ∙ count_before (numbered j) one.group.parts one.group.last (end_unnumbered j one.group.last last_ends)

  -- an entry that ends the call is that end
  pub same_end : (i : ℕ) (e : Entry) → slice_get history i ≡ Some e → ends c n e ≡ true → e ≡ one.group.last
  same_end i e here is = alone (passed (ends c n) history i) (ap (λ (es : List Entry). slice_get es (passed (ends c n) history i)) (sym just_end) ∙ kept_there (ends c n) history i e here is) where
    alone : (k : ℕ) → slice_get (one.group.last ∷ []) k ≡ Some e → e ≡ one.group.last
    alone zero kept = sym (same_Some one.group.last e kept)
    alone (suc k) kept = absurd (none-some e kept)

  -- where the end stands
  pub end_stands : StoodAt (is_of c n) history (length one.group.parts) one.group.last
  end_stands =
      stood (is_of c n) history (length one.group.parts) one.group.last
      (ap (λ (es : List Entry). slice_get es (length one.group.parts)) one.just ∙ at_end one.group.parts one.group.last)

  -- an entry of the call
  its_own : (i : ℕ) (e : Entry) → slice_get history i ≡ Some e → is_of c n e ≡ true → slice_get (entries_of one.group) (passed (is_of c n) history i) ≡ Some e
  its_own i e here is = ap (λ (es : List Entry). slice_get es (passed (is_of c n) history i)) (sym one.just) ∙ kept_there (is_of c n) history i e here is

  -- stands no later than its end
  pub before_end : (i k : ℕ) (e : Entry) → slice_get history i ≡ Some e → is_of c n e ≡ true → slice_get history k ≡ Some one.group.last → is_of c n one.group.last ≡ true → i ≤ k
  before_end i k e here is there also = elim (cases_lt k i) [
    | inl past ↦
        let more : passed (is_of c n) history k < passed (is_of c n) history i = passed_lt (is_of c n) history k i one.group.last there also past in
        let within : passed (is_of c n) history i < length (entries_of one.group) = slice_get_within (entries_of one.group) (passed (is_of c n) history i) e (its_own i e here is) in
        let behind : length one.group.parts ≤ passed (is_of c n) history k =
        ends_last one.group.parts one.group.last (passed (is_of c n) history k) one.group.last one.reply.unended (its_own k one.group.last there also) last_ends in
        absurd (omega (arith, more, within, behind, length-append one.group.parts (one.group.last ∷ [])))
    | inr within ↦ within
  ]

-- whether an entry is of a call, by its line
pub is_of_it : (c n : ℕ) (p : Planned) (e : Entry) → IsIn c n p e → is_of c n e ≡ true
is_of_it c n p e is = and_from (e.line.caller == c) (e.line.call == n) (eq-eqb e.line.caller c is.caller) (eq-eqb e.line.call n is.call)

-- ---- the order of calls

no_fall : (es : List Entry) (k m : ℕ) (x y : Entry) → Rising es → slice_get es k ≡ Some x → slice_get es m ≡ Some y → k ≤ m → x.line.call ≤ y.line.call
no_fall [] k m x y rise here there le = absurd (none-some x here)
no_fall (e ∷ es) zero zero x y rise here there le =
    let same : x ≡ y = sym (same_Some e x here) ∙ same_Some e y there in
    subst (λ (z : Entry). x.line.call ≤ z.line.call) same (omega arith)
no_fall (e ∷ es) zero (suc m) x y rise here there le =
    subst (λ (z : Entry). z.line.call ≤ y.line.call) (same_Some e x here) (of_place (λ (z : Entry). e.line.call ≤ z.line.call) es m y rise.0 there)
no_fall (e ∷ es) (suc k) zero x y rise here there le = absurd (omega (arith, le))
no_fall (e ∷ es) (suc k) (suc m) x y rise here there le = no_fall es k m x y rise.1 here there (omega (arith, le))

-- the entries of an earlier call of a session stand before those of a later one
pub in_order : (content : Content) (answers : ℕ → List Answer) (history : List Entry) (i j : ℕ) (d e : Entry) → HasCallers content answers history
    → slice_get history i ≡ Some d → slice_get history j ≡ Some e → d.line.caller < MAX_SESSIONS → d.line.caller ≡ e.line.caller → d.line.call < e.line.call → i < j
in_order content answers history i j d e all here there session same less =
    let c : ℕ = d.line.caller in
    let has : HasCaller content answers history c = all i d here session in
    let rise : Rising (filter (is_by c) history) =
    subst Rising (sym has.just) (rising c 0 (calls_in content c) (answers c) has.groups has.replies) in
    elim (cases_lt i j) [
      | inl before ↦ before
      | inr behind ↦
          let le : passed (is_by c) history j ≤ passed (is_by c) history i = passed_le (is_by c) history j i behind in
          let falls : e.line.call ≤ d.line.call =
          no_fall (filter (is_by c) history) (passed (is_by c) history j) (passed (is_by c) history i) e d rise
          (kept_there (is_by c) history j e there (eq-eqb e.line.caller c (sym same))) (kept_there (is_by c) history i d here (eq-eqb c c refl)) le in
          absurd (omega (arith, less, falls))
    ]

-- ---- the fences of phases

-- the entry of a call has its point and its place between the fences of the call's phase
pub record LiesIn (fences : ℕ → ℕ) (phase i : ℕ) (e : Entry) : Type 0 where
  pub begun : fences phase ≤ e.line.point
  pub ended : i < fences (phase + 1)

pub lies_in : (content : Content) (answers : ℕ → List Answer) (fences : ℕ → ℕ) (history : List Entry) (i : ℕ) (e : Entry) (p : Planned)
    → HasFenced content answers fences history e.line.caller → slice_get history i ≡ Some e → call_at content e.line.caller e.line.call ≡ Some p
    → LiesIn fences p.phase i e
lies_in content answers fences history i e p has here asked =
    let c : ℕ = e.line.caller in
    let n : ℕ = e.line.call in
    let its : HasReply c 0 n p (answers c) has.has.groups = entries_of_call c 0 (calls_in content c) (answers c) has.has.groups n p has.has.replies asked in
    let one : HasEntries content answers history c n p = record {
      answer = its.answer;
      group = its.group;
      given = its.given;
      reply = subst (λ (m : ℕ). IsReply c m p its.answer its.group) (zero-add n) its.reply;
      just = just_its content answers history c n its.group has.has its.here;
    } in
    let fenced : IsFenced fences history p its.group = fenced_call fences history (calls_in content c) has.has.groups n p its.group has.fenced asked its.here in
    let mine : is_of c n e ≡ true = and_from (c == c) (n == n) (eq-eqb c c refl) (eq-eqb n n refl) in
    let last : is_of c n its.group.last ≡ true = is_of_it c n p its.group.last (of_last (IsIn c n p) its.group.parts its.group.last one.reply.own) in
    let before : i ≤ fenced.place = before_end content answers history c n p one i fenced.place e here mine fenced.here last in
    record {
      begun = of_place (λ (x : Entry). fences p.phase ≤ x.line.point) (entries_of its.group) (passed (is_of c n) history i) e fenced.begun
          (its_own content answers history c n p one i e here mine);
      ended = within i fenced.place (fences (p.phase + 1)) before fenced.ended;
    }
  where
    within : (a b d : ℕ) → a ≤ b → b < d → a < d
    within a b d p q = omega (arith, p, q)
