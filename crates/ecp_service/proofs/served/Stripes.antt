-- The calls that ended in a served history may use up no more stripe numbers than the puts of the input.
use Rattle.std.proofs.Common.{◌≡◌, ℕ, zero, suc, ◌+◌, ◌*◌, ◌<◌, ◌≤◌, true, List, [], ◌∷◌, length, map, Option, Some, None, refl, sym, ◌∙◌, ap, subst, arith, inl, inr, le_trans, zero-add, zero-mul}
use Rattle.std.specs.Prelude.{slice_get, filter, sum_by, flat_map}
use Rattle.std.proofs.lemmas.Bool.{cases_lt}
use Rattle.std.proofs.lemmas.List.Sums.{sum_by-append, sum_by-cons}
use Rattle.ecp_book.specs.Logs.{Log}
use Rattle.ecp_cluster.specs.declared.answer.Answer.{Answer}
use Rattle.ecp_command.specs.Input.Accepted.{Content}
use Rattle.ecp_command.specs.Input.Calls.{SessionCalls}
use Rattle.ecp_command.specs.declared.input.planned.Planned.{Planned}
use Rattle.ecp_coord.specs.Numbers.{HasEnded, calls_ended, storing_of, stripes_asked}
use Rattle.ecp_entry.specs.declared.act.Act.{Act}
use Rattle.ecp_entry.specs.declared.act.Act.TheVariants.{Stored}
use Rattle.ecp_entry.specs.declared.deed.Deed.{Deed}
use Rattle.ecp_entry.specs.declared.entry.Entry.{Entry}
use Rattle.ecp_shape.specs.declared.limits.TheConstants.{MAX_SESSIONS}
use Rattle.ecp_shape.specs.declared.shape.Shape.{Shape}
use Rattle.ecp_history.specs.Calls.{FitsCaller}
use Rattle.ecp_history.specs.Files.{StripesBelow, StripesBounded, numbers_of}
use Rattle.ecp_history.specs.Legal.{IsLegal}
use Rattle.ecp_history.specs.Spans.{ends, losses_in}
use Rattle.ecp_sequencer.specs.Passes.{PassState, first_pass}
use Rattle.ecp_service.specs.Asked.{calls_in}
use Rattle.ecp_service.specs.Serves.{puts_of}
use Rattle.ecp_service.proofs.served.Lists.{any_found, filter_order, got}
use Rattle.ecp_service.proofs.served.Callers.{is_by}
use Rattle.ecp_service.proofs.served.Entries.{HasCaller, HasCallers, HasEntries, IsTold, has_entries, its_end, told_at}
use Rattle.ecp_service.proofs.served.Inputs.{IsCall, IsInput}
use Rattle.ecp_service.proofs.served.Groups.{just_ends}
use Rattle.ecp_service.proofs.served.Kept.{IsGrouped, StoodAt, of_group, stood, sum_of_groups}
use Rattle.ecp_service.proofs.served.Parts.{ended}
use Rattle.ecp_service.proofs.served.Passes.{Went, storings, storings_are}

-- the stripes of a file lie below a higher number too
below_more : (m more : ℕ) (act : Act) → m ≤ more → StripesBelow m act → StripesBelow more act
below_more m more (Stored first stripes up) le below = le_trans below le
below_more m more _ le below = tt

sum_of_map : {X Y : Type 0} (f : Y → ℕ) (g : X → Y) (xs : List X) → sum_by f (map g xs) ≡ sum_by (λ x. f (g x)) xs
sum_of_map f g [] = refl
sum_of_map {X} {Y} f g (x ∷ xs) =
    sum_by-cons f (g x) (map g xs) ∙ ap (λ (n : ℕ). f (g x) + n) (sum_of_map f g xs) ∙ sym (sum_by-cons (λ (y : X). f (g y)) x xs)

-- the number of a session
abbrev number_of : SessionCalls → ℕ
number_of s = s.number

-- the caller of an entry
abbrev caller_of : Entry → ℕ
caller_of e = e.line.caller

no_stripes : (shape : Shape) (d : Option Deed) (caller : ℕ) → FitsCaller caller d → MAX_SESSIONS ≤ caller → stripes_asked shape d ≡ 0
no_stripes shape None caller fits node = refl
no_stripes shape (Some d) caller fits node = absurd (omega (arith, fits, node))

module _ (shape : Shape) (content : Content) (answers : ℕ → List Answer) (history : List Entry) (legal : IsLegal shape true history) (input : IsInput content)
    (all : HasCallers content answers history) (each : (i : ℕ) (s : SessionCalls) → slice_get content.sessions i ≡ Some s → HasCaller content answers history s.number) where
  -- how many numbers the call of an entry may use up
  abbrev used : Entry → ℕ
  used e = numbers_of history (storing_of shape e)

  -- the entries that end calls
  abbrev last_ones : List Entry
  last_ones = filter ended history

  grouped : (i : ℕ) (e : Entry) → slice_get last_ones i ≡ Some e → IsGrouped used caller_of number_of content.sessions e
  grouped i e kept =
      let place : StoodAt ended history i e = stood ended history i e kept in
      elim (cases_lt e.line.caller MAX_SESSIONS) [
        | inl session ↦
            let told : IsTold content answers history e = told_at content answers history place.at e (all place.at e place.here session) place.here in
            let call : IsCall content e.line.caller told.planned = input.calls e.line.caller e.line.call told.planned told.asked in
            inr (call.place, call.owner, call.listed, sym call.its)
        | inr node ↦
            inl (ap (λ (n : ℕ). n * (losses_in history e.line.caller e.line.call + 1)) (no_stripes shape e.deed e.line.caller (legal place.at e place.here).agrees.caller node)
            ∙ zero-mul (losses_in history e.line.caller e.line.call + 1))
      ]

  -- those of a session end its calls
  of_session : (i : ℕ) (s : SessionCalls) → slice_get content.sessions i ≡ Some s → of_group used caller_of number_of last_ones s ≡ sum_by (numbers_of history) (storings shape s.number 0 s.calls)
  of_session i s here =
      let has : HasCaller content answers history s.number = each i s here in
      sym (sum_of_map (numbers_of history) (storing_of shape) (filter (is_by s.number) last_ones))
      ∙ ap (λ (es : List Entry). sum_by (numbers_of history) (map (storing_of shape) es))
      (filter_order (is_by s.number) ended history ∙ ap (filter ended) has.just ∙ just_ends s.number 0 (calls_in content s.number) (answers s.number) has.groups has.replies)
      ∙ ap (sum_by (numbers_of history)) (storings_are shape s.number 0 (calls_in content s.number) (answers s.number) has.groups has.replies)
      ∙ ap (λ (ps : List Planned). sum_by (numbers_of history) (storings shape s.number 0 ps)) (input.sessions i s here).calls

  of_sessions : (ss : List SessionCalls) → ((i : ℕ) (s : SessionCalls) → slice_get ss i ≡ Some s → of_group used caller_of number_of last_ones s ≡ sum_by (numbers_of history) (storings shape s.number 0 s.calls))
      → sum_by (of_group used caller_of number_of last_ones) ss ≡ sum_by (numbers_of history) (flat_map (λ s. storings shape s.number 0 s.calls) ss)
  of_sessions [] same = refl
  of_sessions (s ∷ ss) same =
      sum_by-cons (of_group used caller_of number_of last_ones) s ss
      ∙ ap (λ (n : ℕ). n + sum_by (of_group used caller_of number_of last_ones) ss) (same zero s refl)
      ∙ ap (λ (n : ℕ). sum_by (numbers_of history) (storings shape s.number 0 s.calls) + n) (of_sessions ss (λ i t here. same (suc i) t here))
      ∙ sym (sum_by-append (numbers_of history) (storings shape s.number 0 s.calls) (flat_map (λ t. storings shape t.number 0 t.calls) ss))

  within_puts : sum_by (numbers_of history) (calls_ended shape history) ≤ sum_by (numbers_of history) (puts_of shape content)
  within_puts =
      let ended_is : sum_by (numbers_of history) (calls_ended shape history) ≡ sum_by used last_ones = sum_of_map (numbers_of history) (storing_of shape) last_ones in
      let spread : sum_by used last_ones ≤ sum_by (of_group used caller_of number_of last_ones) content.sessions = sum_of_groups used caller_of number_of last_ones content.sessions grouped in
      let whole : sum_by (of_group used caller_of number_of last_ones) content.sessions ≡ sum_by (numbers_of history) (puts_of shape content) =
      of_sessions content.sessions of_session in
      between (sum_by (numbers_of history) (calls_ended shape history)) (sum_by used last_ones)
      (sum_by (of_group used caller_of number_of last_ones) content.sessions) (sum_by (numbers_of history) (puts_of shape content)) ended_is spread whole
    where
      between : (a b d e : ℕ) → a ≡ b → b ≤ d → d ≡ e → a ≤ e
      between a b d e p q r = omega (arith, p, q, r)

  -- stripe numbers are used up by the puts of the input alone
  pub stripes_bounded : StripesBounded (calls_ended shape history) history → StripesBounded (puts_of shape content) history
  stripes_bounded bounded e there =
      below_more (sum_by (numbers_of history) (calls_ended shape history)) (sum_by (numbers_of history) (puts_of shape content)) e.line.act within_puts (bounded e there)

-- ---- each call that a pass counted has its end

pub has_ended : (fences : ℕ → ℕ) (log : Log) (spares c : ℕ) (content : Content) (answers : ℕ → List Answer) (history : List Entry) (w : PassState) → IsInput content
    → Went fences log (first_pass spares c) (calls_in content c) (answers c) w → (c < MAX_SESSIONS → HasCaller content answers history c) → HasEnded spares c history w
has_ended fences log spares c content answers history w input went has = record {
  own = went.hand;
  ended = λ n lt.
      let within : n < length (calls_in content c) = subst (λ (k : ℕ). n < k) (went.count ∙ zero-add (length (calls_in content c))) lt in
      let one : (p : Planned) × (slice_get (calls_in content c) n ≡ Some p) = got (calls_in content c) n within in
      let session : c < MAX_SESSIONS = (input.calls c n one.0 one.1).session in
      let its : HasEntries content answers history c n one.0 = has_entries content answers history c n one.0 (has session) one.1 in
      any_found (ends c n) history its.group.last (its_end content answers history c n one.0 its);
}
