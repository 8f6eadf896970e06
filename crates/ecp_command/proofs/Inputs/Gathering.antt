-- Gathering the calls of a script by their sessions.
use Rattle.std.proofs.Common.{◌≡◌, ℕ, zero, suc, ◌+◌, ◌^◌, ◌<◌, ◌≤◌, ◌==◌, Bool, true, false, cond, not, List, [], ◌∷◌, ◌++◌, length, vec_len, get_or, map, refl, sym, ap, subst, ◌∙◌, arith}
use Rattle.std.specs.Prelude.{count_by}
use Rattle.std.specs.List.{All, AllByRecursion, filter, range_with_len}
use Rattle.std.proofs.lemmas.List.{length-map, map-append, map-id}
use Rattle.std.proofs.lemmas.List.Elements.{All-from_recursion}
use Rattle.ecp_shape.specs.declared.limits.TheConstants.{MAX_LINES, MAX_SESSIONS}
use Rattle.ecp_command.specs.declared.input.call.Call.{Call as TheCall}
use Rattle.ecp_command.specs.declared.input.form.Form.{Form}
use Rattle.ecp_command.specs.declared.input.form.Form.TheVariants as form
use Rattle.ecp_command.specs.declared.input.numbered.Numbered.{Numbered}
use Rattle.ecp_command.specs.declared.input.session.Session.{Session}
use Rattle.ecp_command.specs.Input.Accepted.{session_view}
use Rattle.ecp_command.specs.Input.Calls.{planned, calls_of, has_calls, is_barrier, session_of, sessions_of, phases_of, SessionCalls}
use Rattle.ecp_command.specs.Input.Forms.{Spells, SpellEach}
use Rattle.ecp_command.specs.Input.Sessions.{IsSession, HaveCalls, GainCall}
use Rattle.ecp_command.specs.Input.Script.{forms_of}
use Rattle.ecp_command.proofs.Inputs.Appending.{session_after, phase_after, after_session, after_barrier, after_call, phase_session, phase_barrier, phase_call, calls_session, calls_barrier, calls_call, phases_count, phases_few}

pub range_more : (a n : ℕ) → range_with_len a (n + 1) ≡ range_with_len a n ++ (a + n) ∷ []
range_more a zero = let e : a ≡ a + 0 = omega arith in ap (λ (x : ℕ). x ∷ []) e
range_more a (suc n) =
    let e : (a + 1) + n ≡ a + suc n = omega arith in
    let s : suc n + 1 ≡ suc (n + 1) = omega arith in
    ap (range_with_len a) s ∙ ap (λ (xs : List ℕ). a ∷ xs) (range_more (a + 1) n ∙ ap (λ (x : ℕ). range_with_len (a + 1) n ++ x ∷ []) e)

-- one more session, with no call
pub one_session : (n : ℕ) (sessions : List Session) (s : Session) → s.number ≡ n → s.calls.items ≡ [] → HaveCalls n [] sessions → HaveCalls (n + 1) [] (sessions ++ s ∷ [])
one_session n sessions s number none have =
    let view : session_view s ≡ session_of [] n = rw (number, none) refl in
    let range : range_with_len 0 (n + 1) ≡ range_with_len 0 n ++ n ∷ [] = range_more 0 n ∙ ap (λ (x : ℕ). range_with_len 0 n ++ x ∷ []) (omega arith) in
    map-append session_view sessions (s ∷ []) ∙ ap (λ (xs : List SessionCalls). xs ++ session_view s ∷ []) have ∙ ap (λ (x : SessionCalls). map (session_of []) (range_with_len 0 n) ++ x ∷ []) view
    ∙ sym (map-append (session_of []) (range_with_len 0 n) (n ∷ [])) ∙ ap (map (session_of [])) (sym range)

-- ---- one more line

forms-push : (ns : List Numbered) (n : Numbered) → forms_of (ns ++ n ∷ []) ≡ forms_of ns ++ n.form ∷ []
forms-push ns n = map-append (λ (x : Numbered). x.form) ns (n ∷ [])

-- the lines yielded were gathered: these are the sessions with their calls, and the session and the phase of the next line
pub record AreGathered (ns : List Numbered) (sessions : List Session) (session phase : ℕ) : Type 0 where
  pub have : HaveCalls MAX_SESSIONS (calls_of (forms_of ns)) sessions
  pub session_is : session ≡ session_after 0 (forms_of ns)
  pub phase_is : phase ≡ phase_after 0 (forms_of ns)
  pub below : session < MAX_SESSIONS

-- the forms with one more line
forms_with : (ns : List Numbered) (n : Numbered) (f : Form) → n.form ≡ f → forms_of (ns ++ n ∷ []) ≡ forms_of ns ++ f ∷ []
forms_with ns n f e = forms-push ns n ∙ ap (λ (g : Form). forms_of ns ++ g ∷ []) e

pub push_session : (ns : List Numbered) (n : Numbered) (number : ℕ) (sessions : List Session) (session phase : ℕ) → n.form ≡ form.Session number → number < MAX_SESSIONS → AreGathered ns sessions session phase
    → AreGathered (ns ++ n ∷ []) sessions number phase
push_session ns n number sessions session phase e below g =
    let forms = forms_with ns n (form.Session number) e in
    record {
      have = subst (λ cs. HaveCalls MAX_SESSIONS cs sessions) (sym (ap calls_of forms ∙ calls_session 0 0 number (forms_of ns))) g.have;
      session_is = sym (ap (session_after 0) forms ∙ after_session 0 number (forms_of ns));
      phase_is = g.phase_is ∙ sym (ap (phase_after 0) forms ∙ phase_session 0 number (forms_of ns));
      below = below;
    }

pub push_barrier : (ns : List Numbered) (n : Numbered) (sessions : List Session) (session phase : ℕ) → n.form ≡ form.Barrier → AreGathered ns sessions session phase → AreGathered (ns ++ n ∷ []) sessions session (phase + 1)
push_barrier ns n sessions session phase e g =
    let forms = forms_with ns n form.Barrier e in
    record {
      have = subst (λ cs. HaveCalls MAX_SESSIONS cs sessions) (sym (ap calls_of forms ∙ calls_barrier 0 0 (forms_of ns))) g.have;
      session_is = g.session_is ∙ sym (ap (session_after 0) forms ∙ after_barrier 0 (forms_of ns));
      phase_is = ap (λ (p : ℕ). p + 1) g.phase_is ∙ sym (ap (phase_after 0) forms ∙ phase_barrier 0 (forms_of ns));
      below = g.below;
    }

pub push_call : (ns : List Numbered) (n : Numbered) (call given : TheCall) (old new : List Session) (session phase : ℕ) → n.form ≡ form.Call call → given ≡ call → AreGathered ns old session phase
    → GainCall session (planned phase given) old new → AreGathered (ns ++ n ∷ []) new session phase
push_call ns n call given old new session phase e same g gain =
    let forms = forms_with ns n (form.Call call) e in
    let calls : calls_of (forms_of (ns ++ n ∷ [])) ≡ calls_of (forms_of ns) ++ (session, planned phase given) ∷ [] =
    ap calls_of forms ∙ calls_call 0 0 call (forms_of ns)
    ∙ ap (λ (s : ℕ). calls_of (forms_of ns) ++ (s, planned (phase_after 0 (forms_of ns)) call) ∷ []) (sym g.session_is)
    ∙ ap (λ (p : ℕ). calls_of (forms_of ns) ++ (session, planned p call) ∷ []) (sym g.phase_is)
    ∙ ap (λ (c : TheCall). calls_of (forms_of ns) ++ (session, planned phase c) ∷ []) (sym same) in
    record {
      have = subst (λ cs. HaveCalls MAX_SESSIONS cs new) (sym calls) (gain (calls_of (forms_of ns)) g.have);
      session_is = g.session_is ∙ sym (ap (session_after 0) forms ∙ after_call 0 call (forms_of ns));
      phase_is = g.phase_is ∙ sym (ap (phase_after 0) forms ∙ phase_call 0 call (forms_of ns));
      below = g.below;
    }

-- there are no more phases than lines, which are few
pub few_fit : (ns all : List Numbered) (sessions : List Session) (session phase : ℕ) → AreGathered ns sessions session phase → length ns ≤ length all → length all ≤ MAX_LINES → phase + 1 < 2 ^ 32
few_fit ns all sessions session phase g le few = omega (arith, g.phase_is, phases_few 0 (forms_of ns), length-map ns (λ (n : Numbered). n.form), le, few)

pub session_below : (n : Numbered) (number : ℕ) → n.form ≡ form.Session number → IsSession n.form → number < MAX_SESSIONS
session_below n number e h = subst (λ (f : Form). IsSession f) e h

-- ---- the sessions that have a call

abbrev pub is_kept : Session → Bool
is_kept s = not (vec_len s.calls == 0)

kept_front : (b : Bool) (s : Session) (kept : List Session) → map session_view (cond b (s ∷ kept) kept) ≡ cond b (session_view s ∷ map session_view kept) (map session_view kept)
kept_front true s kept = refl
kept_front false s kept = refl

views-filter : (sessions : List Session) → map session_view (filter is_kept sessions) ≡ filter has_calls (map session_view sessions)
views-filter [] = refl
views-filter (s ∷ sessions) =
    let e : has_calls (session_view s) ≡ is_kept s = ap (λ (n : ℕ). not (n == 0)) (sym s.calls.ok.0) in
    rw e (kept_front (is_kept s) s (filter is_kept sessions) ∙ ap (λ (xs : List SessionCalls). cond (is_kept s) (session_view s ∷ xs) xs) (views-filter sessions))

pub gathered : (forms : List Numbered) (sessions kept : List Session) → HaveCalls MAX_SESSIONS (calls_of (forms_of forms)) sessions → kept ≡ filter is_kept sessions → map session_view kept ≡ sessions_of (forms_of forms)
gathered forms sessions kept have e = ap (map session_view) e ∙ views-filter sessions ∙ ap (filter has_calls) have

-- ---- the sessions that lines name

each_session : (ls : List (ℕ × List ℕ)) (ns : List Numbered) → SpellEach ls (forms_of ns) → AllByRecursion (λ n. IsSession n.form) ns
each_session [] [] h = tt
each_session [] (n ∷ ns) h = absurd h
each_session (l ∷ ls) [] h = absurd h
each_session (l ∷ ls) (n ∷ ns) h = (is_session l.1 n.form h.0, each_session ls ns h.1)
  where
    is_session : (line : List ℕ) (f : Form) → Spells line f → IsSession f
    is_session line (form.Session number) h = h.0
    is_session line form.Barrier h = tt
    is_session line (form.Call call) h = tt

pub are_sessions : (ls : List (ℕ × List ℕ)) (ns : List Numbered) → SpellEach ls (forms_of ns) → All (λ n. IsSession n.form) ns
are_sessions ls ns h = All-from_recursion (λ n. IsSession n.form) ns (each_session ls ns h)

-- there are as many lines as forms
pub few_forms : (ns : List Numbered) → length (forms_of ns) ≤ MAX_LINES → length ns ≤ MAX_LINES
few_forms ns few = omega (arith, few, length-map ns (λ (n : Numbered). n.form))

-- ---- what a loop over the lines has yielded

pub is_next : (all yielded : List Numbered) (n : Numbered) → All (λ x. IsSession x.form) all → length yielded < length all → n ≡ get_or all (length yielded) n → IsSession n.form
is_next all yielded n h lt is = subst (λ (x : Numbered). IsSession x.form) (sym is) (h (length yielded) n lt)

pub all_yielded : (all yielded : List Numbered) (sessions kept : List Session) (session phase : ℕ) → map (λ (x : Numbered). x) yielded ≡ all → AreGathered yielded sessions session phase → kept ≡ filter is_kept sessions
    → (map session_view kept ≡ sessions_of (forms_of all)) × (phase + 1 ≡ phases_of (forms_of all))
all_yielded all yielded sessions kept session phase e g k =
    let same : yielded ≡ all = sym (map-id yielded) ∙ e in
    let phase_is : phase ≡ 0 + count_by is_barrier (forms_of all) = g.phase_is ∙ ap (λ (ns : List Numbered). phase_after 0 (forms_of ns)) same ∙ phases_count 0 (forms_of all) in
    (gathered all sessions kept (subst (λ (ns : List Numbered). HaveCalls MAX_SESSIONS (calls_of (forms_of ns)) sessions) same g.have) k, omega (arith, phase_is))
