-- The sessions of an accepted input: their calls are served, and they stand in rising order.
use Rattle.std.proofs.Common.{◌≡◌, ℕ, zero, suc, ◌+◌, ◌<◌, ◌≤◌, Bool, true, false, cond, List, [], ◌∷◌, Some, map, refl, sym, ◌∙◌, ap, subst, arith, le_refl}
use Rattle.std.specs.Prelude.{filter, count_by, slice_get, ◌==◌}
use Rattle.std.specs.List.{AllByRecursion, range_with_len}
use Rattle.std.proofs.lemmas.List.Elements.{All-from_recursion}
use Rattle.std.proofs.lemmas.Option.{none-some, same_Some}
use Rattle.std.proofs.lemmas.Str.Ascii.{IsAscii-from_all}
use Rattle.ecp_shape.specs.declared.limits.TheConstants.{MAX_PUT_BYTES, MAX_SESSIONS}
use Rattle.ecp_command.specs.Input.Accepted.{Content, IsAccepted}
use Rattle.ecp_command.specs.Input.Calls.{SessionCalls, planned, calls_from, calls_of, session_of, has_calls, is_barrier, phases_of, sessions_of}
use Rattle.ecp_command.specs.Input.Forms.{is_name_byte, IsName, SpellsCall, SpellEach}
use Rattle.ecp_command.specs.Input.Limits as limits
use Rattle.ecp_command.specs.declared.input.call.Call as the_call
use Rattle.ecp_command.specs.declared.input.call.Call.TheVariants.{Put, Read, Sum, Cat, Lose, Join, Rebuild, Stat}
use Rattle.ecp_command.specs.declared.input.form.Form.{Form}
use Rattle.ecp_command.specs.declared.input.form.Form.TheVariants.{Session, Barrier, Call}
use Rattle.ecp_command.specs.declared.input.planned.Planned.{Planned}
use Rattle.ecp_command.proofs.Inputs.Appending.{barriers_more}
use Rattle.ecp_service.specs.Servable.{IsShortName, IsServable, EachServable, AreRising, IsServableSession, AreServable}

-- ---- the sessions that are kept

-- of the numbers from a on, those whose sessions have calls
abbrev kept_from : (ℕ → SessionCalls) → ℕ → ℕ → List SessionCalls
kept_from f a m = filter has_calls (map f (range_with_len a m))

-- a session that is kept is that of one of the numbers
pub record IsKept (f : ℕ → SessionCalls) (a m : ℕ) (s : SessionCalls) : Type 0 where
  pub number : ℕ
  pub from : a ≤ number
  pub below : number < a + m
  pub is : s ≡ f number

kept_later : (f : ℕ → SessionCalls) (a m : ℕ) (s : SessionCalls) → IsKept f (a + 1) m s → IsKept f a (suc m) s
kept_later f a m s k = record { number = k.number; from = omega (arith, k.from); below = omega (arith, k.below); is = k.is }

is_kept : (f : ℕ → SessionCalls) (a m i : ℕ) (s : SessionCalls) → slice_get (kept_from f a m) i ≡ Some s → IsKept f a m s
is_kept f a zero i s here = absurd (none-some s here)
is_kept f a (suc m) i s here = either (has_calls (f a)) i here (λ k there. kept_later f a m s (is_kept f (a + 1) m k s there)) where
  either : (b : Bool) (k : ℕ) → slice_get (cond b (f a ∷ kept_from f (a + 1) m) (kept_from f (a + 1) m)) k ≡ Some s → ((l : ℕ) → slice_get (kept_from f (a + 1) m) l ≡ Some s → IsKept f a (suc m) s)
      → IsKept f a (suc m) s
  either true zero there later = record { number = a; from = le_refl a; below = omega arith; is = sym (same_Some (f a) s there) }
  either true (suc k) there later = later k there
  either false k there later = later k there

-- sessions with these numbers are kept in their order
kept_apart : (f : ℕ → SessionCalls) → ((n : ℕ) → (f n).number ≡ n) → (a m i j : ℕ) (s t : SessionCalls) → i < j → slice_get (kept_from f a m) i ≡ Some s → slice_get (kept_from f a m) j ≡ Some t → s.number < t.number
kept_apart f numbers a zero i j s t lt first second = absurd (none-some s first)
kept_apart f numbers a (suc m) i j s t lt first second = either (has_calls (f a)) i j lt first second (λ k l. kept_apart f numbers (a + 1) m k l s t) where
  later : List SessionCalls
  later = kept_from f (a + 1) m

  either : (b : Bool) (k l : ℕ) → k < l → slice_get (cond b (f a ∷ later) later) k ≡ Some s → slice_get (cond b (f a ∷ later) later) l ≡ Some t
      → ((k l : ℕ) → k < l → slice_get later k ≡ Some s → slice_get later l ≡ Some t → s.number < t.number) → s.number < t.number
  either true zero zero less here there more = absurd (omega (arith, less))
  either true zero (suc l) less here there more =
      let behind = is_kept f (a + 1) m l t there in
      let s_is : s.number ≡ a = ap (λ (x : SessionCalls). x.number) (sym (same_Some (f a) s here)) ∙ numbers a in
      let t_is : t.number ≡ behind.number = ap (λ (x : SessionCalls). x.number) behind.is ∙ numbers behind.number in
      omega (arith, s_is, t_is, behind.from)
  either true (suc k) zero less here there more = absurd (omega (arith, less))
  either true (suc k) (suc l) less here there more = more k l (omega (arith, less)) here there
  either false k l less here there more = more k l less here there

-- ---- the calls of one session

-- the calls of the session of this number among these
abbrev its : ℕ → List (ℕ × Planned) → List Planned
its number cs = map (λ c. c.1) (filter (λ c. c.0 == number) cs)

-- a name is short and ASCII
name_byte_ascii : (b : ℕ) → is_name_byte b ≡ true → b < 128
name_byte_ascii b is = grind arith

short_name : (name : List ℕ) → IsName name → IsShortName name
short_name name is = record {
  some = is.some;
  short = is.short;
  ascii = IsAscii-from_all name (λ b k within. name_byte_ascii _ (is.bytes b k within));
}

-- lines spell calls that are served
call_servable : (line : List ℕ) (call : the_call.Call) → SpellsCall line call → limits.put_len (Call call) ≤ MAX_PUT_BYTES → IsServable call
call_servable line (Put name bytes) h small = (short_name name h.0, small)
call_servable line (Read name index) h small = short_name name h.0
call_servable line (Lose node) h small = tt
call_servable line (Sum name index) h small = short_name name h.0
call_servable line (Cat name) h small = short_name name h.0
call_servable line (Join node) h small = tt
call_servable line (Rebuild from to) h small = h
call_servable line (Stat name) h small = short_name name h.0

each_servable : (number session phase : ℕ) (script : List (ℕ × List ℕ)) (forms : List Form) → SpellEach script forms → AllByRecursion (λ f. limits.put_len f ≤ MAX_PUT_BYTES) forms
    → EachServable (its number (calls_from session phase forms))
each_servable number session phase [] [] h small = tt
each_servable number session phase [] (f ∷ fs) h small = absurd h
each_servable number session phase (line ∷ rest) [] h small = absurd h
each_servable number session phase (line ∷ rest) (Session n ∷ fs) h small = each_servable number n phase rest fs h.1 small.1
each_servable number session phase (line ∷ rest) (Barrier ∷ fs) h small = each_servable number session (phase + 1) rest fs h.1 small.1
each_servable number session phase (line ∷ rest) (Call call ∷ fs) h small = either (session == number) (each_servable number session phase rest fs h.1 small.1) where
  later : List (ℕ × Planned)
  later = filter (λ c. c.0 == number) (calls_from session phase fs)

  either : (b : Bool) → EachServable (map (λ c. c.1) later) → EachServable (map (λ c. c.1) (cond b ((session, planned phase call) ∷ later) later))
  either true each = (call_servable line.1 call h.0 small.0, each)
  either false each = each

-- calls that rise from a later phase on
rising_later : (a b : ℕ) (calls : List Planned) → a ≤ b → AreRising b calls → AreRising a calls
rising_later a b [] le h = tt
rising_later a b (p ∷ calls) le h = (omega (arith, le, h.0), h.1)

calls_rise : (number session phase : ℕ) (forms : List Form) → AreRising phase (its number (calls_from session phase forms))
calls_rise number session phase [] = tt
calls_rise number session phase (Session n ∷ fs) = calls_rise number n phase fs
calls_rise number session phase (Barrier ∷ fs) = rising_later phase (phase + 1) (its number (calls_from session (phase + 1) fs)) (omega arith) (calls_rise number session (phase + 1) fs)
calls_rise number session phase (Call call ∷ fs) = either (session == number) (calls_rise number session phase fs) where
  later : List (ℕ × Planned)
  later = filter (λ c. c.0 == number) (calls_from session phase fs)

  either : (b : Bool) → AreRising phase (map (λ c. c.1) later) → AreRising phase (map (λ c. c.1) (cond b ((session, planned phase call) ∷ later) later))
  either true rise = (le_refl phase, rise)
  either false rise = rise

-- each call is in a phase that there is
calls_within : (number session phase phases : ℕ) (forms : List Form) → phase + count_by is_barrier forms < phases → AllByRecursion (λ p. p.phase < phases) (its number (calls_from session phase forms))
calls_within number session phase phases [] below = tt
calls_within number session phase phases (Session n ∷ fs) below = calls_within number n phase phases fs below
calls_within number session phase phases (Barrier ∷ fs) below = calls_within number session (phase + 1) phases fs (omega (arith, below, barriers_more fs))
calls_within number session phase phases (Call call ∷ fs) below = either (session == number) (calls_within number session phase phases fs below) where
  later : List (ℕ × Planned)
  later = filter (λ c. c.0 == number) (calls_from session phase fs)

  this : phase < phases
  this = omega (arith, below)

  either : (b : Bool) → AllByRecursion (λ p. p.phase < phases) (map (λ c. c.1) later) → AllByRecursion (λ p. p.phase < phases) (map (λ c. c.1) (cond b ((session, planned phase call) ∷ later) later))
  either true within = (this, within)
  either false within = within

-- ---- the sessions of an input

session_servable : (script : List (ℕ × List ℕ)) (forms : List Form) (s : SessionCalls) → SpellEach script forms → AllByRecursion (λ f. limits.put_len f ≤ MAX_PUT_BYTES) forms
    → IsKept (session_of (calls_of forms)) 0 MAX_SESSIONS s → IsServableSession (phases_of forms) s
session_servable script forms s spelled small kept = subst (IsServableSession (phases_of forms)) (sym kept.is) (record {
  session = kept.below;
  calls = each_servable kept.number 0 0 script forms spelled small;
  rising = calls_rise kept.number 0 0 forms;
  within = All-from_recursion (λ (p : Planned). p.phase < phases_of forms) (its kept.number (calls_of forms)) (calls_within kept.number 0 0 (phases_of forms) forms (omega arith));
})

-- the sessions of an accepted input can be served
pub accepted_sessions : (input : List ℕ) (content : Content) → IsAccepted input content → AreServable content.phases content.sessions
accepted_sessions input content a = record {
  each = λ i s here.
      subst (λ (n : ℕ). IsServableSession n s) (sym a.phases)
      (session_servable a.script a.forms s a.has_forms.spelled a.has_forms.within.each_bytes (is_kept (session_of (calls_of a.forms)) 0 MAX_SESSIONS i s (at i s here)));
  apart = λ i j s t lt first second. kept_apart (session_of (calls_of a.forms)) (λ n. refl) 0 MAX_SESSIONS i j s t lt (at i s first) (at j t second);
} where
  at : (i : ℕ) (s : SessionCalls) → slice_get content.sessions i ≡ Some s → slice_get (sessions_of a.forms) i ≡ Some s
  at i s here = ap (λ (ss : List SessionCalls). slice_get ss i) (sym a.sessions) ∙ here
