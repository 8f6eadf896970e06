-- An accepted input has few calls.
use Rattle.std.proofs.Common.{◌≡◌, ℕ, zero, suc, ◌+◌, ◌*◌, ◌≤◌, cond, Bool, true, false, List, [], ◌∷◌, length, map, refl, sym, ap, subst, ◌∙◌, arith}
use Rattle.std.specs.Prelude.{filter, sum_by, ◌==◌}
use Rattle.std.specs.List.{range_with_len}
use Rattle.std.proofs.lemmas.List.Sums.{sum_by-cons}
use Rattle.ecp_shape.specs.declared.limits.TheConstants.{MAX_LINES, MAX_SESSIONS}
use Rattle.ecp_command.specs.declared.input.form.Form.{Form}
use Rattle.ecp_command.specs.declared.input.form.Form.TheVariants.{Session, Barrier, Call}
use Rattle.ecp_command.specs.declared.input.planned.Planned.{Planned}
use Rattle.ecp_command.specs.declared.input.session.Session as the_session
use Rattle.ecp_command.specs.Input.Accepted.{Content, IsAccepted, session_view}
use Rattle.ecp_command.specs.Input.Calls.{SessionCalls, calls_from, calls_of, session_of, has_calls, call_count}

-- no more calls than lines
calls_few : (s p : ℕ) (fs : List Form) → length (calls_from s p fs) ≤ length fs
calls_few s p [] = omega arith
calls_few s p (Session n ∷ fs) = omega (arith, calls_few n p fs)
calls_few s p (Barrier ∷ fs) = omega (arith, calls_few s (p + 1) fs)
calls_few s p (Call call ∷ fs) = omega (arith, calls_few s p fs)

-- of calls no more are one session's
its_few : (n : ℕ) (cs : List (ℕ × Planned)) → length (map (λ c. c.1) (filter (λ c. c.0 == n) cs)) ≤ length cs
its_few n [] = omega arith
its_few n (c ∷ cs) = either (c.0 == n) (its_few n cs) where
  either : (b : Bool) → length (map (λ (x : ℕ × Planned). x.1) (filter (λ x. x.0 == n) cs)) ≤ length cs
      → length (map (λ (x : ℕ × Planned). x.1) (cond b (c ∷ filter (λ x. x.0 == n) cs) (filter (λ x. x.0 == n) cs))) ≤ suc (length cs)
  either true few = omega (arith, few)
  either false few = omega (arith, few)

-- so many sessions, each of few calls, have few calls together
together : (f : ℕ → SessionCalls) (most : ℕ) → ((n : ℕ) → length (f n).calls ≤ most) → (a m : ℕ) → call_count (filter has_calls (map f (range_with_len a m))) ≤ m * most
together f most few a zero = omega arith
together f most few a (suc m) = either (has_calls (f a)) (together f most few (a + 1) m) where
  later : List SessionCalls
  later = filter has_calls (map f (range_with_len (a + 1) m))

  either : (b : Bool) → call_count later ≤ m * most → call_count (cond b (f a ∷ later) later) ≤ suc m * most
  either true le = grind (arith, le, few a, sum_by-cons (λ (s : SessionCalls). length s.calls) (f a) later)
  either false le = grind (arith, le)

pub few_calls : (input : List ℕ) (content : Content) → IsAccepted input content → call_count content.sessions ≤ MAX_SESSIONS * MAX_LINES
few_calls input content h =
    let each : (n : ℕ) → length (session_of (calls_of h.forms) n).calls ≤ MAX_LINES = λ n. omega (arith, its_few n (calls_of h.forms), calls_few 0 0 h.forms, h.has_forms.within.lines) in
    subst (λ (ss : List SessionCalls). call_count ss ≤ MAX_SESSIONS * MAX_LINES) (sym h.sessions) (together (session_of (calls_of h.forms)) MAX_LINES each 0 MAX_SESSIONS)

-- the calls of sessions as they lie in memory
pub count_viewed : (ss : List the_session.Session) → sum_by (λ s. length s.calls.items) ss ≡ call_count (map session_view ss)
count_viewed [] = refl
count_viewed (s ∷ ss) =
    sum_by-cons (λ (x : the_session.Session). length x.calls.items) s ss ∙ ap (λ (n : ℕ). length s.calls.items + n) (count_viewed ss) ∙ sym (sum_by-cons (λ (x : SessionCalls). length x.calls) (session_view s) (map session_view ss))
