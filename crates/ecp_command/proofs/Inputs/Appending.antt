-- The session and the phase behind some lines, and their calls with one line more.
use Rattle.std.proofs.Common.{◌≡◌, ℕ, ◌+◌, ◌≤◌, cond, List, [], ◌∷◌, ◌++◌, length, refl, ap, ◌∙◌, arith}
use Rattle.std.specs.Prelude.{count_by}
use Rattle.std.proofs.lemmas.List.Sums.{sum_by-cons}
use Rattle.ecp_command.specs.declared.input.call.Call.{Call as TheCall}
use Rattle.ecp_command.specs.declared.input.form.Form.{Form}
use Rattle.ecp_command.specs.declared.input.form.Form.TheVariants.{Session, Barrier, Call}
use Rattle.ecp_command.specs.declared.input.planned.Planned.{Planned}
use Rattle.ecp_command.specs.Input.Calls.{planned, calls_from, is_barrier}

-- the session that the lines after these belong to, where those before belong to this one
abbrev pub session_after : ℕ → List Form → ℕ
session_after session [] = session
session_after session (Session number ∷ rest) = session_after number rest
session_after session (Barrier ∷ rest) = session_after session rest
session_after session (Call call ∷ rest) = session_after session rest

-- the phase that the lines after these are in, where those before are in this one
abbrev pub phase_after : ℕ → List Form → ℕ
phase_after phase [] = phase
phase_after phase (Session number ∷ rest) = phase_after phase rest
phase_after phase (Barrier ∷ rest) = phase_after (phase + 1) rest
phase_after phase (Call call ∷ rest) = phase_after phase rest

pub after_session : (s n : ℕ) (fs : List Form) → session_after s (fs ++ Session n ∷ []) ≡ n
after_session s n [] = refl
after_session s n (Session m ∷ fs) = after_session m n fs
after_session s n (Barrier ∷ fs) = after_session s n fs
after_session s n (Call call ∷ fs) = after_session s n fs

pub after_barrier : (s : ℕ) (fs : List Form) → session_after s (fs ++ Barrier ∷ []) ≡ session_after s fs
after_barrier s [] = refl
after_barrier s (Session m ∷ fs) = after_barrier m fs
after_barrier s (Barrier ∷ fs) = after_barrier s fs
after_barrier s (Call call ∷ fs) = after_barrier s fs

pub after_call : (s : ℕ) (call : TheCall) (fs : List Form) → session_after s (fs ++ Call call ∷ []) ≡ session_after s fs
after_call s call [] = refl
after_call s call (Session m ∷ fs) = after_call m call fs
after_call s call (Barrier ∷ fs) = after_call s call fs
after_call s call (Call other ∷ fs) = after_call s call fs

pub phase_session : (p n : ℕ) (fs : List Form) → phase_after p (fs ++ Session n ∷ []) ≡ phase_after p fs
phase_session p n [] = refl
phase_session p n (Session m ∷ fs) = phase_session p n fs
phase_session p n (Barrier ∷ fs) = phase_session (p + 1) n fs
phase_session p n (Call call ∷ fs) = phase_session p n fs

pub phase_barrier : (p : ℕ) (fs : List Form) → phase_after p (fs ++ Barrier ∷ []) ≡ phase_after p fs + 1
phase_barrier p [] = refl
phase_barrier p (Session m ∷ fs) = phase_barrier p fs
phase_barrier p (Barrier ∷ fs) = phase_barrier (p + 1) fs
phase_barrier p (Call call ∷ fs) = phase_barrier p fs

pub phase_call : (p : ℕ) (call : TheCall) (fs : List Form) → phase_after p (fs ++ Call call ∷ []) ≡ phase_after p fs
phase_call p call [] = refl
phase_call p call (Session m ∷ fs) = phase_call p call fs
phase_call p call (Barrier ∷ fs) = phase_call (p + 1) call fs
phase_call p call (Call other ∷ fs) = phase_call p call fs

pub calls_session : (s p n : ℕ) (fs : List Form) → calls_from s p (fs ++ Session n ∷ []) ≡ calls_from s p fs
calls_session s p n [] = refl
calls_session s p n (Session m ∷ fs) = calls_session m p n fs
calls_session s p n (Barrier ∷ fs) = calls_session s (p + 1) n fs
calls_session s p n (Call call ∷ fs) = ap (λ (cs : List (ℕ × Planned)). (s, planned p call) ∷ cs) (calls_session s p n fs)

pub calls_barrier : (s p : ℕ) (fs : List Form) → calls_from s p (fs ++ Barrier ∷ []) ≡ calls_from s p fs
calls_barrier s p [] = refl
calls_barrier s p (Session m ∷ fs) = calls_barrier m p fs
calls_barrier s p (Barrier ∷ fs) = calls_barrier s (p + 1) fs
calls_barrier s p (Call call ∷ fs) = ap (λ (cs : List (ℕ × Planned)). (s, planned p call) ∷ cs) (calls_barrier s p fs)

pub calls_call : (s p : ℕ) (call : TheCall) (fs : List Form) → calls_from s p (fs ++ Call call ∷ []) ≡ calls_from s p fs ++ (session_after s fs, planned (phase_after p fs) call) ∷ []
calls_call s p call [] = refl
calls_call s p call (Session m ∷ fs) = calls_call m p call fs
calls_call s p call (Barrier ∷ fs) = calls_call s (p + 1) call fs
calls_call s p call (Call other ∷ fs) = ap (λ (cs : List (ℕ × Planned)). (s, planned p other) ∷ cs) (calls_call s p call fs)

-- each barrier begins one phase more
pub barriers_more : (fs : List Form) → count_by is_barrier (Barrier ∷ fs) ≡ 1 + count_by is_barrier fs
barriers_more fs = sum_by-cons (λ (f : Form). cond (is_barrier f) 1 0) Barrier fs

pub phases_count : (p : ℕ) (fs : List Form) → phase_after p fs ≡ p + count_by is_barrier fs
phases_count p [] = omega arith
phases_count p (Session m ∷ fs) = phases_count p fs
phases_count p (Barrier ∷ fs) = phases_count (p + 1) fs ∙ omega (arith, barriers_more fs)
phases_count p (Call call ∷ fs) = phases_count p fs

-- there are no more phases than lines
pub phases_few : (p : ℕ) (fs : List Form) → phase_after p fs ≤ p + length fs
phases_few p [] = omega arith
phases_few p (Session m ∷ fs) = omega (arith, phases_few p fs)
phases_few p (Barrier ∷ fs) = omega (arith, phases_few (p + 1) fs)
phases_few p (Call call ∷ fs) = omega (arith, phases_few p fs)
