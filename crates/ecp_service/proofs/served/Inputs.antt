-- What is known of the calls of an accepted input, whichever session they are of.
use Rattle.std.proofs.Common.{◌≡◌, ℕ, ◌<◌, List, Option, Some, None, ◌≤◌, refl, arith, sym, ◌∙◌, ap, subst, inl, inr}
use Rattle.std.specs.Prelude.{slice_get, slice_index_or}
use Rattle.std.proofs.lemmas.Option.{none-some, slice_get_within, get_or_from_slice_get}
use Rattle.ecp_command.specs.Input.Accepted.{Content, IsAccepted}
use Rattle.ecp_command.specs.Input.Calls.{SessionCalls}
use Rattle.ecp_command.specs.declared.input.planned.Planned.{Planned}
use Rattle.ecp_shape.specs.declared.limits.TheConstants.{MAX_SESSIONS}
use Rattle.ecp_service.specs.Asked.{calls_in, call_at}
use Rattle.ecp_service.specs.Servable.{AreRising, AreServable, IsServable}
use Rattle.ecp_service.proofs.Inputs.{accepted_sessions}
use Rattle.ecp_service.proofs.ServedLaws.{servable_at}
use Rattle.ecp_service.proofs.Sessions.{IsFound, found, its_calls}

-- a call of an input: it is of one of its sessions, and a put, a read or a loss, in one of the phases
pub record IsCall (content : Content) (c : ℕ) (p : Planned) : Type 0 where
  pub session : c < MAX_SESSIONS
  pub plain : IsServable p.call
  pub phase : p.phase < content.phases
  pub owner : SessionCalls
  pub place : ℕ
  pub listed : slice_get content.sessions place ≡ Some owner
  pub its : owner.number ≡ c

-- a session of an input: its number has its calls, in the order of their phases
pub record IsSession (content : Content) (s : SessionCalls) : Type 0 where
  pub session : s.number < MAX_SESSIONS
  pub calls : calls_in content s.number ≡ s.calls
  pub rising : AreRising 0 s.calls

-- so are all calls and all sessions of an input
pub record IsInput (content : Content) : Type 0 where
  pub calls : (c n : ℕ) (p : Planned) → call_at content c n ≡ Some p → IsCall content c p
  pub sessions : (i : ℕ) (s : SessionCalls) → slice_get content.sessions i ≡ Some s → IsSession content s

call_of : (content : Content) (c n : ℕ) (p : Planned) → AreServable content.phases content.sessions → call_at content c n ≡ Some p → IsFound content.sessions c (calls_in content c) → IsCall content c p
call_of content c n p servable asked f =
    let served = servable.each f.place f.owner f.listed in
    let there : slice_get f.owner.calls n ≡ Some p = ap (λ (ps : List Planned). slice_get ps n) (sym f.calls_are) ∙ asked in
    let read : slice_index_or f.owner.calls n p ≡ p = get_or_from_slice_get f.owner.calls n p p there in
    record {
      session = subst (λ (k : ℕ). k < MAX_SESSIONS) f.its served.session;
      plain = servable_at f.owner.calls n p served.calls there;
      phase = subst (λ (q : Planned). q.phase < content.phases) read (served.within n p (slice_get_within f.owner.calls n p there));
      owner = f.owner;
      place = f.place;
      listed = f.listed;
      its = f.its;
    }

of_servable : (content : Content) → AreServable content.phases content.sessions → IsInput content
of_servable content servable = record {
  calls = λ c n p asked. elim (found content c) [
    | inl f ↦ call_of content c n p servable asked f
    | inr none ↦ absurd (none-some p (ap (λ (ps : List Planned). slice_get ps n) (sym none) ∙ asked))
  ];
  sessions = λ i s here.
      let served = servable.each i s here in
      record { session = served.session; calls = its_calls content servable i s here; rising = served.rising };
}

pub accepted_input : (bytes : List ℕ) (content : Content) → IsAccepted bytes content → IsInput content
accepted_input bytes content accepted = of_servable content (accepted_sessions bytes content accepted)

-- a caller's calls stand in the order of their phases, also where it has none
pub calls_rising : (content : Content) → IsInput content → (c : ℕ) → AreRising 0 (calls_in content c)
calls_rising content input c = elim (found content c) [
  | inl f ↦ subst (AreRising 0) (sym f.calls_are) (input.sessions f.place f.owner f.listed).rising
  | inr none ↦ subst (AreRising 0) (sym none) tt
]

-- no session has a number past the last
pub no_calls : (content : Content) → IsInput content → (caller call : ℕ) → MAX_SESSIONS ≤ caller → call_at content caller call ≡ None
no_calls content input caller call past = either (call_at content caller call) refl where
  either : (o : Option Planned) → call_at content caller call ≡ o → o ≡ None
  either None is = refl
  either (Some p) is = absurd (let below : caller < MAX_SESSIONS = (input.calls caller call p is).session in omega (arith, below, past))
