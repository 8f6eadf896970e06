-- Which reasons there are to stop, and what must be told.
use Rattle.std.proofs.Common.{◌≡◌, ◌≢◌, ℕ, ◌⊎◌, ◌≤◌, List, length, inl, inr, refl, ◌∙◌, ap, arith, IsTrue}
use Rattle.ecp_shape.specs.declared.limits.TheConstants.{MAX_INPUT}
use Rattle.ecp_store.specs.Faults.{Rose}
use Rattle.ecp_store.specs.declared.source.Source.{Ghosts}
use Rattle.ecp_command.specs.Input.Accepted.{Content, IsAccepted, MayRefuse}
use Rattle.ecp_command.specs.declared.input.refusal.Refusal.{Refusal}
use Rattle.ecp_command.specs.declared.input.refusal.Refusal.TheVariants as refusal
use Rattle.ecp_command.proofs.Inputs.Unique.{not_refused, same_refusal}
use Rattle.ecp_service.specs.Answers.{Wanted, NothingWanted}
use Rattle.ecp_service.specs.Sources.{GaveTooMuch}
use Rattle.ecp_service.specs.Stops.{refusal_code, code_of, StopsRead, IsReason}
use Rattle.ecp_service.specs.declared.stop.Stop.{Stop}
use Rattle.ecp_service.specs.declared.stop.Stop.TheVariants.{Usage, Refused, ReadFault, NoMemory, TooLong}

-- of two cases, the one that is left
pub left_of_two : {A B : Type 0} → A ⊎ B → (B → ⊥) → A
left_of_two (inl a) other = a
left_of_two (inr b) other = absurd (other b)

-- a refusal is the first one, or memory ran out
same_code : (before : List ℕ) (r x : Refusal) → r ≢ refusal.NoMemory → MayRefuse before r → MayRefuse before x → (refusal_code x ≡ refusal_code r) ⊎ (refusal_code x ≡ 7)
same_code before r refusal.NoMemory some is may = inr refl
same_code before r refusal.NotToml some is may = inl (ap refusal_code (same_refusal before refusal.NotToml r (λ e. cc) some may is))
same_code before r refusal.NoRule some is may = inl (ap refusal_code (same_refusal before refusal.NoRule r (λ e. cc) some may is))
same_code before r (refusal.Key setting) some is may = inl (ap refusal_code (same_refusal before (refusal.Key setting) r (λ e. cc) some may is))
same_code before r refusal.UnknownKey some is may = inl (ap refusal_code (same_refusal before refusal.UnknownKey r (λ e. cc) some may is))
same_code before r (refusal.Line number) some is may = inl (ap refusal_code (same_refusal before (refusal.Line number) r (λ e. cc) some may is))

-- nothing but memory refuses an input that is accepted
accepted_refusal : (before : List ℕ) (content : Content) (x : Refusal) → IsAccepted before content → MayRefuse before x → refusal_code x ≡ 7
accepted_refusal before content refusal.NoMemory accepted may = refl
accepted_refusal before content refusal.NotToml accepted may = absurd (not_refused before content refusal.NotToml (λ e. cc) accepted may)
accepted_refusal before content refusal.NoRule accepted may = absurd (not_refused before content refusal.NoRule (λ e. cc) accepted may)
accepted_refusal before content (refusal.Key setting) accepted may = absurd (not_refused before content (refusal.Key setting) (λ e. cc) accepted may)
accepted_refusal before content refusal.UnknownKey accepted may = absurd (not_refused before content refusal.UnknownKey (λ e. cc) accepted may)
accepted_refusal before content (refusal.Line number) accepted may = absurd (not_refused before content (refusal.Line number) (λ e. cc) accepted may)

module _ {R : Type 0} (s : Ghosts R) where
  -- why a read stops is a reason to stop
  pub read_reason : (wanted : Wanted) (old new : R) (stop : Stop) → StopsRead s old new stop → IsReason s wanted old new stop
  read_reason wanted old new Usage why = absurd why
  read_reason wanted old new (Refused r) why = absurd why
  read_reason wanted old new ReadFault why = why
  read_reason wanted old new NoMemory why = why
  read_reason wanted old new TooLong why = why

  not_much : (old new : R) → IsTrue s.tells → length (s.left old) ≤ MAX_INPUT → GaveTooMuch s old new → ⊥
  not_much old new told short much = omega (arith, short, much told)

  -- the status of a run that stops on an input with this first fault
  pub refused_code : (wanted : Wanted) (old new : R) (stop : Stop) (r : Refusal) → (NothingWanted wanted → ⊥) → IsReason s wanted old new stop
      → IsTrue s.tells → length (s.left old) ≤ MAX_INPUT → ¬ Rose (s.faults old) (s.faults new) → r ≢ refusal.NoMemory → MayRefuse (s.left old) r
      → (code_of stop ≡ refusal_code r) ⊎ (code_of stop ≡ 7)
  refused_code wanted old new Usage r some reason told short sound not_memory may = absurd (some reason)
  refused_code wanted old new (Refused x) r some reason told short sound not_memory may = same_code (s.left old) r x not_memory may (reason.1 told).0
  refused_code wanted old new ReadFault r some reason told short sound not_memory may = absurd (sound reason)
  refused_code wanted old new NoMemory r some reason told short sound not_memory may = inr refl
  refused_code wanted old new TooLong r some reason told short sound not_memory may = absurd (not_much old new told short reason)

  -- nothing but memory stops a run whose input is accepted
  pub accepted_code : (wanted : Wanted) (old new : R) (stop : Stop) (content : Content) → (NothingWanted wanted → ⊥) → IsReason s wanted old new stop
      → IsTrue s.tells → length (s.left old) ≤ MAX_INPUT → ¬ Rose (s.faults old) (s.faults new) → IsAccepted (s.left old) content → code_of stop ≡ 7
  accepted_code wanted old new Usage content some reason told short sound accepted = absurd (some reason)
  accepted_code wanted old new (Refused x) content some reason told short sound accepted = accepted_refusal (s.left old) content x accepted (reason.1 told).0
  accepted_code wanted old new ReadFault content some reason told short sound accepted = absurd (sound reason)
  accepted_code wanted old new NoMemory content some reason told short sound accepted = refl
  accepted_code wanted old new TooLong content some reason told short sound accepted = absurd (not_much old new told short reason)

  -- nothing but memory stops a read of few enough bytes that does not fail
  pub short_code : (old new : R) (stop : Stop) → StopsRead s old new stop → IsTrue s.tells → length (s.left old) ≤ MAX_INPUT → ¬ Rose (s.faults old) (s.faults new)
      → code_of stop ≡ 7
  short_code old new Usage why told short sound = absurd why
  short_code old new (Refused r) why told short sound = absurd why
  short_code old new ReadFault why told short sound = absurd (sound why)
  short_code old new NoMemory why told short sound = refl
  short_code old new TooLong why told short sound = absurd (not_much old new told short why)

-- a status is that of the reason, or of a write fault
pub code_or_fault : (result code other : ℕ) → (result ≡ code) ⊎ (result ≡ 6) → (code ≡ other) ⊎ (code ≡ 7) → ((result ≡ other) ⊎ (result ≡ 6)) ⊎ (result ≡ 7)
code_or_fault result code other (inl is) (inl same) = inl (inl (is ∙ same))
code_or_fault result code other (inl is) (inr memory) = inr (is ∙ memory)
code_or_fault result code other (inr fault) either = inl (inr fault)
