-- What is known of a message that is taken.
use Rattle.std.proofs.Common.{◌≡◌, ◌==◌, ◌&&◌, Bool, true, false, cond, refl, sym}
use Rattle.std.specs.Prelude.{not}
use Rattle.std.proofs.lemmas.Bool.{eqb-true}
use Rattle.ecp_slice.specs.Messages.{Message}
use Rattle.ecp_requestor.specs.declared.accepted.Accepted.{Accepted}
use Rattle.ecp_requestor.specs.declared.accepted.Accepted.TheVariants.{Taken, Stale, Foreign, Repeat}
use Rattle.ecp_requestor.specs.Accepting.{answer_to}
use Rattle.ecp_requestor.specs.Assemblies.{AssemblyState, is_of, is_there}

-- the message is of this attempt, and its slice is not there
pub record Belongs (a : AssemblyState) (m : Message) : Type 0 where
  pub of_repair : is_of a m ≡ true
  pub of_attempt : m.attempt ≡ a.attempt
  pub missing : is_there a m.slice ≡ false

chosen : (of same there : Bool) (repeat stale foreign : Accepted) → (Taken ≡ repeat → ⊥) → (Taken ≡ stale → ⊥) → (Taken ≡ foreign → ⊥)
    → cond (not of) foreign (cond (not same) stale (cond there repeat Taken)) ≡ Taken → (of ≡ true) × (same ≡ true) × (there ≡ false)
chosen true true true repeat stale foreign r s f e = absurd (r (sym e))
chosen true true false repeat stale foreign r s f e = (refl, refl, refl)
chosen true false there repeat stale foreign r s f e = absurd (s (sym e))
chosen false same there repeat stale foreign r s f e = absurd (f (sym e))

pub belongs : (a : AssemblyState) (m : Message) → answer_to a m ≡ Taken → Belongs a m
belongs a m e =
    let parts = chosen (is_of a m) (m.attempt == a.attempt) (is_there a m.slice) (Repeat m.slice) (Stale a.attempt) (Foreign a.repair) (λ h. cc h) (λ h. cc h) (λ h. cc h) e in
    record { of_repair = parts.0; of_attempt = eqb-true m.attempt a.attempt parts.1; missing = parts.2 }

-- what is the same of a message and its assembly
pub record AreOne (a : AssemblyState) (m : Message) : Type 0 where
  pub repair : m.repair ≡ a.repair
  pub stripe : m.stripe ≡ a.stripe
  pub row : m.row ≡ a.row
  pub block : m.block ≡ a.block
  pub size : m.size ≡ a.size

both : (p q : Bool) → (p && q) ≡ true → (p ≡ true) × (q ≡ true)
both true q e = (refl, e)
both false q e = absurd (cc e)

pub are_one : (a : AssemblyState) (m : Message) → is_of a m ≡ true → AreOne a m
are_one a m e =
    let d = both _ (m.size == a.size) e in
    let c = both _ (m.block == a.block) d.0 in
    let b = both _ (m.row == a.row) c.0 in
    let x = both (m.repair == a.repair) (m.stripe == a.stripe) b.0 in
    record {
      repair = eqb-true m.repair a.repair x.0;
      stripe = eqb-true m.stripe a.stripe x.1;
      row = eqb-true m.row a.row b.1;
      block = eqb-true m.block a.block c.1;
      size = eqb-true m.size a.size d.1;
    }
