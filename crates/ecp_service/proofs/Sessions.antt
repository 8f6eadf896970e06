-- The calls of a session of an input, found by its number.
use Rattle.std.proofs.Common.{◌≡◌, ℕ, zero, suc, ◌<◌, ◌⊎◌, Bool, cond, List, [], ◌∷◌, Some, ◌∙◌, ap, refl, inl, inr, arith}
use Rattle.std.specs.Prelude.{find, slice_get, ◌==◌}
use Rattle.std.specs.Option.{option_map_or}
use Rattle.std.proofs.lemmas.Bool.{cases_eq, eq-eqb, ne_eqb}
use Rattle.std.proofs.lemmas.Option.{none-some, same_Some}
use Rattle.ecp_command.specs.Input.Accepted.{Content}
use Rattle.ecp_command.specs.Input.Calls.{SessionCalls}
use Rattle.ecp_command.specs.declared.input.planned.Planned.{Planned}
use Rattle.ecp_service.specs.Asked.{calls_in}
use Rattle.ecp_service.specs.Servable.{AreServable}

-- the calls of the first of these sessions that has this number
abbrev calls_among : List SessionCalls → ℕ → List Planned
calls_among ss c = option_map_or (λ s. s.calls) (find (λ s. s.number == c) ss) []

among_first : (s : SessionCalls) (ss : List SessionCalls) (c : ℕ) → s.number ≡ c → calls_among (s ∷ ss) c ≡ s.calls
among_first s ss c is = ap (λ (b : Bool). option_map_or (λ (x : SessionCalls). x.calls) (cond b (Some s) (find (λ x. x.number == c) ss)) []) (eq-eqb s.number c is)

among_later : (s : SessionCalls) (ss : List SessionCalls) (c : ℕ) → (s.number ≡ c → ⊥) → calls_among (s ∷ ss) c ≡ calls_among ss c
among_later s ss c differs = ap (λ (b : Bool). option_map_or (λ (x : SessionCalls). x.calls) (cond b (Some s) (find (λ x. x.number == c) ss)) []) (ne_eqb s.number c differs)

-- a session of these has this number, and its calls are those that are found, or none are
pub record IsFound (ss : List SessionCalls) (c : ℕ) (calls : List Planned) : Type 0 where
  pub owner : SessionCalls
  pub place : ℕ
  pub listed : slice_get ss place ≡ Some owner
  pub its : owner.number ≡ c
  pub calls_are : calls ≡ owner.calls

found_among : (ss : List SessionCalls) (c : ℕ) → IsFound ss c (calls_among ss c) ⊎ (calls_among ss c ≡ [])
found_among [] c = inr refl
found_among (s ∷ ss) c = elim (cases_eq s.number c) [
  | inl is ↦ inl (record { owner = s; place = 0; listed = refl; its = is; calls_are = among_first s ss c is })
  | inr differs ↦ elim (found_among ss c) [
    | inl f ↦ inl (record { owner = f.owner; place = suc f.place; listed = f.listed; its = f.its; calls_are = among_later s ss c differs ∙ f.calls_are })
    | inr none ↦ inr (among_later s ss c differs ∙ none)
  ]
]

pub found : (content : Content) (c : ℕ) → IsFound content.sessions c (calls_in content c) ⊎ (calls_in content c ≡ [])
found content c = found_among content.sessions c

-- where numbers rise, each session is found by its own
its_among : (ss : List SessionCalls) → ((i j : ℕ) (s t : SessionCalls) → i < j → slice_get ss i ≡ Some s → slice_get ss j ≡ Some t → s.number < t.number)
    → (i : ℕ) (s : SessionCalls) → slice_get ss i ≡ Some s → calls_among ss s.number ≡ s.calls
its_among [] apart i s here = absurd (none-some s here)
its_among (x ∷ ss) apart zero s here =
    let is : x ≡ s = same_Some x s here in
    among_first x ss s.number (ap (λ (y : SessionCalls). y.number) is) ∙ ap (λ (y : SessionCalls). y.calls) is
its_among (x ∷ ss) apart (suc i) s here =
    let less : x.number < s.number = apart 0 (suc i) x s (omega arith) refl here in
    among_later x ss s.number (λ is. omega (arith, less, is))
    ∙ its_among ss (λ k l u v lt. apart (suc k) (suc l) u v (omega (arith, lt))) i s here

pub its_calls : (content : Content) → AreServable content.phases content.sessions → (i : ℕ) (s : SessionCalls) → slice_get content.sessions i ≡ Some s → calls_in content s.number ≡ s.calls
its_calls content servable i s here = its_among content.sessions servable.apart i s here
