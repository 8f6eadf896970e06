-- Legality looks at no entry behind the position.
use Rattle.std.proofs.Common.{◌≡◌, ℕ, zero, suc, ◌≤◌, ◌⊎◌, Bool, List, [], ◌∷◌, ◌++◌, length, take, Option, Some, refl, sym, ap, subst, inl, inr, arith, append-nil, append_assoc}
use Rattle.std.specs.Prelude.{slice_get, unwrap_or}
use Rattle.std.proofs.lemmas.Option.{slice_get_within}
use Rattle.std.proofs.lemmas.List.{take-append-le}
use Rattle.std.proofs.Math.Seq.{take-append_seam}
use Rattle.ecp_entry.specs.declared.entry.Entry.{Entry}
use Rattle.ecp_shape.specs.declared.shape.Shape.{Shape}
use Rattle.ecp_history.specs.Legal.{IsLegal, MayFollow}

-- what stands in a list stands there in a longer one
pub get_before : {X : Type 0} (xs ys : List X) (i : ℕ) (x : X) → slice_get xs i ≡ Some x → slice_get (xs ++ ys) i ≡ Some x
get_before [] ys i x h = cc
get_before (y ∷ xs) ys zero x h = h
get_before (y ∷ xs) ys (suc i) x h = get_before xs ys i x h

-- what stands in a list with one more element stands in the list, or is that element
pub get_split : {X : Type 0} (xs : List X) (e : X) (i : ℕ) (x : X) → slice_get (xs ++ e ∷ []) i ≡ Some x → (slice_get xs i ≡ Some x) ⊎ ((i ≡ length xs) × (e ≡ x))
get_split {X} [] e zero x h = inr (refl, ap (λ (o : Option X). unwrap_or o e) h)
get_split [] e (suc i) x h = cc
get_split (y ∷ xs) e zero x h = inl h
get_split (y ∷ xs) e (suc i) x h =
    elim (get_split xs e i x h) [ inl before ↦ inl before | inr last ↦ inr (ap (λ (n : ℕ). suc n) last.0, last.1) ]

-- the last element of a list stands there
pub get_last : {X : Type 0} (xs : List X) (e : X) → slice_get (xs ++ e ∷ []) (length xs) ≡ Some e
get_last [] e = refl
get_last (x ∷ xs) e = get_last xs e

pub beginning : (shape : Shape) (told : Bool) (history more : List Entry) → IsLegal shape told (history ++ more) → IsLegal shape told history
beginning shape told history more legal i e h =
    let within : i ≤ length history = omega (arith, slice_get_within history i e h) in
    subst (λ (before : List Entry). MayFollow shape told before e) (take-append-le i history more within) (legal i e (get_before history more i e h))

pub last_follows : (shape : Shape) (told : Bool) (history : List Entry) (e : Entry) → IsLegal shape told (history ++ e ∷ []) → MayFollow shape told history e
last_follows shape told history e legal =
    subst (λ (before : List Entry). MayFollow shape told before e) (take-append_seam history (e ∷ [])) (legal (length history) e (get_last history e))

pub appended : (shape : Shape) (told : Bool) (history : List Entry) (e : Entry) → IsLegal shape told history → MayFollow shape told history e → IsLegal shape told (history ++ e ∷ [])
appended shape told history e legal next i x h =
    elim (get_split history e i x h) [
      | inl before ↦
          let within : i ≤ length history = omega (arith, slice_get_within history i x before) in
          subst (λ (b : List Entry). MayFollow shape told b x) (sym (take-append-le i history (e ∷ []) within)) (legal i x before)
      | inr last ↦
          subst (λ (n : ℕ). MayFollow shape told (take n (history ++ e ∷ [])) x) (sym last.0)
          (subst (λ (b : List Entry). MayFollow shape told b x) (sym (take-append_seam history (e ∷ [])))
          (subst (λ (y : Entry). MayFollow shape told history y) last.1 next))
    ]

-- what holds of a beginning of a legal history, and of what one more entry makes of it, holds of the whole
pub onwards : (shape : Shape) (told : Bool) (P : List Entry → Type 0)
    → ((h : List Entry) (e : Entry) → IsLegal shape told h → MayFollow shape told h e → P h → P (h ++ e ∷ []))
    → (before more : List Entry) → IsLegal shape told (before ++ more) → P before → P (before ++ more)
onwards shape told P step before [] legal p = subst P (sym (append-nil before)) p
onwards shape told P step before (e ∷ more) legal p =
    let split : (before ++ e ∷ []) ++ more ≡ before ++ e ∷ more = append_assoc before (e ∷ []) more in
    let whole : IsLegal shape told ((before ++ e ∷ []) ++ more) = subst (IsLegal shape told) (sym split) legal in
    let one : IsLegal shape told (before ++ e ∷ []) = beginning shape told (before ++ e ∷ []) more whole in
    let next : P (before ++ e ∷ []) = step before e (beginning shape told before (e ∷ []) one) (last_follows shape told before e one) p in
    subst P split (onwards shape told P step (before ++ e ∷ []) more whole next)
