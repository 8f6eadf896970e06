-- The items of one sender among those of all, and what a taker knows of each sender.
use Rattle.std.proofs.Common.{◌≡◌, ◌≢◌, ℕ, ◌+◌, zero, suc, eqb, eq-eqb, ne_eqb, ◌<◌, ◌≤◌, cond, true, false, List, [], ◌∷◌, ◌++◌, length, set, refl, sym, ap, subst, arith, length-append, ◌∙◌}
use Rattle.std.specs.Prelude.{Option, Some, None, IfNone, slice_get}
use mathlib.Core.Logic.{dite}
use native.Mathlib.Decide.{ℕ_discrete}
use Rattle.std.proofs.lemmas.List.{get_or-set_same, get_or-set_other}
use Rattle.ecp_link.specs.declared.known.Known.{Known}
use Rattle.ecp_link.specs.declared.by_queue.view.Parcel.{Parcel}
use Rattle.ecp_link.specs.Links.{unknown}
use Rattle.ecp_link.specs.Queued.{of, known_of}

module _ {T : Type 0} where
  abbrev pub parcel : ℕ → T → Parcel T
  parcel from item = record { from = from; item = item }

  pub of-append : (p : ℕ) (xs ys : List (Parcel T)) → of p (xs ++ ys) ≡ of p xs ++ of p ys
  of-append p [] ys = refl
  of-append p (x ∷ xs) ys =
      elim (eqb x.from p) as (λ b. cond b (x.item ∷ of p (xs ++ ys)) (of p (xs ++ ys)) ≡ cond b (x.item ∷ of p xs) (of p xs) ++ of p ys) [
        | true ↦ ap (λ zs. x.item ∷ zs) (of-append p xs ys)
        | false ↦ of-append p xs ys
      ]

  pub of_own : (p : ℕ) (x : T) (xs : List (Parcel T)) → of p (parcel p x ∷ xs) ≡ x ∷ of p xs
  of_own p x xs = ap (λ b. cond b (x ∷ of p xs) (of p xs)) (eq-eqb p p refl)

  pub of_other : (p q : ℕ) (x : T) (xs : List (Parcel T)) → p ≢ q → of q (parcel p x ∷ xs) ≡ of q xs
  of_other p q x xs ne = ap (λ b. cond b (x ∷ of q xs) (of q xs)) (ne_eqb p q ne)

  -- past the last sender nothing is known
  pub known_past : (known : List (Known T)) (p : ℕ) → length known ≤ p → known_of known p ≡ unknown
  known_past [] p le = refl
  known_past (k ∷ known) zero le = absurd (omega arith)
  known_past (k ∷ known) (suc p) le = known_past known p (omega arith)

  -- one sender more, of which nothing is known
  pub known_more : (known : List (Known T)) (p : ℕ) → known_of (known ++ unknown ∷ []) p ≡ known_of known p
  known_more [] zero = refl
  known_more [] (suc p) = refl
  known_more (k ∷ known) zero = refl
  known_more (k ∷ known) (suc p) = known_more known p

  -- what is known of each sender, where one fact changed
  pub each_known : (F : ℕ → Known T → Type 0) (known : List (Known T)) (p : ℕ) (k : Known T) → p < length known → F p k → ((q : ℕ) → q ≢ p → F q (known_of known q))
      → (q : ℕ) → F q (known_of (set known p k) q)
  each_known F known p k lt mine others q =
      dite (ℕ_discrete q p)
      (λ (e : q ≡ p). subst (λ (r : ℕ). F r (known_of (set known p k) r)) (sym e) (subst (F p) (sym (get_or-set_same known p k unknown lt)) mine))
      (λ (ne : q ≢ p). subst (F q) (sym (get_or-set_other known p q k unknown ne)) (others q ne))

  pub never_nil : (xs : List T) (x : T) (ys : List T) → xs ++ x ∷ ys ≡ [] → ⊥
  never_nil [] x ys e = omega (arith, ap length e)
  never_nil (z ∷ xs) x ys e = omega (arith, ap length e)

  pub of_none : (p : ℕ) (xs : List (Parcel T)) → length xs ≡ 0 → of p xs ≡ []
  of_none p [] e = refl
  of_none p (x ∷ xs) e = absurd (omega (arith, e))

pub if_none : {A : Type 0} {P : Type 0} (o : Option A) → P → IfNone o P
if_none None p = p
if_none (Some x) p = tt

pub get_snoc : {A : Type 0} (xs : List A) (x : A) (k : ℕ) → k < length xs → slice_get (xs ++ x ∷ []) k ≡ slice_get xs k
get_snoc [] x k lt = absurd (omega arith)
get_snoc (y ∷ xs) x zero lt = refl
get_snoc (y ∷ xs) x (suc k) lt = get_snoc xs x k (omega arith)

pub get_last : {A : Type 0} (xs : List A) (x : A) → slice_get (xs ++ x ∷ []) (length xs) ≡ Some x
get_last [] x = refl
get_last (y ∷ xs) x = get_last xs x

-- the two elements of a list from which both were popped
pub last_two : {A : Type 0} (xs ys zs : List A) (a b : A) → xs ≡ ys ++ a ∷ [] → ys ≡ zs ++ b ∷ [] → length xs ≡ 2 → (slice_get xs 1 ≡ Some a) × (slice_get xs 0 ≡ Some b)
last_two xs ys zs a b e f two =
    let longer : length xs ≡ length ys + 1 = ap length e ∙ length-append ys (a ∷ []) in
    let long : length ys ≡ length zs + 1 = ap length f ∙ length-append zs (b ∷ []) in
    let one : 1 ≡ length ys = omega arith in
    let none : 0 ≡ length zs = omega arith in (
      ap (λ l. slice_get l 1) e ∙ (ap (λ k. slice_get (ys ++ a ∷ []) k) one ∙ get_last ys a),
      ap (λ l. slice_get l 0) e ∙ (get_snoc ys a 0 (omega arith) ∙ (ap (λ l. slice_get l 0) f ∙ (ap (λ k. slice_get (zs ++ b ∷ []) k) none ∙ get_last zs b))),
    )
