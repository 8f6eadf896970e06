-- Prefixes of one list, for the rule of a book and for the layers above.
use Rattle.std.proofs.Common.{◌≡◌, ◌⊎◌, inl, inr, ℕ, zero, suc, ◌≤◌, List, [], ◌∷◌, ◌++◌, length, Some, slice_get, refl, ap, sym, ◌∙◌, subst, arith, append_assoc, length-append}
use mathlib.Core.List.{IsPrefix}

module _ {A : Type 0} where
  pub prefix_self : (xs : List A) → IsPrefix xs xs
  prefix_self [] = ([], refl)
  prefix_self (x ∷ xs) = (let r = prefix_self xs in r.0, ap (λ ys. x ∷ ys) (prefix_self xs).1)

  pub prefix_trans : (xs ys zs : List A) → IsPrefix xs ys → IsPrefix ys zs → IsPrefix xs zs
  prefix_trans xs ys zs p q = (p.0 ++ q.0, sym (append_assoc xs p.0 q.0) ∙ (ap (λ w. w ++ q.0) p.1 ∙ q.1))

  -- of two prefixes of one list the one is a prefix of the other
  pub prefix_either : (xs ys zs : List A) → IsPrefix xs zs → IsPrefix ys zs → IsPrefix xs ys ⊎ IsPrefix ys xs
  prefix_either [] ys zs p q = inl (ys, refl)
  prefix_either (x ∷ xs) [] zs p q = inr (x ∷ xs, refl)
  prefix_either (x ∷ xs) (y ∷ ys) [] p q = absurd (cc (p.1))
  prefix_either (x ∷ xs) (y ∷ ys) (z ∷ zs) p q =
      let heads : x ≡ y = cc (p.1, q.1) in
      elim (prefix_either xs ys zs (p.0, cc (p.1)) (q.0, cc (q.1))) [
        | inl r ↦ inl (r.0, cc (heads, r.1))
        | inr r ↦ inr (r.0, cc (heads, r.1))
      ]

  pub prefix_length : (xs ys : List A) → IsPrefix xs ys → length xs ≤ length ys
  prefix_length xs ys p = omega (arith, sym (ap length p.1) ∙ length-append xs p.0)

  -- a prefix as long as the whole is the whole
  pub prefix_whole : (xs ys : List A) → IsPrefix xs ys → length ys ≤ length xs → xs ≡ ys
  prefix_whole [] [] p le = refl
  prefix_whole [] (y ∷ ys) p le = absurd (omega arith)
  prefix_whole (x ∷ xs) [] p le = absurd (cc (p.1))
  prefix_whole (x ∷ xs) (y ∷ ys) p le =
      let rest = prefix_whole xs ys (p.0, cc (p.1)) (omega arith) in cc (p.1, rest)

  -- two lists that begin each other are equal
  pub prefix_both : (xs ys : List A) → IsPrefix xs ys → IsPrefix ys xs → xs ≡ ys
  prefix_both xs ys p q = prefix_whole xs ys p (prefix_length ys xs q)

  -- of two lists that met, the one that is no longer is a prefix of the other
  pub shorter_is_prefix : (xs ys : List A) → IsPrefix xs ys ⊎ IsPrefix ys xs → length xs ≤ length ys → IsPrefix xs ys
  shorter_is_prefix xs ys met le =
      elim met [
        | inl p ↦ p
        | inr p ↦ subst (λ (zs : List A). IsPrefix zs ys) (prefix_whole ys xs p le) (prefix_self ys)
      ]

  -- what stands in a prefix stands in the whole, at the same place
  pub prefix_get : (xs ys : List A) (k : ℕ) (x : A) → IsPrefix xs ys → slice_get xs k ≡ Some x → slice_get ys k ≡ Some x
  prefix_get [] ys k x p h = absurd (cc)
  prefix_get (y ∷ xs) [] k x p h = absurd (cc (p.1))
  prefix_get (y ∷ xs) (z ∷ ys) zero x p h = cc (p.1, h)
  prefix_get (y ∷ xs) (z ∷ ys) (suc k) x p h = prefix_get xs ys k x (p.0, cc (p.1)) h
