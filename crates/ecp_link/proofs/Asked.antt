-- What looks at the senders, one after another, find in all.
use Rattle.std.proofs.Common.{◌≡◌, ◌≢◌, ◌⊎◌, ⊎_elim, ℕ, zero, suc, ◌+◌, ◌<◌, ◌≤◌, List, [], ◌∷◌, ◌++◌, length, set, refl, sym, ap, ◌∙◌, subst, arith, length-set, length-append, lt_of_not-le}
use Rattle.std.specs.Prelude.{Option, Some, None, IfSome, IfNone, slice_get}
use Rattle.std.proofs.lemmas.Option.{slice_get_within}
use mathlib.Core.Logic.{dite}
use native.Mathlib.Decide.{ℕ_discrete, dec_le}
use Rattle.ecp_link.specs.Links.{Taking, TakesOne, FindsNone, TakesInTurn, NoneOfAny}
use Rattle.ecp_link.proofs.Order.{get_snoc, get_last}
use Rattle.ecp_link.specs.Among.{NoneAmong, TakesAmong}

module _ {A : Type 0} where
  pub get_set_here : (xs : List A) (k : ℕ) (x : A) → k < length xs → slice_get (set xs k x) k ≡ Some x
  get_set_here [] k x lt = absurd (omega arith)
  get_set_here (y ∷ xs) zero x lt = refl
  get_set_here (y ∷ xs) (suc k) x lt = get_set_here xs k x (omega arith)

  pub get_set_else : (xs : List A) (k j : ℕ) (x : A) → j ≢ k → slice_get (set xs k x) j ≡ slice_get xs j
  get_set_else [] k j x ne = refl
  get_set_else (y ∷ xs) zero zero x ne = absurd (ne refl)
  get_set_else (y ∷ xs) zero (suc j) x ne = refl
  get_set_else (y ∷ xs) (suc k) zero x ne = refl
  get_set_else (y ∷ xs) (suc k) (suc j) x ne = get_set_else xs k j x (λ e. ne (ap suc e))

-- a fact of the item, or of its absence, and what follows from it
pub some_then : {A : Type 0} (P Q : A → Type 0) (o : Option A) → ((x : A) → P x → Q x) → IfSome o P → IfSome o Q
some_then P Q (Some x) f p = f x p
some_then P Q None f p = tt

pub none_then : {A P Q : Type 0} (o : Option A) → (P → Q) → IfNone o P → IfNone o Q
none_then (Some x) f p = tt
none_then None f p = f p

-- two lists that grow by a pair
pub pairs_more : {A B : Type 0} (R : ℕ → A → B → Type 0) (n : ℕ) (xs : List A) (ys : List B) (a : A) (b : B) → length xs ≡ n → length ys ≡ n
    → ((p : ℕ) (s : A) (t : B) → slice_get xs p ≡ Some s → slice_get ys p ≡ Some t → R p s t) → R n a b
    → (p : ℕ) (s : A) (t : B) → slice_get (xs ++ a ∷ []) p ≡ Some s → slice_get (ys ++ b ∷ []) p ≡ Some t → R p s t
pairs_more {A = A} {B = B} R n xs ys a b nx ny each more p s t e f =
    dite (ℕ_discrete p n)
    (λ (is : p ≡ n).
    let last_s : Some a ≡ Some s = sym (get_last xs a) ∙ (ap (λ k. slice_get (xs ++ a ∷ []) k) (nx ∙ sym is) ∙ e) in
    let last_t : Some b ≡ Some t = sym (get_last ys b) ∙ (ap (λ k. slice_get (ys ++ b ∷ []) k) (ny ∙ sym is) ∙ f) in
    let s_is : a ≡ s = cc in
    let t_is : b ≡ t = cc in
    subst (λ (y : ℕ × A × B). R y.0 y.1 y.2) (λ i. (sym is i, s_is i, t_is i)) more)
    (λ (ne : p ≢ n).
    let within = slice_get_within (xs ++ a ∷ []) p s e in
    let lt : p < n = omega (arith, nx, length-append xs (a ∷ [])) in
    each p s t (sym (get_snoc xs a p (omega (arith, nx))) ∙ e) (sym (get_snoc ys b p (omega (arith, ny))) ∙ f))

module _ {T : Type 0} where
  pub none_at_first : (first : ℕ) (xs : List (Taking T)) → NoneAmong first first xs xs
  none_at_first first xs = record {
    count = refl;
    asked = λ p a b le lt. absurd (omega arith);
    below = λ p lt. refl;
    above = λ p le. refl;
  }

  -- one sender more had nothing
  pub none_more : (first from : ℕ) (xs ys : List (Taking T)) (a b : Taking T) → NoneAmong first from xs ys → first ≤ from → from < length ys → slice_get ys from ≡ Some a → FindsNone a b
      → NoneAmong first (from + 1) xs (set ys from b)
  none_more first from xs ys a b h le lt was empty = record {
    count = length-set ys from b ∙ h.count;
    asked = λ p c d low high old new.
        dite (ℕ_discrete p from)
        (λ (e : p ≡ from).
        let here : Some d ≡ Some b = sym new ∙ (ap (λ k. slice_get (set ys from b) k) e ∙ get_set_here ys from b lt) in
        let then : Some c ≡ Some a = sym old ∙ (ap (λ k. slice_get xs k) e ∙ (sym (h.above from (omega arith)) ∙ was)) in
        let d_is : d ≡ b = cc in
        let c_is : c ≡ a = cc in
        subst (λ (y : Taking T × Taking T). FindsNone y.0 y.1) (λ i. (sym c_is i, sym d_is i)) empty)
        (λ (ne : p ≢ from). h.asked p c d low (omega arith) old (sym (get_set_else ys from p b ne) ∙ new));
    below = λ p low. get_set_else ys from p b (λ e. omega arith) ∙ h.below p low;
    above = λ p high. get_set_else ys from p b (λ e. omega arith) ∙ h.above p (omega arith);
  }

  -- the next one had an item
  pub takes_here : (first last from : ℕ) (xs ys : List (Taking T)) (a b : Taking T) (x : T) → NoneAmong first from xs ys → first ≤ from → from < last → from < length ys
      → slice_get ys from ≡ Some a → TakesOne a b x → TakesAmong first last xs (set ys from b) from x
  takes_here first last from xs ys a b x h le high lt was one = record {
    was = a;
    now = b;
    not_below = le;
    within = high;
    before = sym (h.above from (omega arith)) ∙ was;
    after = get_set_here ys from b lt;
    one = one;
    count = length-set ys from b ∙ h.count;
    asked = λ p c d low under old new. h.asked p c d low under old (sym (get_set_else ys from p b (λ e. omega arith)) ∙ new);
    below = λ p low. get_set_else ys from p b (λ e. omega arith) ∙ h.below p low;
    above = λ p over. get_set_else ys from p b (λ e. omega arith) ∙ h.above p (omega arith);
  }

  pub takes_first : (next from : ℕ) (xs ys : List (Taking T)) (x : T) → TakesAmong next (length xs) xs ys from x → TakesInTurn next xs ys from x
  takes_first next from xs ys x h = record {
    was = h.was;
    now = h.now;
    before = h.before;
    after = h.after;
    one = h.one;
    count = h.count;
    asked = λ p a b turn old new.
        ⊎_elim (λ (y : (next ≤ p) × (from < next)). absurd (let l = h.not_below in let r = y.1 in omega arith))
        (λ (y : (p < from) × ((from < next) ⊎ (next ≤ p))).
        ⊎_elim (λ (z : from < next). absurd (let l = h.not_below in omega arith)) (λ (z : next ≤ p). h.asked p a b z y.0 old new) y.1) turn;
    others = λ p turn.
        ⊎_elim (λ (y : (next ≤ from) × (p < next)). h.below p y.1)
        (λ (y : (from < p) × ((p < next) ⊎ (next ≤ from))). h.above p y.0) turn;
  }

  pub takes_later : (next from : ℕ) (xs ys zs : List (Taking T)) (x : T) → NoneAmong next (length xs) xs ys → TakesAmong 0 next ys zs from x → TakesInTurn next xs zs from x
  takes_later next from xs ys zs x g h = record {
    was = h.was;
    now = h.now;
    before = sym (g.below from h.within) ∙ h.before;
    after = h.after;
    one = h.one;
    count = h.count ∙ g.count;
    asked = λ p a b turn old new.
        ⊎_elim (λ (y : (next ≤ p) × (from < next)).
        g.asked p a b y.0 (slice_get_within xs p a old) old (sym (h.above p (let l = y.0 in let r = y.1 in omega arith)) ∙ new))
        (λ (y : (p < from) × ((from < next) ⊎ (next ≤ p))).
        let low : p < next = let l = y.0 in let r = h.within in omega arith in
        h.asked p a b (omega arith) y.0 (g.below p low ∙ old) new) turn;
    others = λ p turn.
        ⊎_elim (λ (y : (next ≤ from) × (p < next)). absurd (let l = y.0 in let r = h.within in omega arith))
        (λ (y : (from < p) × ((p < next) ⊎ (next ≤ from))).
        ⊎_elim (λ (z : p < next). h.above p y.0 ∙ g.below p z) (λ (z : next ≤ from). absurd (let r = h.within in omega arith)) y.1) turn;
  }

  pub none_of_any : (next : ℕ) (xs ys zs : List (Taking T)) → NoneAmong next (length xs) xs ys → NoneAmong 0 next ys zs → NoneOfAny xs zs
  none_of_any next xs ys zs g h = record {
    count = h.count ∙ g.count;
    each = λ p a b old new. go p a b old new (dec_le next p);
  }
    where
      go : (p : ℕ) (a b : Taking T) → slice_get xs p ≡ Some a → slice_get zs p ≡ Some b → Dec (next ≤ p) → FindsNone a b
      go p a b old new (yes le) = g.asked p a b le (slice_get_within xs p a old) old (sym (h.above p le) ∙ new)
      go p a b old new (no gt) = let low : p < next = lt_of_not-le gt in h.asked p a b (omega arith) low (g.below p low ∙ old) new
