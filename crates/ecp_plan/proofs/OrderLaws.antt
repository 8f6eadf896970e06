-- How many slices a block has, and in which order a slice visits its helpers.
use Rattle.std.proofs.Common.{◌≡◌, ℕ, zero, suc, ◌+◌, ◌-◌, ◌*◌, ◌/◌, ◌%◌, ◌<◌, ◌≤◌, min, add-one, ◌⊎◌, inl, inr, sym, ◌∙◌, ap, subst, arith, zero-add}
use Rattle.std.proofs.Math.Nat.{mod-one, mod-eq_of_lt, mod-lt, add-mod_left, suc-mul, zero-mul, mul-le-mul_right}
use Rattle.std.proofs.lemmas.Nat.{div-add-mod'}
use Rattle.std.proofs.lemmas.Bool.{cases_eq, cases_lt}
use Rattle.std.proofs.lemmas.Bool.Decides.{nat_tests}
use Rattle.ecp_plan.specs.Order.{slice_count, slice_start, slice_end, helper_after}

-- with one helper there is one place
one_place : (h j at : ℕ) → h ≡ 1 → at < h → (j % h + at) % h ≡ at
one_place h j at e l =
    let alone : (j % 1 + at) % 1 ≡ 0 = mod-one (j % 1 + at) in
    subst (λ (m : ℕ). (j % m + at) % m ≡ 0) (sym e) alone ∙ omega arith

-- one sum serves one lane and as many lanes as helpers
pub helper_is : (lanes h j at : ℕ) → (lanes ≡ 1) ⊎ (lanes ≡ h) → at < h → (j % lanes + at) % h ≡ helper_after lanes h j at
helper_is lanes h j at (inl e) l =
    let first : j % lanes ≡ 0 = ap (λ (m : ℕ). j % m) e ∙ mod-one j in
    let here : (j % lanes + at) % h ≡ at = ap (λ (m : ℕ). (m + at) % h) first ∙ ap (λ (m : ℕ). m % h) (zero-add at) ∙ mod-eq_of_lt l in
    here ∙ sym (ap (λ (m : ℕ). helper_after m h j at) e)
helper_is lanes h j at (inr e) l =
    ap (λ (m : ℕ). (j % m + at) % h) e ∙ (elim (cases_eq h 1) [
      | inl one ↦ one_place h j at one l ∙ sym (ap (λ (m : ℕ). helper_after m h j at) (e ∙ one))
      | inr more ↦ grind (arith, nat_tests)
    ])

-- a turn goes on from its first helper, or round to the front
round : (h a t : ℕ) → a < h → t < h → ((a + t < h) × ((a + t) % h ≡ a + t)) ⊎ ((h ≤ a + t) × ((a + t) % h + h ≡ a + t))
round h a t la lt = elim (cases_lt (a + t) h) [
  | inl on ↦ inl (on, mod-eq_of_lt on)
  | inr past ↦
      let whole : h + (a + t - h) ≡ a + t = omega arith in
      let rest : a + t - h < h = omega arith in
      let left : (a + t) % h ≡ a + t - h = sym (ap (λ (m : ℕ). m % h) whole) ∙ add-mod_left h (a + t - h) ∙ mod-eq_of_lt rest in
      inr (past, omega (arith, left))
]

same_turn : (h a s t : ℕ) → a < h → s < h → t < h → (a + s) % h ≡ (a + t) % h → s ≡ t
same_turn h a s t la ls lt e = elim (round h a s la ls) [
  | inl x ↦ elim (round h a t la lt) [ inl y ↦ omega (arith, x.1, y.1, e) | inr y ↦ absurd (omega (arith, x.1, y.1, e)) ]
  | inr x ↦ elim (round h a t la lt) [ inl y ↦ absurd (omega (arith, x.1, y.1, e)) | inr y ↦ omega (arith, x.1, y.1, e) ]
]

-- the first helper of a slice is one of them
first_within : (lanes h j : ℕ) → (lanes ≡ 1) ⊎ (lanes ≡ h) → 1 ≤ h → j % lanes < h
first_within lanes h j (inl one) some = let none : j % lanes ≡ 0 = ap (λ (m : ℕ). j % m) one ∙ mod-one j in omega (arith, none)
first_within lanes h j (inr all) some = subst (λ (m : ℕ). j % m < h) (sym all) (mod-lt j some)

-- no helper is visited twice
pub never_twice : (lanes h j s t : ℕ) → (lanes ≡ 1) ⊎ (lanes ≡ h) → s < h → t < h → helper_after lanes h j s ≡ helper_after lanes h j t → s ≡ t
never_twice lanes h j s t l ls lt e =
    same_turn h (j % lanes) s t (first_within lanes h j l (omega arith)) ls lt (helper_is lanes h j s l ls ∙ e ∙ sym (helper_is lanes h j t l lt))

-- every helper is visited
pub each_visited : (lanes h j hop : ℕ) → (lanes ≡ 1) ⊎ (lanes ≡ h) → hop < h → (t : ℕ) × (t < h) × (helper_after lanes h j t ≡ hop)
each_visited lanes h j hop l within =
    let first : ℕ = j % lanes in
    let low : first < h = first_within lanes h j l (omega arith) in
    elim (cases_lt hop first) [
      | inl before ↦
          let late : hop + h - first < h = omega arith in
          let sum : first + (hop + h - first) ≡ h + hop = omega arith in
          (hop + h - first, late, sym (helper_is lanes h j (hop + h - first) l late) ∙ ap (λ (m : ℕ). m % h) sum ∙ add-mod_left h hop ∙ mod-eq_of_lt within)
      | inr after ↦
          let soon : hop - first < h = omega arith in
          let sum : first + (hop - first) ≡ hop = omega arith in
          (hop - first, soon, sym (helper_is lanes h j (hop - first) l soon) ∙ ap (λ (m : ℕ). m % h) sum ∙ mod-eq_of_lt within)
    ]

-- the helper that is visited is one of them
pub helper_within : (lanes h j t : ℕ) → (lanes ≡ 1) ⊎ (lanes ≡ h) → t < h → helper_after lanes h j t < h
helper_within lanes h j t l lt = subst (λ (m : ℕ). m < h) (helper_is lanes h j t l lt) (mod-lt (j % lanes + t) (omega arith))

-- the last of some slices: it begins in the block, and the next one would not
record IsLast (len size last : ℕ) : Type 0 where
  begins : last * size < len
  ends : len ≤ last * size + size

last_is : (q r len size : ℕ) → q * size + r ≡ len → r < size → 1 ≤ len → IsLast len size (q + min 1 r - 1)
last_is q (suc r) len size sum part some =
    let last : q + min 1 (suc r) - 1 ≡ q = omega arith in
    subst (IsLast len size) (sym last) (record { begins = omega arith; ends = omega arith })
last_is (suc q) zero len size sum part some =
    let last : suc q + min 1 0 - 1 ≡ q = omega arith in
    let whole : suc q * size ≡ q * size + size = suc-mul q size in
    subst (IsLast len size) (sym last) (record { begins = omega (arith, whole); ends = omega (arith, whole) })
last_is zero zero len size sum part some = absurd (omega (arith, zero-mul size))

last_slice : (len size : ℕ) → 1 ≤ len → 1 ≤ size → IsLast len size (slice_count len size - 1)
last_slice len size some wide = last_is (len / size) (len % size) len size (div-add-mod' len size) (mod-lt len (omega arith)) some

-- the last slice begins in the block and ends with it
pub last_starts : (len size : ℕ) → 1 ≤ len → 1 ≤ size → slice_start size (slice_count len size - 1) < len
last_starts len size some wide = (last_slice len size some wide).begins

end_is : (last len size : ℕ) → IsLast len size last → slice_end len size last ≡ len
end_is last len size h =
    let next : (last + 1) * size ≡ last * size + size = ap (λ (m : ℕ). m * size) (add-one last) ∙ suc-mul last size in
    omega (arith, next, h.ends)

pub last_ends : (len size : ℕ) → 1 ≤ len → 1 ≤ size → slice_end len size (slice_count len size - 1) ≡ len
last_ends len size some wide = end_is (slice_count len size - 1) len size (last_slice len size some wide)

-- a slice below their number begins in the block
pub begins_within : (len size j : ℕ) → 1 ≤ len → 1 ≤ size → j < slice_count len size → slice_start size j < len
begins_within len size j some wide low =
    let most : j * size ≤ (slice_count len size - 1) * size = mul-le-mul_right size (omega arith) in
    omega (arith, most, last_starts len size some wide)
