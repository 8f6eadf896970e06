-- What a table keeps, as its stripes and files change.
use Rattle.std.proofs.Common.{◌≡◌, ℕ, zero, suc, ◌+◌, ◌-◌, ◌<◌, ◌==◌, Bool, true, false, cond, List, [], ◌∷◌, ◌++◌, length, take, drop, map, reverse, replicate, fold, Option, Some, None, refl, sym, ◌∙◌, ap, subst, arith, nat_eq}
use Rattle.std.specs.Prelude.{find, slice_get, bytes_eq, nat_lt, option_and_then, MatchOption, unwrap_or, ⊤}
use Rattle.std.specs.List.{AllByRecursion}
use Rattle.std.proofs.lemmas.List.{reverse-append}
use Rattle.ecp_history.specs.table.Tables.{Stripe, Standing, File}
use Rattle.ecp_history.specs.table.Steps.{placed, with_rows, stripes_among, rows_among}
use Rattle.ecp_history.specs.table.Rising.{IsRising}
use Rattle.std.proofs.Common.{◌&&◌, ◌*◌}
use Rattle.std.specs.Ordering.{is_eq, nat_cmp, ordering_then}
use Rattle.std.specs.declared.cmp.Ordering.{Ordering}
use Rattle.std.specs.declared.cmp.Ordering.TheVariants.{Less, Equal, Greater}
use Rattle.std.specs.Cmp.Lexicographic.{slice_cmp}
use Rattle.std.specs.List.{range_with_len}
use Rattle.std.proofs.lemmas.Map.Text.{is_eq-slice_cmp}
use Rattle.std.proofs.lemmas.Bool.{eqb-true}
use Rattle.std.proofs.lemmas.Bool.Decides.{nat_tests}
use Rattle.std.proofs.Math.Seq.{take-append_seam}
use Rattle.ecp_code.specs.Stripes.{stripes, stripe_count, blocks}
use Rattle.ecp_code.proofs.BlockLaws.{length-blocks}
use Rattle.ecp_entry.specs.Filled.{zero_filled}
use Rattle.std.specs.BTreeMap.{is_at}
use Rattle.std.specs.Map.{lookup}
use Rattle.ecp_history.specs.declared.table.Table.TheInside.{Inside}
use Rattle.ecp_shape.specs.Range.{IsInRange}
use Rattle.ecp_shape.specs.declared.limits.TheConstants.{MAX_NAME}
use Rattle.ecp_history.specs.table.Kept.{IsKept, name_cmp}
use Rattle.ecp_history.proofs.LegalLaws.{get_last}

-- a change of rows leaves the numbers
above-with_rows : (change : Stripe → List Standing) (n : ℕ) (xs : List Stripe) → AllByRecursion (λ y. n < y.number) xs → AllByRecursion (λ y. n < y.number) (with_rows change xs)
above-with_rows change n [] all = tt
above-with_rows change n (x ∷ xs) all = (all.0, above-with_rows change n xs all.1)

pub rising-with_rows : (change : Stripe → List Standing) (xs : List Stripe) → IsRising xs → IsRising (with_rows change xs)
rising-with_rows change [] rising = tt
rising-with_rows change (x ∷ xs) rising = (above-with_rows change x.number xs rising.0, rising-with_rows change xs rising.1)

-- and the data
pub data-with_rows : (P : List (List ℕ) → Type 0) (change : Stripe → List Standing) (xs : List Stripe) → AllByRecursion (λ x. P x.blocks) xs → AllByRecursion (λ x. P x.blocks) (with_rows change xs)
data-with_rows P change [] all = tt
data-with_rows P change (x ∷ xs) all = (all.0, data-with_rows P change xs all.1)

pub full-with_rows : (change : Stripe → List Standing) (k : ℕ) (xs : List Stripe) → AllByRecursion (λ x. length x.blocks ≡ k) xs → AllByRecursion (λ x. length x.blocks ≡ k) (with_rows change xs)
full-with_rows change k xs all = data-with_rows (λ d. length d ≡ k) change xs all

-- what holds of a stripe and of those it is put among holds of all
pub all-placed : (P : Stripe → Type 0) (xs : List Stripe) (x : Stripe) → AllByRecursion P xs → P x → AllByRecursion P (placed xs x)
all-placed P [] x all h = (h, tt)
all-placed P (y ∷ xs) x all h = one (nat_lt x.number y.number) (x.number == y.number) (all-placed P xs x all.1 h) where
  one : (less same : Bool) → AllByRecursion P (placed xs x) → AllByRecursion P (cond less (x ∷ y ∷ xs) (cond same (x ∷ xs) (y ∷ placed xs x)))
  one true same more = (h, all)
  one false true more = (h, all.1)
  one false false more = (all.0, more)

-- what holds of some data and of the data of the stripes that they are put among holds of all
pub data-stored : (P : List (List ℕ) → Type 0) (nodes : List ℕ) (n s : ℕ) (ds : List (List (List ℕ))) (xs : List Stripe) → AllByRecursion P ds
    → AllByRecursion (λ x. P x.blocks) xs → AllByRecursion (λ x. P x.blocks) (fold placed xs (stripes_among nodes n s ds))
data-stored P nodes n s [] xs of_data all = all
data-stored P nodes n s (d ∷ ds) xs of_data all =
    data-stored P nodes n (s + 1) ds (placed xs (record { number = s; blocks = d; rows = rows_among nodes n s })) of_data.1
    (all-placed (λ x. P x.blocks) xs (record { number = s; blocks = d; rows = rows_among nodes n s }) all of_data.0)

pub full-stored : (nodes : List ℕ) (n s k : ℕ) (ds : List (List (List ℕ))) (xs : List Stripe) → AllByRecursion (λ d. length d ≡ k) ds
    → AllByRecursion (λ x. length x.blocks ≡ k) xs → AllByRecursion (λ x. length x.blocks ≡ k) (fold placed xs (stripes_among nodes n s ds))
full-stored nodes n s k ds xs of_data all = data-stored (λ d. length d ≡ k) nodes n s ds xs of_data all

-- the newest file with this name among these, the oldest first
abbrev pub newest : List File → List ℕ → Option File
newest files q = find (λ f. bytes_eq f.name q) (reverse files)

newest-more : (files : List File) (f : File) (q : List ℕ) → newest (files ++ f ∷ []) q ≡ cond (bytes_eq f.name q) (Some f) (newest files q)
newest-more files f q = ap (find (λ x. bytes_eq x.name q)) (reverse-append files (f ∷ []))

-- one more file, to which its name leads
pub named-more : (files : List File) (f : File) (before after : List ℕ → Option ℕ) (n : ℕ) → n ≡ length files
    → ((q : List ℕ) → newest files q ≡ option_and_then (λ i. slice_get files i) (before q))
    → ((q : List ℕ) → MatchOption (before q) ⊤ (λ i. i < length files))
    → ((q : List ℕ) → after q ≡ cond (bytes_eq f.name q) (Some n) (before q))
    → (q : List ℕ) → newest (files ++ f ∷ []) q ≡ option_and_then (λ i. slice_get (files ++ f ∷ []) i) (after q)
named-more files f before after n is named within updates q =
    newest-more files f q ∙ one (bytes_eq f.name q) (before q) (named q) (within q) ∙ sym (ap (option_and_then (λ (i : ℕ). slice_get (files ++ f ∷ []) i)) (updates q))
  where
    one : (b : Bool) (o : Option ℕ) → newest files q ≡ option_and_then (λ i. slice_get files i) o → MatchOption o ⊤ (λ i. i < length files)
        → cond b (Some f) (newest files q) ≡ option_and_then (λ i. slice_get (files ++ f ∷ []) i) (cond b (Some n) o)
    one true o old inside = sym (ap (λ (m : ℕ). slice_get (files ++ f ∷ []) m) is ∙ get_last files f)
    one false None old inside = old
    one false (Some i) old inside = old ∙ same_get files i inside
      where
        same_get : (xs : List File) (j : ℕ) → j < length xs → slice_get xs j ≡ slice_get (xs ++ f ∷ []) j
        same_get [] j h = absurd (omega arith)
        same_get (x ∷ xs) zero h = refl
        same_get (x ∷ xs) (suc j) h = same_get xs j (omega arith)

pub within-more : (m n : ℕ) (before after : List ℕ → Option ℕ) (test : List ℕ → Bool) → n < m + 1 → ((q : List ℕ) → MatchOption (before q) ⊤ (λ i. i < m))
    → ((q : List ℕ) → after q ≡ cond (test q) (Some n) (before q)) → (q : List ℕ) → MatchOption (after q) ⊤ (λ i. i < m + 1)
within-more m n before after test small within updates q =
    subst (λ (o : Option ℕ). MatchOption o ⊤ (λ i. i < m + 1)) (sym (updates q)) (one (test q) (before q) (within q))
  where
    one : (b : Bool) (o : Option ℕ) → MatchOption o ⊤ (λ i. i < m) → MatchOption (cond b (Some n) o) ⊤ (λ i. i < m + 1)
    one true o inside = small
    one false None inside = inside
    one false (Some i) inside = omega arith

-- a table whose fields are as before, but for its stripes, keeps what it kept
pub kept_by : (a b : Inside) → IsKept a → b.shape ≡ a.shape → b.code ≡ a.code → b.files.items ≡ a.files.items → b.names.entries ≡ a.names.entries → length b.nodes.items ≡ length a.nodes.items
    → IsRising b.stripes.items → AllByRecursion (λ x. length x.blocks ≡ a.shape.k) b.stripes.items → IsKept b
kept_by a b kept shape code files names nodes rising full = record {
  in_range = subst IsInRange (sym shape) kept.in_range;
  n_is = ap (λ c. c.n) code ∙ kept.n_is ∙ sym (ap (λ s. s.n) shape);
  k_is = ap (λ c. c.k) code ∙ kept.k_is ∙ sym (ap (λ s. s.k) shape);
  nodes = nodes ∙ kept.nodes ∙ sym (ap (λ s. s.nodes) shape);
  rising = rising;
  full = subst (λ (k : ℕ). AllByRecursion (λ x. length x.blocks ≡ k) b.stripes.items) (sym (ap (λ s. s.k) shape)) full;
  named = λ q.
      ap (λ (fs : List File). newest fs q) files ∙ kept.named q
      ∙ sym (ap (λ (fs : List File). option_and_then (λ i. slice_get fs i) (lookup (is_at (name_cmp q)) b.names.entries)) files
      ∙ ap (λ (es : List (List ℕ × ℕ)). option_and_then (λ i. slice_get a.files.items i) (lookup (is_at (name_cmp q)) es)) names);
  within = λ q.
      subst (λ (fs : List File). MatchOption (lookup (is_at (name_cmp q)) b.names.entries) ⊤ (λ i. i < length fs)) (sym files)
      (subst (λ (es : List (List ℕ × ℕ)). MatchOption (lookup (is_at (name_cmp q)) es) ⊤ (λ i. i < length a.files.items)) (sym names) (kept.within q));
}

both_same : (x y : Bool) → (x ≡ true → y ≡ true) → (y ≡ true → x ≡ true) → x ≡ y
both_same true true f g = refl
both_same true false f g = sym (f refl)
both_same false true f g = g refl
both_same false false f g = refl

then_eq : (o p : Ordering) → is_eq (ordering_then o p) ≡ (is_eq o && is_eq p)
then_eq Less p = refl
then_eq Equal p = refl
then_eq Greater p = refl

nat_eq_cmp : (m n : ℕ) → is_eq (nat_cmp m n) ≡ nat_eq m n
nat_eq_cmp m n = grind (arith, nat_tests)

-- what comparing names asks
name_test : (a b : List ℕ) → is_at (name_cmp a) b ≡ (nat_eq (length a) (length b) && bytes_eq (zero_filled (length a) a) (zero_filled (length b) b))
name_test a b =
    then_eq (nat_cmp (length a) (length b)) (slice_cmp nat_cmp (zero_filled (length a) a) (zero_filled (length b) b))
    ∙ ap (λ (x : Bool). x && is_eq (slice_cmp nat_cmp (zero_filled (length a) a) (zero_filled (length b) b))) (nat_eq_cmp (length a) (length b))
    ∙ ap (λ (x : Bool). nat_eq (length a) (length b) && x) (is_eq-slice_cmp (zero_filled (length a) a) (zero_filled (length b) b))

and_left : (x y : Bool) → (x && y) ≡ true → x ≡ true
and_left true y h = refl
and_left false y h = h

and_right : (x y : Bool) → (x && y) ≡ true → y ≡ true
and_right true y h = h
and_right false y h = cc

eqb-same : (n : ℕ) → nat_eq n n ≡ true
eqb-same n = grind (arith, nat_tests)

bytes_eq-refl : (xs : List ℕ) → bytes_eq xs xs ≡ true
bytes_eq-refl [] = refl
bytes_eq-refl (x ∷ xs) = rw (eqb-same x) (bytes_eq-refl xs)

bytes_eq-true : (xs ys : List ℕ) → bytes_eq xs ys ≡ true → xs ≡ ys
bytes_eq-true [] [] h = refl
bytes_eq-true [] (y ∷ ys) h = cc
bytes_eq-true (x ∷ xs) [] h = cc
bytes_eq-true (x ∷ xs) (y ∷ ys) h =
    ap (λ (z : ℕ). z ∷ xs) (eqb-true x y (and_left _ _ h)) ∙ ap (λ (zs : List ℕ). y ∷ zs) (bytes_eq-true xs ys (and_right _ _ h))

-- names that compare equal are one
pub name_same : (a b : List ℕ) → is_at (name_cmp a) b ≡ bytes_eq a b
name_same a b = name_test a b ∙ both_same _ _ (λ h.
    let lengths : length a ≡ length b = eqb-true (length a) (length b) (and_left _ _ h) in
    let bytes : zero_filled (length a) a ≡ zero_filled (length b) b = bytes_eq-true _ _ (and_right _ _ h) in
    let one : a ≡ b = sym (take-append_seam a (replicate (MAX_NAME - length a) 0)) ∙ ap (take (length a)) bytes ∙ ap (λ (n : ℕ). take n (zero_filled (length b) b)) lengths ∙ take-append_seam b (replicate (MAX_NAME - length b) 0) in
    subst (λ (c : List ℕ). bytes_eq a c ≡ true) one (bytes_eq-refl a))
    (λ h.
    let one : a ≡ b = bytes_eq-true a b h in
    subst (λ (c : List ℕ). (nat_eq (length a) (length c) && bytes_eq (zero_filled (length a) a) (zero_filled (length c) c)) ≡ true) one
    (rw (eqb-same (length a), bytes_eq-refl (zero_filled (length a) a)) refl))

-- each stripe of a file has k blocks
pub datas_full : (k len : ℕ) (bytes : List ℕ) → AllByRecursion (λ d. length d ≡ k) (stripes k len bytes)
datas_full k len bytes = go (range_with_len 0 (stripe_count k len (length bytes))) where
  go : (is : List ℕ) → AllByRecursion (λ d. length d ≡ k) (map (λ i. blocks k len (drop (i * (k * len)) bytes)) is)
  go [] = tt
  go (i ∷ is) = (length-blocks k len (drop (i * (k * len)) bytes), go is)

-- a list written over as long a one
pub written_over : (n : ℕ) (ws xs : List Stripe) → length ws ≡ n → take n (ws ++ drop (length ws) xs) ≡ ws
written_over n ws xs is = ap (λ (m : ℕ). take m (ws ++ drop (length ws) xs)) (sym is) ∙ take-append_seam ws (drop (length ws) xs)

-- what holds of all holds of the one that is found
pub all-find : (P : Stripe → Type 0) (test : Stripe → Bool) (xs : List Stripe) (x : Stripe) → AllByRecursion P xs → Some x ≡ find test xs → P x
all-find P test [] x all is = cc
all-find P test (y ∷ ys) x all is = either (test y) (all-find P test ys x all.1) is where
  either : (b : Bool) → (Some x ≡ find test ys → P x) → Some x ≡ cond b (Some y) (find test ys) → P x
  either true more is = subst P (ap (λ (o : Option Stripe). unwrap_or o x) (sym is)) all.0
  either false more is = more is
