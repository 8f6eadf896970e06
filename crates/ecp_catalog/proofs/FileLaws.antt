-- The files of a catalog: what names and spans lead to, and one file more.
use Rattle.std.proofs.Common.{◌≡◌, ℕ, zero, suc, ◌+◌, ◌-◌, ◌*◌, ◌<◌, ◌≤◌, ◌⊎◌, inl, inr, Bool, true, false, cond, List, [], ◌∷◌, ◌++◌, length, reverse, get_or, slice_get, find, Option, Some, None, refl, sym, ◌∙◌, ap, subst, arith, length-append, take, drop, IsSome, add_comm}
use Rattle.std.specs.Prelude.{All, nat_le, nat_lt, bytes_eq, option_and_then, option_map, MatchOption, ⊤}
use Rattle.std.specs.List.{AllByRecursion}
use Rattle.std.specs.Option.{option_map_or, option_or}
use Rattle.ecp_node.specs.Receipts.{ReceiptState}
use Rattle.std.proofs.lemmas.Bool.{and_parts, leb-true, ltb-true, false≢true}
use Rattle.std.proofs.lemmas.List.{reverse-append, get_or_default}
use Rattle.std.proofs.lemmas.List.Elements.{All-push, All-weaker, recursion_from_All}
use Rattle.std.proofs.lemmas.List.Folds.{find-append}
use Rattle.std.proofs.lemmas.List.Sums.{sum_by-cons}
use Rattle.std.proofs.lemmas.Option.{MatchOption-at_some, same_Some, slice_get_read, slice_get-get_or}
use Rattle.ecp_shape.specs.declared.shape.Shape.{Shape}
use Rattle.ecp_history.proofs.LegalLaws.{get_before, get_last, get_split}
use Rattle.ecp_catalog.specs.declared.limits.TheConstants.{END_OF_STRIPES}
use Rattle.ecp_catalog.specs.declared.span.Span.{Span}
use Rattle.ecp_catalog.specs.Standing.{FileSeen, has_number, file_with, rows_in, receipts_in}
use Rattle.ecp_catalog.specs.Catalogs.{file_named}
use Rattle.ecp_catalog.proofs.StoredLaws.{room_for, length-chunk, get-chunk}
use Rattle.ecp_catalog.specs.Kept.{IsFile, IsSpread, AreFiles, covers, span_of, spanned, stripes_stored, file_at}

-- the one that is found passes, and what holds of all holds of it
find_passes : {X : Type 0} (test : X → Bool) (xs : List X) (x : X) → find test xs ≡ Some x → test x ≡ true
find_passes test [] x is = cc
find_passes test (y ∷ ys) x is = one (test y) refl is (find_passes test ys x) where
  one : (b : Bool) → test y ≡ b → cond b (Some y) (find test ys) ≡ Some x → (find test ys ≡ Some x → test x ≡ true) → test x ≡ true
  one true passes is more =
      let same : y ≡ x = cc in
      subst (λ (z : _). test z ≡ true) same passes
  one false fails is more = more is

find_all : {X : Type 0} (P : X → Type 0) (test : X → Bool) (xs : List X) (x : X) → AllByRecursion P xs → find test xs ≡ Some x → P x
find_all P test [] x all is = cc
find_all P test (y ∷ ys) x all is = one (test y) is (find_all P test ys x all.1) where
  one : (b : Bool) → cond b (Some y) (find test ys) ≡ Some x → (find test ys ≡ Some x → P x) → P x
  one true is more =
      let same : y ≡ x = cc in
      subst P same all.0
  one false is more = more is

-- the file at an index, as names and numbers lead to it
pub record IsAt (shape : Shape) (files : List FileSeen) (i : ℕ) (f : FileSeen) : Type 0 where
  pub within : i < length files
  pub at : slice_get files i ≡ Some f
  pub kept : IsFile shape f

found_at : (shape : Shape) (files : List FileSeen) (i : ℕ) (f : FileSeen) → All (IsFile shape) files → i < length files → f ≡ get_or files i f → IsAt shape files i f
found_at shape files i f each within is = record {
  within = within;
  at = slice_get_read files (length files) i f refl within is;
  kept = subst (IsFile shape) (sym is) (each i f within);
}

-- where a name leads
pub name-within : (shape : Shape) (files : List FileSeen) (led : List ℕ → Option ℕ) (spans : List Span) (q : List ℕ) (i : ℕ) → AreFiles shape files led spans → led q ≡ Some i → i < length files
name-within shape files led spans q i are is = MatchOption-at_some ⊤ (λ j. j < length files) i is (are.within q)

pub name-leads : (shape : Shape) (files : List FileSeen) (led : List ℕ → Option ℕ) (spans : List Span) (q : List ℕ) (i : ℕ) (f : FileSeen) → AreFiles shape files led spans → led q ≡ Some i
    → f ≡ get_or files i f → (Some f.file ≡ file_named (reverse files) q) × IsFile shape f
name-leads shape files led spans q i f are is here =
    let at : IsAt shape files i f = found_at shape files i f are.each (name-within shape files led spans q i are is) here in (
      sym (are.named q ∙ ap (λ (o : Option ℕ). option_map (λ x. x.file) (option_and_then (slice_get files) o)) is ∙ ap (option_map (λ (x : FileSeen). x.file)) at.at),
      at.kept,
    )

pub name-none : (shape : Shape) (files : List FileSeen) (led : List ℕ → Option ℕ) (spans : List Span) (q : List ℕ) → AreFiles shape files led spans → led q ≡ None → None ≡ file_named (reverse files) q
name-none shape files led spans q are is = sym (are.named q ∙ ap (λ (o : Option ℕ). option_map (λ x. x.file) (option_and_then (slice_get files) o)) is)

-- where a number leads
pub span-within : (shape : Shape) (files : List FileSeen) (led : List ℕ → Option ℕ) (spans : List Span) (s : ℕ) (x : Span) → AreFiles shape files led spans → find (covers s) spans ≡ Some x → x.file < length files
span-within shape files led spans s x are is = find_all (λ y. y.file < length files) (covers s) spans x (recursion_from_All (λ y. y.file < length files) spans are.known) is

pub record HasStripe (shape : Shape) (files : List FileSeen) (s i : ℕ) (f : FileSeen) : Type 0 where
  pub place : IsAt shape files i f
  pub found : file_with (reverse files) s ≡ Some f
  pub has : has_number s f ≡ true
  pub from : f.file.first ≤ s
  pub to : s < f.file.first + f.file.stripes

pub span-leads : (shape : Shape) (files : List FileSeen) (led : List ℕ → Option ℕ) (spans : List Span) (s : ℕ) (x : Span) (f : FileSeen) → AreFiles shape files led spans
    → find (covers s) spans ≡ Some x → f ≡ get_or files x.file f → HasStripe shape files s x.file f
span-leads shape files led spans s x f are is here =
    let at : IsAt shape files x.file f = found_at shape files x.file f are.each (span-within shape files led spans s x are is) here in
    let found : file_with (reverse files) s ≡ Some f = are.numbered s ∙ ap (file_at files) is ∙ at.at in
    let has : has_number s f ≡ true = find_passes (has_number s) (reverse files) f found in
    let both : (nat_le f.file.first s ≡ true) × (nat_lt s (f.file.first + f.file.stripes) ≡ true) = and_parts (nat_le f.file.first s) (nat_lt s (f.file.first + f.file.stripes)) has in
    record {
      place = at;
      found = found;
      has = has;
      from = leb-true f.file.first s both.0;
      to = ltb-true s (f.file.first + f.file.stripes) both.1;
    }

pub span-none : (shape : Shape) (files : List FileSeen) (led : List ℕ → Option ℕ) (spans : List Span) (s : ℕ) → AreFiles shape files led spans → find (covers s) spans ≡ None → None ≡ file_with (reverse files) s
span-none shape files led spans s are is = sym (are.numbered s ∙ ap (file_at files) is)

-- a number that no file has is in no span
pub unspanned : (shape : Shape) (files : List FileSeen) (led : List ℕ → Option ℕ) (spans : List Span) (s : ℕ) → AreFiles shape files led spans → file_with (reverse files) s ≡ None → find (covers s) spans ≡ None
unspanned shape files led spans s are none = one (find (covers s) spans) refl where
  there : (x : Span) → find (covers s) spans ≡ Some x → ⊥
  there x is =
      let f : FileSeen = get_or files x.file (default x) in
      let own : f ≡ get_or files x.file f = get_or_default files x.file (default x) f (span-within shape files led spans s x are is) in
      clash (sym (span-leads shape files led spans s x f are is own).found ∙ none)
    where
      default : Span → FileSeen
      default y = record { file = record { name = []; len = 0; first = 0; stripes = 0 }; rows = [] }

      clash : {f : FileSeen} → Some f ≡ None → ⊥
      clash is = cc

  one : (o : Option Span) → find (covers s) spans ≡ o → find (covers s) spans ≡ None
  one None is = is
  one (Some x) is = absurd (there x is)

-- the rows of a stripe are among those of its file
pub rows-room : (shape : Shape) (s : ℕ) (f : FileSeen) → has_number s f ≡ true → IsFile shape f → (s - f.file.first) * shape.n + shape.n ≤ length f.rows
rows-room shape s f has kept =
    let both : (nat_le f.file.first s ≡ true) × (nat_lt s (f.file.first + f.file.stripes) ≡ true) = and_parts (nat_le f.file.first s) (nat_lt s (f.file.first + f.file.stripes)) has in
    let low : s - f.file.first < f.file.stripes = omega (arith, leb-true f.file.first s both.0, ltb-true s (f.file.first + f.file.stripes) both.1) in
    omega (arith, kept.full, room_for (s - f.file.first) f.file.stripes shape.n low)

pub starts-by : (s : ℕ) (f : FileSeen) → has_number s f ≡ true → f.file.first ≤ s
starts-by s f has = leb-true f.file.first s (and_parts (nat_le f.file.first s) (nat_lt s (f.file.first + f.file.stripes)) has).0

-- a receipt that is there has a number below the length
pub some-within : (xs : List ReceiptState) (k : ℕ) → IsSome (slice_get xs k) → k < length xs
some-within [] k is = absurd (false≢true is)
some-within (x ∷ xs) zero is = omega arith
some-within (x ∷ xs) (suc k) is = omega (arith, some-within xs k is)

-- where a row stands among those of its file
pub receipt-at : (shape : Shape) (s r : ℕ) (files : List FileSeen) (f : FileSeen) → file_with files s ≡ Some f → has_number s f ≡ true → IsFile shape f → IsSome (slice_get (receipts_in shape.n files s) r)
    → ((s - f.file.first) * shape.n + r < length f.rows) × (slice_get (receipts_in shape.n files s) r ≡ slice_get f.rows ((s - f.file.first) * shape.n + r))
receipt-at shape s r files f found has kept there =
    let i = s - f.file.first in
    let both : (nat_le f.file.first s ≡ true) × (nat_lt s (f.file.first + f.file.stripes) ≡ true) = and_parts (nat_le f.file.first s) (nat_lt s (f.file.first + f.file.stripes)) has in
    let low : s - f.file.first < f.file.stripes = omega (arith, leb-true f.file.first s both.0, ltb-true s (f.file.first + f.file.stripes) both.1) in
    let rows : receipts_in shape.n files s ≡ take shape.n (drop ((s - f.file.first) * shape.n) f.rows) = ap (λ (o : Option FileSeen). option_map_or (rows_in shape.n s) o []) found in
    let here : IsSome (slice_get (take shape.n (drop ((s - f.file.first) * shape.n) f.rows)) r) = subst (λ (xs : List ReceiptState). IsSome (slice_get xs r)) rows there in
    let within : r < shape.n = omega (arith, some-within (take shape.n (drop ((s - f.file.first) * shape.n) f.rows)) r here, length-chunk (s - f.file.first) f.file.stripes shape.n f.rows low kept.full) in (
      omega (arith, within, kept.full, room_for (s - f.file.first) f.file.stripes shape.n low),
      ap (λ (xs : List ReceiptState). slice_get xs r) rows ∙ get-chunk (s - f.file.first) f.file.stripes shape.n r f.rows low kept.full within,
    )

-- ---- which file has a number

pub reverse-cons : (f : FileSeen) (files : List FileSeen) → reverse (f ∷ files) ≡ reverse files ++ f ∷ []
reverse-cons f files = reverse-append (f ∷ []) files

-- the newest that has it, where one older file is there too
found-older : (s : ℕ) (f : FileSeen) (files : List FileSeen) → file_with (reverse (f ∷ files)) s ≡ option_or (file_with (reverse files) s) (file_with (f ∷ []) s)
found-older s f files = ap (find (has_number s)) (reverse-cons f files) ∙ find-append (has_number s) (reverse files) (f ∷ [])

-- where none has it, none is found
pub find-none : (s : ℕ) (files : List FileSeen) → ((i : ℕ) (f : FileSeen) → slice_get files i ≡ Some f → has_number s f ≡ false) → file_with (reverse files) s ≡ None
find-none s [] none = refl
find-none s (f ∷ files) none =
    found-older s f files ∙ ap (λ (o : Option FileSeen). option_or o (file_with (f ∷ []) s)) (find-none s files (λ i g at. none (suc i) g at)) ∙ rw (none 0 f refl) refl

-- and the other way round
pub none-has : (s : ℕ) (files : List FileSeen) (i : ℕ) (f : FileSeen) → file_with (reverse files) s ≡ None → slice_get files i ≡ Some f → has_number s f ≡ false
none-has s [] i f none at = cc
none-has s (g ∷ files) i f none at = by (file_with (reverse files) s) (has_number s g) refl (sym (found-older s g files) ∙ none) i at (λ k older is. none-has s files k f older is) where
  by : (o : Option FileSeen) (b : Bool) → has_number s g ≡ b → option_or o (cond b (Some g) None) ≡ None
      → (k : ℕ) → slice_get (g ∷ files) k ≡ Some f → ((j : ℕ) → o ≡ None → slice_get files j ≡ Some f → has_number s f ≡ false) → has_number s f ≡ false
  by (Some h) b own all k is more = cc
  by None true own all k is more = cc
  by None false own all zero is more =
      let same : g ≡ f = same_Some g f is in
      subst (λ (h : FileSeen). has_number s h ≡ false) same own
  by None false own all (suc k) is more = more k refl is

-- where one alone has it, that one is found
pub find-alone : (s : ℕ) (files : List FileSeen) (i : ℕ) (f : FileSeen) → slice_get files i ≡ Some f → has_number s f ≡ true
    → ((j : ℕ) (g : FileSeen) → slice_get files j ≡ Some g → has_number s g ≡ true → j ≡ i) → file_with (reverse files) s ≡ Some f
find-alone s [] i f at has alone = cc
find-alone s (h ∷ files) zero f at has alone =
    let same : h ≡ f = same_Some h f at in
    found-older s h files ∙ ap (λ (o : Option FileSeen). option_or o (file_with (h ∷ []) s)) (find-none s files (λ j g is. off j g is (has_number s g) refl))
    ∙ subst (λ (g : FileSeen). option_or None (file_with (g ∷ []) s) ≡ Some f) (sym same) (rw has refl)
  where
    off : (j : ℕ) (g : FileSeen) → slice_get files j ≡ Some g → (b : Bool) → has_number s g ≡ b → b ≡ false
    off j g is false own = refl
    off j g is true own = absurd (omega (arith, alone (suc j) g is own))
find-alone s (h ∷ files) (suc i) f at has alone =
    found-older s h files ∙ ap (λ (o : Option FileSeen). option_or o (file_with (h ∷ []) s)) (find-alone s files i f at has (λ j g is own. omega (arith, alone (suc j) g is own)))

-- ---- one file more

newest-first : (files : List FileSeen) (f : FileSeen) → reverse (files ++ f ∷ []) ≡ f ∷ reverse files
newest-first files f = reverse-append files (f ∷ [])

pub files-more : (shape : Shape) (files : List FileSeen) (f : FileSeen) (led more : List ℕ → Option ℕ) (spans put : List Span) → AreFiles shape files led spans → IsFile shape f
    → ((q : List ℕ) → more q ≡ cond (bytes_eq f.file.name q) (Some (length files)) (led q))
    → ((s : ℕ) → find (covers s) put ≡ cond (has_number s f) (Some (span_of f.file (length files))) (find (covers s) spans))
    → IsSpread 0 END_OF_STRIPES put → ((n : ℕ) → length files < n → All (λ x. x.file < n) spans → All (λ x. x.file < n) put) → spanned put ≡ spanned spans + f.file.stripes
    → ((s : ℕ) → has_number s f ≡ true → file_with (reverse files) s ≡ None) → AreFiles shape (files ++ f ∷ []) more put
files-more shape files f led more spans put are kept leads found spread known total fresh = record {
  in_range = are.in_range;
  each = All-push (IsFile shape) files f are.each kept;
  named = λ q.
      ap (λ (fs : List FileSeen). file_named fs q) (newest-first files f) ∙ name (bytes_eq f.file.name q) q (led q) (are.named q) (are.within q)
      ∙ sym (ap (λ (o : Option ℕ). option_map (λ x. x.file) (option_and_then (slice_get (files ++ f ∷ [])) o)) (leads q));
  within = λ q. subst (λ (o : Option ℕ). MatchOption o ⊤ (λ i. i < length (files ++ f ∷ []))) (sym (leads q)) (inside (bytes_eq f.file.name q) (led q) (are.within q));
  numbered = λ s.
      ap (λ (fs : List FileSeen). file_with fs s) (newest-first files f) ∙ number (has_number s f) s (find (covers s) spans) refl (are.numbered s)
      ∙ sym (ap (file_at (files ++ f ∷ [])) (found s));
  apart = λ i j s g h at_i at_j has_i has_j. still_apart i j s g h (get_split files f i g at_i) (get_split files f j h at_j) has_i has_j;
  known = known (length (files ++ f ∷ [])) (omega (arith, longer)) (All-weaker (λ (x : Span). x.file < length files) (λ x. x.file < length (files ++ f ∷ [])) (λ x h. omega (arith, h, longer)) spans are.known);
  spread = spread;
  all = ap stripes_stored (newest-first files f) ∙ sum_by-cons (λ (x : FileSeen). x.file.stripes) f (reverse files)
      ∙ ap (λ (n : ℕ). f.file.stripes + n) are.all ∙ add_comm f.file.stripes (spanned spans) ∙ sym total;
}
  where
    never : (j s : ℕ) (g h : FileSeen) → slice_get files j ≡ Some g → has_number s g ≡ true → f ≡ h → has_number s h ≡ true → ⊥
    never j s g h at has_g is has_h =
        let own : has_number s f ≡ true = subst (λ (x : FileSeen). has_number s x ≡ true) (sym is) has_h in
        false≢true (sym (none-has s files j g (fresh s own) at) ∙ has_g)

    still_apart : (i j s : ℕ) (g h : FileSeen) → (slice_get files i ≡ Some g) ⊎ ((i ≡ length files) × (f ≡ g)) → (slice_get files j ≡ Some h) ⊎ ((j ≡ length files) × (f ≡ h))
        → has_number s g ≡ true → has_number s h ≡ true → i ≡ j
    still_apart i j s g h (inl at_i) (inl at_j) has_g has_h = are.apart i j s g h at_i at_j has_g has_h
    still_apart i j s g h (inl at_i) (inr last) has_g has_h = absurd (never i s g h at_i has_g last.1 has_h)
    still_apart i j s g h (inr last) (inl at_j) has_g has_h = absurd (never j s h g at_j has_h last.1 has_g)
    still_apart i j s g h (inr one) (inr other) has_g has_h = one.0 ∙ sym other.0

    longer : length (files ++ f ∷ []) ≡ length files + 1
    longer = length-append files (f ∷ [])

    old : (i : ℕ) → i < length files → slice_get files i ≡ slice_get (files ++ f ∷ []) i
    old i h = slice_get-get_or files i f h ∙ sym (get_before files (f ∷ []) i (get_or files i f) (slice_get-get_or files i f h))

    name : (b : Bool) (q : List ℕ) (o : Option ℕ) → file_named (reverse files) q ≡ option_map (λ x. x.file) (option_and_then (slice_get files) o) → MatchOption o ⊤ (λ i. i < length files)
        → cond b (Some f.file) (file_named (reverse files) q) ≡ option_map (λ x. x.file) (option_and_then (slice_get (files ++ f ∷ [])) (cond b (Some (length files)) o))
    name true q o is within = sym (ap (option_map (λ (x : FileSeen). x.file)) (get_last files f))
    name false q None is within = is
    name false q (Some i) is within = is ∙ ap (option_map (λ (x : FileSeen). x.file)) (old i within)

    inside : (b : Bool) (o : Option ℕ) → MatchOption o ⊤ (λ i. i < length files) → MatchOption (cond b (Some (length files)) o) ⊤ (λ i. i < length (files ++ f ∷ []))
    inside true o within = omega (arith, longer)
    inside false None within = tt
    inside false (Some i) within = omega (arith, within, longer)

    number : (b : Bool) (s : ℕ) (o : Option Span) → find (covers s) spans ≡ o → file_with (reverse files) s ≡ file_at files o
        → cond b (Some f) (file_with (reverse files) s) ≡ file_at (files ++ f ∷ []) (cond b (Some (span_of f.file (length files))) o)
    number true s o at is = sym (get_last files f)
    number false s None at is = is
    number false s (Some x) at is = is ∙ old x.file (find_all (λ y. y.file < length files) (covers s) spans x (recursion_from_All (λ y. y.file < length files) spans are.known) at)

-- as many stripes as the numbers allow
spanned-below : (from to : ℕ) (xs : List Span) → IsSpread from to xs → from + spanned xs ≤ to
spanned-below from to [] spread = omega (arith, spread)
spanned-below from to (x ∷ xs) spread = omega (arith, spread.0, spread.1, spanned-below x.end to xs spread.2, sum_by-cons (λ (y : Span). y.end - y.first) x xs)

pub stripes-below : (shape : Shape) (files : List FileSeen) (led : List ℕ → Option ℕ) (spans : List Span) → AreFiles shape files led spans → stripes_stored (reverse files) ≤ END_OF_STRIPES
stripes-below shape files led spans are = omega (arith, are.all, spanned-below 0 END_OF_STRIPES spans are.spread)
