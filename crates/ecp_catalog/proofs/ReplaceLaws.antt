-- The files of a catalog, where another receipt stands in the place of one.
use Rattle.std.proofs.Common.{◌≡◌, ◌≢◌, ℕ, zero, suc, ◌+◌, ◌-◌, ◌*◌, ◌<◌, ◌≤◌, ◌==◌, Bool, true, false, cond, List, [], ◌∷◌, ◌++◌, length, map, set, take, drop, reverse, get_or, slice_get, find, sum_by, Option, Some, None, IsSome, refl, sym, ◌∙◌, ap, subst, arith, inl, inr, length-set, length-take, mul-le-mul_right}
use Rattle.std.specs.Prelude.{All, MatchOption, ⊤, is_some, nat_le, nat_lt, option_and_then, option_map}
use Rattle.std.specs.Option.{option_map_or}
use Rattle.std.proofs.lemmas.Bool.{and_parts, cases_eq, cases_lt, eq-eqb, false≢true, leb-true, ltb-true, ne_eqb}
use Rattle.std.proofs.lemmas.List.{drop-set-add, drop-set-lt, map-append, reverse-append, take-set-le}
use Rattle.std.proofs.lemmas.List.Elements.{All-set}
use Rattle.std.proofs.lemmas.List.Sums.{sum_by-cons}
use Rattle.std.proofs.lemmas.Option.{slice_get-get_or, slice_get-map}
use Rattle.std.proofs.Math.Seq.{map-set_same, take-set-lt}
use Rattle.ecp_shape.specs.declared.shape.Shape.{Shape}
use Rattle.ecp_node.specs.Receipts.{ReceiptState}
use Rattle.ecp_history.specs.declared.table.file.File.{File}
use Rattle.ecp_catalog.specs.declared.span.Span.{Span}
use Rattle.ecp_catalog.specs.Standing.{FileSeen, file_with, has_number, receipts_in, rows_in}
use Rattle.ecp_catalog.specs.Catalogs.{with_receipt}
use Rattle.ecp_catalog.specs.Kept.{AreApart, AreFiles, IsFile, covers, file_at, rows_stored, stripes_stored}
use Rattle.ecp_catalog.proofs.FileLaws.{HasStripe, find-alone, find-none, none-has, reverse-cons, some-within, span-leads, span-within}

-- a file with another receipt at a place
abbrev pub replaced : FileSeen → ℕ → ReceiptState → FileSeen
replaced f k x = record { file = f.file; rows = set f.rows k x }

-- ---- what the files alone say

pub files-same : (files : List FileSeen) (i k : ℕ) (f : FileSeen) (x : ReceiptState) → f ≡ get_or files i f → map (λ f. f.file) (set files i (replaced f k x)) ≡ map (λ f. f.file) files
files-same files i k f x is = map-set_same (λ (g : FileSeen). g.file) files i (replaced f k x) f (ap (λ (g : FileSeen). g.file) is)

map-reverse : (files : List FileSeen) → map (λ f. f.file) (reverse files) ≡ reverse (map (λ f. f.file) files)
map-reverse [] = refl
map-reverse (f ∷ files) =
    ap (map (λ (g : FileSeen). g.file)) (reverse-cons f files) ∙ map-append (λ (g : FileSeen). g.file) (reverse files) (f ∷ [])
    ∙ ap (λ (fs : List File). fs ++ f.file ∷ []) (map-reverse files) ∙ sym (reverse-append (f.file ∷ []) (map (λ (g : FileSeen). g.file) files))

pub reverse-same : (files new : List FileSeen) → map (λ f. f.file) new ≡ map (λ f. f.file) files → map (λ f. f.file) (reverse new) ≡ map (λ f. f.file) (reverse files)
reverse-same files new same = map-reverse new ∙ ap reverse same ∙ sym (map-reverse files)

-- as many stripes as the files say
pub stripes-of : (files : List FileSeen) → stripes_stored files ≡ sum_by (λ f. f.stripes) (map (λ f. f.file) files)
stripes-of [] = refl
stripes-of (f ∷ files) =
    sum_by-cons (λ (g : FileSeen). g.file.stripes) f files ∙ ap (λ (n : ℕ). f.file.stripes + n) (stripes-of files)
    ∙ sym (sum_by-cons (λ (g : File). g.stripes) f.file (map (λ (g : FileSeen). g.file) files))

pub stripes-same : (files new : List FileSeen) → map (λ f. f.file) new ≡ map (λ f. f.file) files → stripes_stored new ≡ stripes_stored files
stripes-same files new same = stripes-of new ∙ ap (sum_by (λ (f : File). f.stripes)) same ∙ sym (stripes-of files)

file-at : (files new : List FileSeen) → map (λ f. f.file) new ≡ map (λ f. f.file) files → (i : ℕ) → option_map (λ f. f.file) (slice_get new i) ≡ option_map (λ f. f.file) (slice_get files i)
file-at files new same i = sym (slice_get-map (λ (f : FileSeen). f.file) new i) ∙ ap (λ (fs : List File). slice_get fs i) same ∙ slice_get-map (λ (f : FileSeen). f.file) files i

file-led : (files new : List FileSeen) → map (λ f. f.file) new ≡ map (λ f. f.file) files → (o : Option ℕ)
    → option_map (λ f. f.file) (option_and_then (slice_get new) o) ≡ option_map (λ f. f.file) (option_and_then (slice_get files) o)
file-led files new same None = refl
file-led files new same (Some i) = file-at files new same i

-- the file that stood there
stood : (o : Option FileSeen) (g : FileSeen) → option_map (λ f. f.file) (Some g) ≡ option_map (λ f. f.file) o → (f : FileSeen) × (o ≡ Some f) × (g.file ≡ f.file)
stood None g is = cc
stood (Some f) g is = (f, refl, cc)

same_number : (s : ℕ) (f g : FileSeen) → g.file ≡ f.file → has_number s g ≡ has_number s f
same_number s f g is = ap (λ (x : File). has_number s (let y : FileSeen = record { file = x; rows = [] } in y)) is

old_file : (files new : List FileSeen) → map (λ f. f.file) new ≡ map (λ f. f.file) files → (i : ℕ) (g : FileSeen) → slice_get new i ≡ Some g
    → (f : FileSeen) × (slice_get files i ≡ Some f) × (g.file ≡ f.file)
old_file files new same i g at = stood (slice_get files i) g (ap (option_map (λ (f : FileSeen). f.file)) (sym at) ∙ file-at files new same i)

apart-same : (files new : List FileSeen) → map (λ f. f.file) new ≡ map (λ f. f.file) files → AreApart files → AreApart new
apart-same files new same apart = λ i j s f g at_i at_j has_f has_g.
    let one = old_file files new same i f at_i in
    let other = old_file files new same j g at_j in
    apart i j s one.0 other.0 one.1 other.1 (sym (same_number s one.0 f one.2) ∙ has_f) (sym (same_number s other.0 g other.2) ∙ has_g)

-- ---- the files are kept

pub files-replaced : (shape : Shape) (files new : List FileSeen) (led : List ℕ → Option ℕ) (spans : List Span) → AreFiles shape files led spans → map (λ f. f.file) new ≡ map (λ f. f.file) files
    → length new ≡ length files → All (IsFile shape) new → AreFiles shape new led spans
files-replaced shape files new led spans are same size each = record {
  in_range = are.in_range;
  each = each;
  named = λ q. ap (find (λ (f : File). _)) (reverse-same files new same) ∙ are.named q ∙ sym (file-led files new same (led q));
  within = λ q. subst (λ (n : ℕ). MatchOption (led q) ⊤ (λ i. i < n)) (sym size) (are.within q);
  numbered = λ s. number s (find (covers s) spans) refl;
  apart = apart-same files new same are.apart;
  known = subst (λ (n : ℕ). All (λ x. x.file < n) spans) (sym size) are.known;
  spread = are.spread;
  all = stripes-same (reverse files) (reverse new) (reverse-same files new same) ∙ are.all;
}
  where
    blank : FileSeen
    blank = record { file = record { name = []; len = 0; first = 0; stripes = 0 }; rows = [] }

    number : (s : ℕ) (o : Option Span) → find (covers s) spans ≡ o → file_with (reverse new) s ≡ file_at new (find (covers s) spans)
    number s None is =
        let none : file_with (reverse files) s ≡ None = are.numbered s ∙ ap (file_at files) is in
        find-none s new (λ i g at.
        let old = old_file files new same i g at in
        same_number s old.0 g old.2 ∙ none-has s files i old.0 none old.1)
        ∙ sym (ap (file_at new) is)
    number s (Some z) is =
        let within : z.file < length new = omega (arith, size, span-within shape files led spans s z are is) in
        let g : FileSeen = get_or new z.file blank in
        let at : slice_get new z.file ≡ Some g = slice_get-get_or new z.file blank within in
        let old = old_file files new same z.file g at in
        let found : file_with (reverse files) s ≡ Some old.0 = are.numbered s ∙ ap (file_at files) is ∙ old.1 in
        let has : has_number s g ≡ true = same_number s old.0 g old.2 ∙ passes s (reverse files) old.0 found in
        find-alone s new z.file g at has (λ j h at_j has_j. apart-same files new same are.apart j z.file s h g at_j at has_j has) ∙ sym (ap (file_at new) is ∙ at)
      where
        passes : (k : ℕ) (xs : List FileSeen) (x : FileSeen) → find (has_number k) xs ≡ Some x → has_number k x ≡ true
        passes k [] x found = cc
        passes k (y ∷ ys) x found = one (has_number k y) refl found (passes k ys x) where
          one : (b : Bool) → has_number k y ≡ b → cond b (Some y) (find (has_number k) ys) ≡ Some x → (find (has_number k) ys ≡ Some x → has_number k x ≡ true) → has_number k x ≡ true
          one true own at more =
              let one_file : y ≡ x = cc in
              subst (λ (z : FileSeen). has_number k z ≡ true) one_file own
          one false own at more = more at

-- each file is still one
pub each-replaced : (shape : Shape) (files : List FileSeen) (i k : ℕ) (f : FileSeen) (x : ReceiptState) → All (IsFile shape) files → IsFile shape f → All (IsFile shape) (set files i (replaced f k x))
each-replaced shape files i k f x each kept =
    All-set (IsFile shape) files i (replaced f k x) (record { counted = kept.counted; below = kept.below; full = length-set f.rows k x ∙ kept.full }) each

-- ---- the receipts of a stripe

-- another file, or none
keeps_none : (b : Bool) (r : ℕ) (x : ReceiptState) → [] ≡ cond b (set [] r x) []
keeps_none true r x = refl
keeps_none false r x = refl

get_other : (files : List FileSeen) (i j : ℕ) (g : FileSeen) → j ≢ i → slice_get (set files i g) j ≡ slice_get files j
get_other [] i j g apart = refl
get_other (f ∷ files) zero zero g apart = absurd (apart refl)
get_other (f ∷ files) zero (suc j) g apart = refl
get_other (f ∷ files) (suc i) zero g apart = refl
get_other (f ∷ files) (suc i) (suc j) g apart = get_other files i j g (λ same. apart (ap (λ (n : ℕ). suc n) same))

get_same : (files : List FileSeen) (i : ℕ) (g : FileSeen) → i < length files → slice_get (set files i g) i ≡ Some g
get_same [] i g h = absurd (omega arith)
get_same (f ∷ files) zero g h = refl
get_same (f ∷ files) (suc i) g h = get_same files i g (omega arith)

-- the rows of the stripe itself, and of one before it or behind it
own_rows : (n a r : ℕ) (rows : List ReceiptState) (x : ReceiptState) → r < n → take n (drop a (set rows (a + r) x)) ≡ set (take n (drop a rows)) r x
own_rows n a r rows x low = ap (take n) (drop-set-add a rows r x) ∙ take-set-lt n (drop a rows) r x low

rows_before : (n a k : ℕ) (rows : List ReceiptState) (x : ReceiptState) → a + n ≤ k → take n (drop a (set rows k x)) ≡ take n (drop a rows)
rows_before n a k rows x behind =
    let split : k ≡ a + (k - a) = omega (arith, behind) in
    ap (λ (m : ℕ). take n (drop a (set rows m x))) split ∙ ap (take n) (drop-set-add a rows (k - a) x) ∙ take-set-le n (drop a rows) (k - a) x (omega (arith, behind))

rows_behind : (n a k : ℕ) (rows : List ReceiptState) (x : ReceiptState) → k < a → take n (drop a (set rows k x)) ≡ take n (drop a rows)
rows_behind n a k rows x before = ap (take n) (drop-set-lt a rows k x before)

-- those of a stripe of the file whose receipt is replaced
rows-replaced : (n s : ℕ) (f : FileSeen) (x : ReceiptState) → f.file.first ≤ s → f.file.first ≤ x.stripe → x.row < n
    → rows_in n s (replaced f ((x.stripe - f.file.first) * n + x.row) x) ≡ with_receipt x s (rows_in n s f)
rows-replaced n s f x from at low = elim (cases_eq s x.stripe) [
  | inl same ↦
      let own : s == x.stripe ≡ true = eq-eqb s x.stripe same in
      rw own (ap (λ (t : ℕ). take n (drop ((s - f.file.first) * n) (set f.rows ((t - f.file.first) * n + x.row) x))) (sym same) ∙ own_rows n ((s - f.file.first) * n) x.row f.rows x low)
  | inr other ↦
      let off : s == x.stripe ≡ false = ne_eqb s x.stripe other in
      rw off (elim (cases_lt s x.stripe) [
        | inl before ↦
            let next : suc (s - f.file.first) * n ≤ (x.stripe - f.file.first) * n = mul-le-mul_right n (omega (arith, before, from)) in
            rows_before n ((s - f.file.first) * n) ((x.stripe - f.file.first) * n + x.row) f.rows x (omega (arith, next))
        | inr behind ↦
            let next : suc (x.stripe - f.file.first) * n ≤ (s - f.file.first) * n = mul-le-mul_right n (omega (arith, behind, other, at)) in
            rows_behind n ((s - f.file.first) * n) ((x.stripe - f.file.first) * n + x.row) f.rows x (omega (arith, next, low))
      ])
]

-- a receipt that is there is of one of the n rows
pub row-within : (n s r : ℕ) (files : List FileSeen) → IsSome (slice_get (receipts_in n files s) r) → r < n
row-within n s r files there = omega (arith, some-within (receipts_in n files s) r there, few (file_with files s)) where
  few : (o : Option FileSeen) → length (option_map_or (rows_in n s) o []) ≤ n
  few None = omega arith
  few (Some f) = omega (arith, length-take n (drop ((s - f.file.first) * n) f.rows))

pub receipts-replaced : (shape : Shape) (files : List FileSeen) (led : List ℕ → Option ℕ) (spans : List Span) (z : Span) (f : FileSeen) (x : ReceiptState) → AreFiles shape files led spans
    → find (covers x.stripe) spans ≡ Some z → f ≡ get_or files z.file f → x.row < shape.n
    → AreFiles shape (set files z.file (replaced f ((x.stripe - f.file.first) * shape.n + x.row) x)) led spans
    → (s : ℕ) → receipts_in shape.n (reverse (set files z.file (replaced f ((x.stripe - f.file.first) * shape.n + x.row) x))) s ≡ with_receipt x s (receipts_in shape.n (reverse files) s)
receipts-replaced shape files led spans z f x are leads is low kept s =
    ap (λ (o : Option FileSeen). option_map_or (rows_in shape.n s) o []) (kept.numbered s) ∙ by (find (covers s) spans) refl
    ∙ sym (ap (λ (o : Option FileSeen). with_receipt x s (option_map_or (rows_in shape.n s) o [])) (are.numbered s))
  where
    g : FileSeen
    g = replaced f ((x.stripe - f.file.first) * shape.n + x.row) x

    by : (o : Option Span) → find (covers s) spans ≡ o
        → option_map_or (rows_in shape.n s) (file_at (set files z.file (replaced f ((x.stripe - f.file.first) * shape.n + x.row) x)) (find (covers s) spans)) []
        ≡ with_receipt x s (option_map_or (rows_in shape.n s) (file_at files (find (covers s) spans)) [])
    by None none = rw none (keeps_none (s == x.stripe) x.row x)
    by (Some y) found = rw found (elim (cases_eq y.file z.file) [
      | inl same ↦
          let has : HasStripe shape files s z.file f =
          subst (λ (i : ℕ). HasStripe shape files s i f) same (span-leads shape files led spans s y f are found (subst (λ (i : ℕ). f ≡ get_or files i f) (sym same) is)) in
          let own : HasStripe shape files x.stripe z.file f = span-leads shape files led spans x.stripe z f are leads is in
          rw (same, get_same files z.file (replaced f ((x.stripe - f.file.first) * shape.n + x.row) x) own.place.within, own.place.at)
          (rows-replaced shape.n s f x has.from own.from low)
      | inr other ↦
          let off : s == x.stripe ≡ false = ne_eqb s x.stripe (λ same. other (ap (λ (o : Option Span). option_map_or (λ w. w.file) o 0) (sym found ∙ ap (λ (k : ℕ). find (covers k) spans) same ∙ leads))) in
          rw (off, get_other files z.file y.file (replaced f ((x.stripe - f.file.first) * shape.n + x.row) x) other) refl
    ])

-- the files with another receipt are kept, and are the same but for it
pub record IsReplaced (shape : Shape) (files new : List FileSeen) (led : List ℕ → Option ℕ) (spans : List Span) (x : ReceiptState) : Type 0 where
  pub are : AreFiles shape new led spans
  pub same : map (λ f. f.file) new ≡ map (λ f. f.file) files
  pub receipts : (s : ℕ) → receipts_in shape.n (reverse new) s ≡ with_receipt x s (receipts_in shape.n (reverse files) s)

pub replacing : (shape : Shape) (files : List FileSeen) (led : List ℕ → Option ℕ) (spans : List Span) (z : Span) (f g : FileSeen) (x : ReceiptState) → AreFiles shape files led spans
    → find (covers x.stripe) spans ≡ Some z → f ≡ get_or files z.file f → g ≡ replaced f ((x.stripe - f.file.first) * shape.n + x.row) x
    → IsSome (slice_get (receipts_in shape.n (reverse files) x.stripe) x.row) → IsReplaced shape files (set files z.file g) led spans x
replacing shape files led spans z f g x are leads is put there =
    let k : ℕ = (x.stripe - f.file.first) * shape.n + x.row in
    let new : List FileSeen = set files z.file (replaced f k x) in
    let same : map (λ h. h.file) new ≡ map (λ h. h.file) files = files-same files z.file k f x is in
    let has : HasStripe shape files x.stripe z.file f = span-leads shape files led spans x.stripe z f are leads is in
    let kept : AreFiles shape new led spans =
    files-replaced shape files new led spans are same (length-set files z.file (replaced f k x)) (each-replaced shape files z.file k f x are.each has.place.kept) in
    subst (λ (h : FileSeen). IsReplaced shape files (set files z.file h) led spans x) (sym put)
    (record {
      are = kept;
      same = same;
      receipts = receipts-replaced shape files led spans z f x are leads is (row-within shape.n x.stripe x.row (reverse files) there) kept;
    })

-- where there is a stripe, there are its rows
pub rows-stripe : (shape : Shape) (s : ℕ) (files : List FileSeen) → is_some (file_with files s) ≡ true → shape.n ≤ rows_stored shape files
rows-stripe shape s files there =
    let one : 1 * shape.n ≤ stripes_stored files * shape.n = mul-le-mul_right shape.n (some files there) in
    omega (arith, one)
  where
    some : (xs : List FileSeen) → is_some (file_with xs s) ≡ true → 1 ≤ stripes_stored xs
    some [] is = absurd (false≢true is)
    some (f ∷ xs) is = by (has_number s f) refl is (some xs) where
      by : (b : Bool) → has_number s f ≡ b → is_some (cond b (Some f) (file_with xs s)) ≡ true → (is_some (file_with xs s) ≡ true → 1 ≤ stripes_stored xs) → 1 ≤ stripes_stored (f ∷ xs)
      by true has is more =
          let both : (nat_le f.file.first s ≡ true) × (nat_lt s (f.file.first + f.file.stripes) ≡ true) = and_parts (nat_le f.file.first s) (nat_lt s (f.file.first + f.file.stripes)) has in
          omega (arith, sum_by-cons (λ (g : FileSeen). g.file.stripes) f xs, leb-true f.file.first s both.0, ltb-true s (f.file.first + f.file.stripes) both.1)
      by false has is more = omega (arith, sum_by-cons (λ (g : FileSeen). g.file.stripes) f xs, more is)
