-- The entries of one call: its parts, and the entry that ends it.
use Rattle.std.proofs.Common.{◌≡◌, ℕ, zero, suc, ◌+◌, ◌<◌, ◌≤◌, nat_lt, Bool, true, false, cond, List, [], ◌∷◌, ◌++◌, length, map, Some, inl, inr, refl, sym, ◌∙◌, ap, arith}
use Rattle.std.specs.Prelude.{find, count_by, flat_map, slice_get}
use Rattle.std.specs.List.{AllByRecursion, range_with_len}
use Rattle.std.specs.Option.{option_map_or}
use Rattle.std.proofs.lemmas.Bool.{false≢true, cases_lt, eq-eqb, le-ltb, lt-ltb, ne_eqb}
use Rattle.std.proofs.lemmas.List.Sums.{sum_by-cons}
use Rattle.std.proofs.lemmas.Option.{same_Some}
use Rattle.ecp_cluster.specs.Whole.{AreParts, count_in, last_act, len_in, opened_bytes, opened_count}
use Rattle.ecp_entry.specs.declared.act.Act.{Act}
use Rattle.ecp_entry.specs.declared.entry.Entry.{Entry}
use Rattle.ecp_entry.specs.declared.part.Part.{Part}
use Rattle.ecp_entry.specs.declared.part.Part.TheVariants as part
use Rattle.ecp_entry.specs.Entries.{is_numbered}
use Rattle.ecp_history.specs.Spans.{is_end}
use Rattle.ecp_service.specs.Serves.{part_count}
use Rattle.ecp_service.proofs.served.Lists.{one_if}

-- the entries of a call, in the order in which they stand
pub record CallEntries : Type 0 where
  pub parts : List Entry
  pub last : Entry

abbrev pub entries_of : CallEntries → List Entry
entries_of g = g.parts ++ g.last ∷ []

-- those of calls, one after another
abbrev pub all_entries : List CallEntries → List Entry
all_entries gs = flat_map entries_of gs

-- the end of each
abbrev pub ends_of : List CallEntries → List Entry
ends_of gs = map (λ g. g.last) gs

-- whether an entry ends its call, and whether it is the part of this number
abbrev pub ended : Entry → Bool
ended e = is_end e.line.part

abbrev pub numbered : ℕ → Entry → Bool
numbered j e = is_numbered j e.line.part

-- none of these ends its call
abbrev pub NoEnds : List Entry → Type 0
NoEnds es = AllByRecursion (λ e. ended e ≡ false) es

-- how many blocks the file has that part 0 of these opens
abbrev pub opened_of : List Entry → ℕ
opened_of parts = option_map_or (λ e. opened_count e.line.act) (find (numbered 0) parts) 0

-- each part is there once that an end by this act asks for, in any order, and no other
abbrev pub AreAsked : List Entry → Act → Type 0
AreAsked parts act = (j : ℕ) → count_by (numbered j) parts ≡ one_if (nat_lt j (part_count (opened_of parts) act))

-- the end has no number
pub end_unnumbered : (j : ℕ) (e : Entry) → ended e ≡ true → numbered j e ≡ false
end_unnumbered j e is = either e.line.part is where
  either : (p : Part) → is_end p ≡ true → is_numbered j p ≡ false
  either part.End last = refl
  either (part.Part i) last = absurd (false≢true last)

-- the end stands behind all parts
pub ends_last : (parts : List Entry) (last : Entry) (i : ℕ) (e : Entry) → NoEnds parts → slice_get (parts ++ last ∷ []) i ≡ Some e → ended e ≡ true → length parts ≤ i
ends_last [] last i e none here is = omega arith
ends_last (x ∷ parts) last zero e none here is = absurd (false≢true (sym none.0 ∙ ap ended (same_Some x e here) ∙ is))
ends_last (x ∷ parts) last (suc i) e none here is = let rest : length parts ≤ i = ends_last parts last i e none.1 here is in omega (arith, rest)

-- ---- parts that stand in their order

no_more : (n : ℕ) → n ≡ n + 0
no_more n = omega arith

later : (i k : ℕ) → suc i + k ≡ i + suc k
later i k = omega arith

pub parts_unended : (i : ℕ) (parts : List Entry) → AreParts i parts → NoEnds parts
parts_unended i [] are = tt
parts_unended i (e ∷ parts) are = (ap is_end are.0, parts_unended (suc i) parts are.1)

-- the first has its number, and no other
first_is : (i : ℕ) (e : Entry) → e.line.part ≡ part.Part i → numbered (i + 0) e ≡ true
first_is i e is = ap (is_numbered (i + 0)) is ∙ eq-eqb i (i + 0) (no_more i)

first_not : (i k : ℕ) (e : Entry) → e.line.part ≡ part.Part i → numbered (i + suc k) e ≡ false
first_not i k e is = ap (is_numbered (i + suc k)) is ∙ ne_eqb i (i + suc k) (λ same. omega (arith, same))

-- a part is found at its place
found_part : (i j : ℕ) (parts : List Entry) → AreParts i parts → find (numbered (i + j)) parts ≡ slice_get parts j
found_part i j [] are = refl
found_part i zero (e ∷ parts) are = ap (λ (b : Bool). cond b (Some e) (find (numbered (i + 0)) parts)) (first_is i e are.0)
found_part i (suc k) (e ∷ parts) are =
    ap (λ (b : Bool). cond b (Some e) (find (numbered (i + suc k)) parts)) (first_not i k e are.0)
    ∙ ap (λ (n : ℕ). find (numbered n) parts) (sym (later i k))
    ∙ found_part (suc i) k parts are.1

from_none : (j : ℕ) → j ≡ 0 + j
from_none j = omega arith

pub find_part : (j : ℕ) (parts : List Entry) → AreParts 0 parts → find (numbered j) parts ≡ slice_get parts j
find_part j parts are = ap (λ (n : ℕ). find (numbered n) parts) (from_none j) ∙ found_part 0 j parts are

-- and counts once
none_before : (i j : ℕ) (parts : List Entry) → AreParts i parts → j < i → count_by (numbered j) parts ≡ 0
none_before i j [] are less = refl
none_before i j (e ∷ parts) are less =
    let this : numbered j e ≡ false = ap (is_numbered j) are.0 ∙ ne_eqb i j (λ same. omega (arith, same, less)) in
    let rest : count_by (numbered j) parts ≡ 0 = none_before (suc i) j parts are.1 (omega (arith, less)) in
    sum_by-cons (λ (x : Entry). one_if (numbered j x)) e parts ∙ ap (λ (b : Bool). one_if b + count_by (numbered j) parts) this ∙ ap (λ (n : ℕ). 0 + n) rest

both_more : (k n : ℕ) → nat_lt k n ≡ nat_lt (suc k) (suc n)
both_more k n = elim (cases_lt k n) [
  | inl less ↦ lt-ltb k n less ∙ sym (lt-ltb (suc k) (suc n) (omega (arith, less)))
  | inr most ↦ le-ltb k n most ∙ sym (le-ltb (suc k) (suc n) (omega (arith, most)))
]

counted_part : (i j : ℕ) (parts : List Entry) → AreParts i parts → count_by (numbered (i + j)) parts ≡ one_if (nat_lt j (length parts))
counted_part i j [] are = sym (ap one_if (le-ltb j 0 (omega arith)))
counted_part i zero (e ∷ parts) are =
    let rest : count_by (numbered (i + 0)) parts ≡ 0 = none_before (suc i) (i + 0) parts are.1 (omega arith) in
    sum_by-cons (λ (x : Entry). one_if (numbered (i + 0) x)) e parts
    ∙ ap (λ (b : Bool). one_if b + count_by (numbered (i + 0)) parts) (first_is i e are.0)
    ∙ ap (λ (n : ℕ). 1 + n) rest
    ∙ sym (ap one_if (lt-ltb 0 (suc (length parts)) (omega arith)))
counted_part i (suc k) (e ∷ parts) are =
    sum_by-cons (λ (x : Entry). one_if (numbered (i + suc k) x)) e parts
    ∙ ap (λ (b : Bool). one_if b + count_by (numbered (i + suc k)) parts) (first_not i k e are.0)
    ∙ sym (from_none (count_by (numbered (i + suc k)) parts))
    ∙ ap (λ (n : ℕ). count_by (numbered n) parts) (sym (later i k))
    ∙ counted_part (suc i) k parts are.1
    ∙ ap one_if (both_more k (length parts))

pub count_part : (j : ℕ) (parts : List Entry) → AreParts 0 parts → count_by (numbered j) parts ≡ one_if (nat_lt j (length parts))
count_part j parts are = ap (λ (n : ℕ). count_by (numbered n) parts) (from_none j) ∙ counted_part 0 j parts are

-- ---- what they say

pub first_count : (parts : List Entry) → option_map_or (λ e. opened_count e.line.act) (slice_get parts 0) 0 ≡ count_in parts
first_count [] = refl
first_count (e ∷ parts) = refl

pub first_len : (parts : List Entry) → option_map_or (λ e. opened_bytes e.line.act) (slice_get parts 0) 0 ≡ len_in parts
first_len [] = refl
first_len (e ∷ parts) = refl

pub last_is : (parts : List Entry) (m : ℕ) (act other : Act) → length parts ≡ suc m → option_map_or (λ e. e.line.act) (slice_get parts m) act ≡ last_act other parts
last_is [] m act other long = absurd (omega (arith, long))
last_is (e ∷ []) zero act other long = refl
last_is (e ∷ x ∷ parts) zero act other long = absurd (omega (arith, long))
last_is (e ∷ parts) (suc m) act other long = last_is parts m act e.line.act (omega (arith, long))

-- the bytes of all parts, by their places
pub bytes_of : (f : ℕ → List ℕ) (a : ℕ) (parts : List Entry) → ((j : ℕ) → f (a + j) ≡ option_map_or (λ e. e.bytes) (slice_get parts j) [])
    → flat_map f (range_with_len a (length parts)) ≡ flat_map (λ e. e.bytes) parts
bytes_of f a [] are = refl
bytes_of f a (e ∷ parts) are =
    ap (λ (xs : List ℕ). xs ++ flat_map f (range_with_len (a + 1) (length parts))) (ap f (no_more a) ∙ are 0)
    ∙ ap (λ (xs : List ℕ). e.bytes ++ xs) (bytes_of f (a + 1) parts (λ j. ap f (next a j) ∙ are (suc j)))
  where
    next : (x y : ℕ) → x + 1 + y ≡ x + suc y
    next x y = omega arith
