-- Different journal lines have different texts.
use Rattle.std.proofs.Common.{◌≡◌, ℕ, ◌+◌, ◌-◌, ◌%◌, ◌^◌, ◌<◌, ◌≤◌, ◌==◌, Bool, true, false, cond, List, [], ◌∷◌, ◌++◌, map, refl, sym, ◌∙◌, ap, arith, le_refl}
use Rattle.std.specs.Prelude.{codes, decimal, nat_lt, slice_index, slice_index_or, drop, All}
use Rattle.std.specs.List.{list_any, list_all, join_with_byte, AllByRecursion}
use Rattle.std.proofs.lemmas.Bool.{and_parts, or_parts, or_from, ne_eqb, ltb-true, false≢true}
use Rattle.std.proofs.lemmas.Bool.Decides.{nat_tests}
use Rattle.std.proofs.lemmas.Fmt.{decimal_by_steps, decimal_injective}
use Rattle.std.proofs.lemmas.List.{append_cancel_right}
use Rattle.std.proofs.lemmas.List.Folds.{list_all-append}
use Rattle.std.proofs.lemmas.List.Elements.{recursion_from_All}
use Rattle.ecp_entry.specs.declared.act.Act.{Act}
use Rattle.ecp_entry.specs.declared.act.Act.TheVariants.{Stored}
use Rattle.ecp_entry.specs.declared.line.Line.{Line}
use Rattle.ecp_entry.specs.declared.part.Part.{Part}
use Rattle.ecp_entry.specs.declared.part.Part.TheVariants as part
use Rattle.ecp_entry.specs.Entries.{act_word, act_numbers, part_numbers}
use Rattle.ecp_entry.specs.JournalText.{caller_word, part_word, act_words, line_words, journal_line, line_numbers}
use Rattle.ecp_entry.specs.ReadBack.{act_from, line_with}
use Rattle.ecp_entry.proofs.EntryLaws.{act_from-words}

-- ---- words and spaces

-- the words behind the first
abbrev pub rest_of : List (List ℕ) → List (List ℕ)
rest_of [] = []
rest_of (word ∷ words) = words

-- each byte of the word is above the space
abbrev pub IsGraphic : List ℕ → Type 0
IsGraphic word = list_all (λ c. nat_lt 32 c) word ≡ true

-- so none of them is a space or a byte below
pub graphic-no_byte : (b : ℕ) (word : List ℕ) → b ≤ 32 → IsGraphic word → list_any (λ c. c == b) word ≡ false
graphic-no_byte b [] low graphic = refl
graphic-no_byte b (c ∷ word) low graphic =
    let parts : (nat_lt 32 c ≡ true) × IsGraphic word = and_parts (nat_lt 32 c) (list_all (λ x. nat_lt 32 x) word) graphic in
    or_from (c == b) (list_any (λ x. x == b) word) (ne_eqb c b (differs (ltb-true 32 c parts.0))) (graphic-no_byte b word low parts.1)
  where
    differs : 32 < c → c ≡ b → ⊥
    differs above is = omega (arith, low, above, is)

-- the word has no space
abbrev pub NoSpace : List ℕ → Type 0
NoSpace word = list_any (λ c. c == 32) word ≡ false

-- a byte in front of the first word
abbrev pub onto : ℕ → List (List ℕ) → List (List ℕ)
onto c [] = (c ∷ []) ∷ []
onto c (word ∷ words) = (c ∷ word) ∷ words

-- a line split at its spaces
abbrev pub split : List ℕ → List (List ℕ)
split [] = [] ∷ []
split (c ∷ cs) = cond (c == 32) ([] ∷ split cs) (onto c (split cs))

split-word : (word rest : List ℕ) → NoSpace word → split (word ++ 32 ∷ rest) ≡ word ∷ split rest
split-word [] rest none = refl
split-word (c ∷ word) rest none =
    let parts : (c == 32 ≡ false) × NoSpace word = or_parts (c == 32) (list_any (λ x. x == 32) word) none in
    rw parts.0 (ap (onto c) (split-word word rest parts.1))

split-last : (word : List ℕ) → NoSpace word → split word ≡ word ∷ []
split-last [] none = refl
split-last (c ∷ word) none =
    let parts : (c == 32 ≡ false) × NoSpace word = or_parts (c == 32) (list_any (λ x. x == 32) word) none in
    rw parts.0 (ap (onto c) (split-last word parts.1))

split-join : (word : List ℕ) (words : List (List ℕ)) → AllByRecursion IsGraphic (word ∷ words) → split (join_with_byte 32 (word ∷ words)) ≡ word ∷ words
split-join word [] graphic = split-last word (graphic-no_byte 32 word (le_refl 32) graphic.0)
split-join word (next ∷ words) graphic =
    split-word word (join_with_byte 32 (next ∷ words)) (graphic-no_byte 32 word (le_refl 32) graphic.0) ∙ ap (λ (ws : List (List ℕ)). word ∷ ws) (split-join next words graphic.1)

-- ---- numbers and words

pub decimal-graphic : (n : ℕ) → n < 2 ^ 64 → IsGraphic (decimal n)
decimal-graphic n small = decimal_by_steps (λ n ds. IsGraphic ds)
    (λ n h. grind (arith, nat_tests))
    (λ n ds h all. list_all-append (λ c. nat_lt 32 c) ds ((48 + n % 10) ∷ []) ∙ rw all (grind (arith, nat_tests)))
    n small

-- the word is of digits
abbrev OfDigits : List ℕ → Type 0
OfDigits word = list_all (λ c. nat_lt c 58) word ≡ true

decimal-digits : (n : ℕ) → n < 2 ^ 64 → OfDigits (decimal n)
decimal-digits n small = decimal_by_steps (λ n ds. OfDigits ds)
    (λ n h. grind (arith, nat_tests))
    (λ n ds h all. list_all-append (λ c. nat_lt c 58) ds ((48 + n % 10) ∷ []) ∙ rw all (digit (n % 10) (mod-lt n)))
    n small where
      mod-lt : (n : ℕ) → n % 10 < 10
      mod-lt n = omega arith

      digit : (d : ℕ) → d < 10 → OfDigits ((48 + d) ∷ [])
      digit d h = grind (arith, nat_tests)

act_word-graphic : (a : Act) → IsGraphic (act_word a)
act_word-graphic (Stored first stripes up) = refl
act_word-graphic _ = refl

-- numbers that fit 32 bits
abbrev pub Small : List ℕ → Type 0
Small ns = AllByRecursion (λ n. n < 2 ^ 32) ns

pub wide : (n : ℕ) → n < 2 ^ 32 → n < 2 ^ 64
wide n h = omega arith

pub decimals-graphic : (ns : List ℕ) → Small ns → AllByRecursion IsGraphic (map decimal ns)
decimals-graphic [] small = tt
decimals-graphic (n ∷ ns) small = (decimal-graphic n (wide n small.0), decimals-graphic ns small.1)

decimals-injective : (ms ns : List ℕ) → Small ms → Small ns → map decimal ms ≡ map decimal ns → ms ≡ ns
decimals-injective [] [] a b same = refl
decimals-injective [] (n ∷ ns) a b same = cc
decimals-injective (m ∷ ms) [] a b same = cc
decimals-injective (m ∷ ms) (n ∷ ns) a b same =
    let first : m ≡ n = decimal_injective m n (wide m a.0) (wide n b.0) (ap (λ (ws : List (List ℕ)). slice_index_or ws 0 []) same) in
    let rest : ms ≡ ns = decimals-injective ms ns a.1 b.1 (ap rest_of same) in
    ap (λ (x : ℕ). x ∷ ms) first ∙ ap (λ (xs : List ℕ). n ∷ xs) rest

caller_word-graphic : (c : ℕ) → c < 2 ^ 32 → IsGraphic (caller_word c)
caller_word-graphic c small = either (nat_lt c 8) where
  either : (b : Bool) → IsGraphic (cond b (codes "s" ++ decimal c) (codes "n" ++ decimal (c - 8)))
  either true = decimal-graphic c (omega arith)
  either false = decimal-graphic (c - 8) (omega arith)

part_word-graphic : (p : Part) → Small (part_numbers p) → IsGraphic (part_word p)
part_word-graphic (part.Part j) small = decimal-graphic j (wide j small.0)
part_word-graphic part.End small = refl

-- ---- what each word tells

letters_differ : (s n : ℕ) → s ≡ 115 → n ≡ 110 → s ≡ n → ⊥
letters_differ s n is_s is_n same = omega arith

caller_word-injective : (a b : ℕ) → a < 2 ^ 32 → b < 2 ^ 32 → caller_word a ≡ caller_word b → a ≡ b
caller_word-injective a b small_a small_b same = from_tests (nat_lt a 8) (nat_lt b 8) refl refl same where
  from_tests : (p q : Bool) → nat_lt a 8 ≡ p → nat_lt b 8 ≡ q
      → cond p (codes "s" ++ decimal a) (codes "n" ++ decimal (a - 8)) ≡ cond q (codes "s" ++ decimal b) (codes "n" ++ decimal (b - 8)) → a ≡ b
  from_tests true true h g e = decimal_injective a b (omega arith) (omega arith) (ap (drop 1) e)
  from_tests true false h g e = absurd (letters_differ 115 110 refl refl (ap (λ (w : List ℕ). slice_index w 0) e))
  from_tests false true h g e = absurd (letters_differ 115 110 refl refl (sym (ap (λ (w : List ℕ). slice_index w 0) e)))
  from_tests false false h g e =
      let low : a - 8 ≡ b - 8 = decimal_injective (a - 8) (b - 8) (omega arith) (omega arith) (ap (drop 1) e) in
      let from_a : 8 ≤ a = grind (arith, nat_tests) in
      let from_b : 8 ≤ b = grind (arith, nat_tests) in
      omega arith

part_word-injective : (p q : Part) → Small (part_numbers p) → Small (part_numbers q) → part_word p ≡ part_word q → p ≡ q
part_word-injective (part.Part i) (part.Part j) a b same = ap (λ (n : ℕ). part.Part n) (decimal_injective i j (wide i a.0) (wide j b.0) same)
part_word-injective (part.Part i) part.End a b same = absurd (false≢true (ap (λ (w : List ℕ). list_all (λ c. nat_lt c 58) w) (sym same) ∙ decimal-digits i (wide i a.0)))
part_word-injective part.End (part.Part j) a b same = absurd (false≢true (ap (λ (w : List ℕ). list_all (λ c. nat_lt c 58) w) same ∙ decimal-digits j (wide j b.0)))
part_word-injective part.End part.End a b same = refl

act_words-injective : (a b : Act) → Small (act_numbers a) → Small (act_numbers b) → act_words a ≡ act_words b → a ≡ b
act_words-injective a b small_a small_b same =
    let word : act_word a ≡ act_word b = ap (λ (ws : List (List ℕ)). slice_index_or ws 0 []) same in
    let numbers : act_numbers a ≡ act_numbers b = decimals-injective (act_numbers a) (act_numbers b) small_a small_b (ap rest_of same) in
    sym (act_from-words a) ∙ ap (λ (w : List ℕ). act_from w (act_numbers a)) word ∙ ap (act_from (act_word b)) numbers ∙ act_from-words b

-- ---- whole lines

-- what is small in two lists is small in each
pub small_parts : (ms ns : List ℕ) → Small (ms ++ ns) → Small ms × Small ns
small_parts [] ns small = (tt, small)
small_parts (m ∷ ms) ns small = let parts = small_parts ms ns small.1 in ((small.0, parts.0), parts.1)

pub line_words-graphic : (at : ℕ) (a : Line) → at < 2 ^ 32 → Small (line_numbers a) → AllByRecursion IsGraphic (line_words at a)
line_words-graphic at a small_at small =
    let parts = small_parts (part_numbers a.part) (act_numbers a.act) small.1.1.1 in (
      decimal-graphic at (wide at small_at),
      (
        caller_word-graphic a.caller small.0,
        (
          decimal-graphic a.call (wide a.call small.1.0),
          (
            part_word-graphic a.part parts.0,
            (
              decimal-graphic a.point (wide a.point small.1.1.0),
              (
                act_word-graphic a.act,
                decimals-graphic (act_numbers a.act) parts.1,
              ),
            ),
          ),
        ),
      ),
    )

-- the line with these words
line_words-injective : (at : ℕ) (a b : Line) → Small (line_numbers a) → Small (line_numbers b) → line_words at a ≡ line_words at b → a ≡ b
line_words-injective at a b small_a small_b same =
    let parts_a = small_parts (part_numbers a.part) (act_numbers a.act) small_a.1.1.1 in
    let parts_b = small_parts (part_numbers b.part) (act_numbers b.act) small_b.1.1.1 in
    let word : (i : ℕ) → slice_index_or (line_words at a) i [] ≡ slice_index_or (line_words at b) i [] = λ i. ap (λ (ws : List (List ℕ)). slice_index_or ws i []) same in
    let caller : a.caller ≡ b.caller = caller_word-injective a.caller b.caller small_a.0 small_b.0 (word 1) in
    let call : a.call ≡ b.call = decimal_injective a.call b.call (wide a.call small_a.1.0) (wide b.call small_b.1.0) (word 2) in
    let part_is : a.part ≡ b.part = part_word-injective a.part b.part parts_a.0 parts_b.0 (word 3) in
    let point : a.point ≡ b.point = decimal_injective a.point b.point (wide a.point small_a.1.1.0) (wide b.point small_b.1.1.0) (word 4) in
    let act : a.act ≡ b.act = act_words-injective a.act b.act parts_a.1 parts_b.1 (ap (drop 5) same) in
    ap (λ (x : ℕ). line_with x a.call a.point a.part a.act) caller
    ∙ ap (λ (x : ℕ). line_with b.caller x a.point a.part a.act) call
    ∙ ap (λ (x : ℕ). line_with b.caller b.call x a.part a.act) point
    ∙ ap (λ (x : Part). line_with b.caller b.call b.point x a.act) part_is
    ∙ ap (line_with b.caller b.call b.point b.part) act

pub journal_line-injective : (at : ℕ) (a b : Line) → at < 2 ^ 32 → All (λ n. n < 2 ^ 32) (line_numbers a) → All (λ n. n < 2 ^ 32) (line_numbers b)
    → journal_line at a ≡ journal_line at b → a ≡ b
journal_line-injective at a b small_at all_a all_b same =
    let small_a : Small (line_numbers a) = recursion_from_All (λ n. n < 2 ^ 32) (line_numbers a) all_a in
    let small_b : Small (line_numbers b) = recursion_from_All (λ n. n < 2 ^ 32) (line_numbers b) all_b in
    let joined : join_with_byte 32 (line_words at a) ≡ join_with_byte 32 (line_words at b) =
    append_cancel_right (join_with_byte 32 (line_words at a)) (join_with_byte 32 (line_words at b)) (10 ∷ []) same in
    line_words-injective at a b small_a small_b
    (sym (split-join (decimal at) (rest_of (line_words at a)) (line_words-graphic at a small_at small_a))
    ∙ ap split joined
    ∙ split-join (decimal at) (rest_of (line_words at b)) (line_words-graphic at b small_at small_b))
