-- A text, split at its line ends.
use Rattle.std.proofs.Common.{◌≡◌, ℕ, ◌==◌, Bool, true, false, cond, List, [], ◌∷◌, ◌++◌, refl, sym, ◌∙◌, ap, append_assoc}
use Rattle.std.specs.Prelude.{flat_map}
use Rattle.std.specs.List.{list_any, list_all}
use Rattle.std.proofs.lemmas.Bool.{and_left, and_right, or_parts}

-- a byte in front of the first line
abbrev onto : ℕ → List (List ℕ) → List (List ℕ)
onto c [] = (c ∷ []) ∷ []
onto c (line ∷ lines) = (c ∷ line) ∷ lines

-- the lines of a text, the last of which has no end
abbrev pub lines_of : List ℕ → List (List ℕ)
lines_of [] = [] ∷ []
lines_of (c ∷ cs) = cond (c == 10) ([] ∷ lines_of cs) (onto c (lines_of cs))

-- the text has no line end
abbrev pub NoEnd : List ℕ → Type 0
NoEnd text = list_any (λ c. c == 10) text ≡ false

pub lines_of-one : (text : List ℕ) → NoEnd text → lines_of text ≡ text ∷ []
lines_of-one [] none = refl
lines_of-one (c ∷ text) none =
    let parts : (c == 10 ≡ false) × NoEnd text = or_parts (c == 10) (list_any (λ x. x == 10) text) none in
    rw parts.0 (ap (onto c) (lines_of-one text parts.1))

-- there is some line
data HasLine : List (List ℕ) → Type 0 where
  one_more : {line : List ℕ} {lines : List (List ℕ)} → HasLine (line ∷ lines)

has_line : (text : List ℕ) → HasLine (lines_of text)
has_line [] = one_more
has_line (c ∷ cs) = either (c == 10) (lines_of cs) where
  either : (b : Bool) (ls : List (List ℕ)) → HasLine (cond b ([] ∷ ls) (onto c ls))
  either true ls = one_more
  either false [] = one_more
  either false (l ∷ ls) = one_more

onto-append : (c : ℕ) (ls ms : List (List ℕ)) → HasLine ls → onto c (ls ++ ms) ≡ onto c ls ++ ms
onto-append c [] ms h = absurd (elim h [ ])
onto-append c (l ∷ ls) ms h = refl

-- what stands before a line end, and what stands behind it
pub lines_of-append : (xs ys : List ℕ) → lines_of (xs ++ 10 ∷ ys) ≡ lines_of xs ++ lines_of ys
lines_of-append [] ys = refl
lines_of-append (c ∷ cs) ys = either (c == 10) (lines_of-append cs ys) where
  either : (b : Bool) → lines_of (cs ++ 10 ∷ ys) ≡ lines_of cs ++ lines_of ys
      → cond b ([] ∷ lines_of (cs ++ 10 ∷ ys)) (onto c (lines_of (cs ++ 10 ∷ ys))) ≡ cond b ([] ∷ lines_of cs) (onto c (lines_of cs)) ++ lines_of ys
  either true rest = ap (λ (ls : List (List ℕ)). [] ∷ ls) rest
  either false rest = ap (onto c) rest ∙ onto-append c (lines_of cs) (lines_of ys) (has_line cs)

-- ---- whole lines

-- the text is of whole lines: what stands behind it has lines of its own
pub record IsWhole (text : List ℕ) : Type 0 where
  pub lines : List (List ℕ)
  pub apart : (rest : List ℕ) → lines_of (text ++ rest) ≡ lines ++ lines_of rest

pub whole_none : IsWhole []
whole_none = record { lines = []; apart = λ rest. refl }

pub whole_line : (text : List ℕ) → IsWhole (text ++ 10 ∷ [])
whole_line text = record {
  lines = lines_of text;
  apart = λ rest. ap lines_of (append_assoc text (10 ∷ []) rest) ∙ lines_of-append text rest;
}

pub whole_append : (xs ys : List ℕ) → IsWhole xs → IsWhole ys → IsWhole (xs ++ ys)
whole_append xs ys first second = record {
  lines = first.lines ++ second.lines;
  apart = λ rest.
      ap lines_of (append_assoc xs ys rest)
      ∙ first.apart (ys ++ rest)
      ∙ ap (λ (ls : List (List ℕ)). first.lines ++ ls) (second.apart rest)
      ∙ sym (append_assoc first.lines second.lines (lines_of rest));
}

pub whole_each : {X : Type 0} (f : X → List ℕ) (xs : List X) → ((x : X) → IsWhole (f x)) → IsWhole (flat_map f xs)
whole_each f [] each = whole_none
whole_each f (x ∷ xs) each = whole_append (f x) (flat_map f xs) (each x) (whole_each f xs each)

-- ---- what stands behind the last line that fails a test

abbrev pub behind_last : (List ℕ → Bool) → List (List ℕ) → List (List ℕ)
behind_last test [] = []
behind_last test (line ∷ lines) = cond (list_all test (line ∷ lines)) (line ∷ lines) (behind_last test lines)

fails : (test : List ℕ → Bool) (before : List (List ℕ)) (line : List ℕ) (lines : List (List ℕ)) → test line ≡ false → list_all test (before ++ line ∷ lines) ≡ false
fails test [] line lines off = and_left (test line) (list_all test lines) off
fails test (x ∷ before) line lines off = and_right (test x) (list_all test (before ++ line ∷ lines)) (fails test before line lines off)

behind_all : (test : List ℕ → Bool) (lines : List (List ℕ)) → list_all test lines ≡ true → behind_last test lines ≡ lines
behind_all test [] each = refl
behind_all test (line ∷ lines) each = ap (λ (b : Bool). cond b (line ∷ lines) (behind_last test lines)) each

pub behind_last-is : (test : List ℕ → Bool) (before : List (List ℕ)) (line : List ℕ) (lines : List (List ℕ)) → test line ≡ false → list_all test lines ≡ true
    → behind_last test (before ++ line ∷ lines) ≡ lines
behind_last-is test [] line lines off each =
    ap (λ (b : Bool). cond b (line ∷ lines) (behind_last test lines)) (fails test [] line lines off) ∙ behind_all test lines each
behind_last-is test (x ∷ before) line lines off each =
    ap (λ (b : Bool). cond b (x ∷ before ++ line ∷ lines) (behind_last test (before ++ line ∷ lines))) (fails test (x ∷ before) line lines off)
    ∙ behind_last-is test before line lines off each
