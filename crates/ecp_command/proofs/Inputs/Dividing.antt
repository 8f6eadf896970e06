-- Dividing an input at its first rule, line by line.
use Rattle.std.proofs.Common.{◌≡◌, ◌≢◌, ℕ, ◌+◌, ◌-◌, ◌<◌, ◌≤◌, List, [], ◌∷◌, ◌++◌, length, take, refl, sym, ap, ◌∙◌, append_assoc, arith, length-append}
use Rattle.std.specs.List.{AllByRecursion}
use Rattle.std.proofs.lemmas.List.{append-nil, take_at}
use Rattle.std.proofs.lemmas.Bool.{ne_eqb}
use Rattle.ecp_command.specs.Input.Cuts.{IsClear, IsCut}
use Rattle.ecp_command.specs.Input.Lines.{lines, text_of, rule, numbered, ArePartsOf, HasNoRule}

-- a clear front and a line feed are a line
pub lines_cut : (front rest : List ℕ) → IsClear 10 front → lines (front ++ 10 ∷ rest) ≡ front ∷ lines rest
unfolding lines
lines_cut [] rest clear = refl
lines_cut (b ∷ bs) rest clear = rw (ne_eqb b 10 clear.0, lines_cut bs rest clear.1) refl

-- clear text that is not empty is one line
pub lines_last : (b : ℕ) (bs : List ℕ) → IsClear 10 (b ∷ bs) → lines (b ∷ bs) ≡ (b ∷ bs) ∷ []
unfolding lines
lines_last b [] clear = rw (ne_eqb b 10 clear.0) refl
lines_last b (c ∷ cs) clear = rw (ne_eqb b 10 clear.0, lines_last c cs clear.1) refl

pub text_of-push : (ls : List (List ℕ)) (line : List ℕ) → text_of (ls ++ line ∷ []) ≡ text_of ls ++ (line ++ 10 ∷ [])
text_of-push [] line = append-nil (line ++ 10 ∷ [])
text_of-push (l ∷ ls) line = ap (λ (t : List ℕ). (l ++ 10 ∷ []) ++ t) (text_of-push ls line) ∙ sym (append_assoc (l ++ 10 ∷ []) (text_of ls) (line ++ 10 ∷ []))

pub length-text_of : (ls : List (List ℕ)) → length ls ≤ length (text_of ls)
length-text_of [] = omega arith
length-text_of (l ∷ ls) = omega (arith, length-text_of ls, length-append (l ++ 10 ∷ []) (text_of ls), length-append l (10 ∷ []))

pub All-push : {X : Type 0} (P : X → Type 0) (xs : List X) (x : X) → AllByRecursion P xs → P x → AllByRecursion P (xs ++ x ∷ [])
All-push P [] x all h = (h, tt)
All-push P (y ∷ ys) x all h = (all.0, All-push P ys x all.1 h)

pub All-append : {X : Type 0} (P : X → Type 0) (xs ys : List X) → AllByRecursion P xs → AllByRecursion P ys → AllByRecursion P (xs ++ ys)
All-append P [] ys a b = b
All-append P (x ∷ xs) ys a b = (a.0, All-append P xs ys a.1 b)

-- the lines before the rest, none of them the rule
pub record IsPast (input rest : List ℕ) (number : ℕ) : Type 0 where
  pub before : List (List ℕ)
  pub whole : lines input ≡ before ++ lines rest
  pub text : input ≡ text_of before ++ rest
  pub none : AllByRecursion (λ line. line ≢ rule) before
  pub count : number ≡ length before + 2

pub starts : (input : List ℕ) → IsPast input input 2
starts input = record { before = []; whole = refl; text = refl; none = tt; count = refl }

pub goes_on : (input rest line after : List ℕ) (number : ℕ) → IsPast input rest number → IsCut 10 rest line after → line ≢ rule → IsPast input after (number + 1)
goes_on input rest line after number past c other = record {
  before = past.before ++ line ∷ [];
  whole = past.whole ∙ ap (λ (ls : List (List ℕ)). past.before ++ ls) (ap lines c.whole ∙ lines_cut line after c.clear) ∙ sym (append_assoc past.before (line ∷ []) (lines after));
  text = past.text ∙ ap (λ (t : List ℕ). text_of past.before ++ t) (c.whole ∙ sym (append_assoc line (10 ∷ []) after)) ∙ sym (append_assoc (text_of past.before) (line ++ 10 ∷ []) after) ∙ ap (λ (t : List ℕ). t ++ after) (sym (text_of-push past.before line));
  none = All-push (λ l. l ≢ rule) past.before line past.none other;
  count = omega (arith, past.count, length-append past.before (line ∷ []));
}

-- the text before the rest
pub front_text : (input rest : List ℕ) (number : ℕ) (past : IsPast input rest number) → take (length input - length rest) input ≡ text_of past.before
front_text input rest number past =
    let len : length (text_of past.before) ≡ length input - length rest = omega (arith, ap length past.text, length-append (text_of past.before) rest) in
    ap (λ (t : List ℕ). take (length input - length rest) t) past.text ∙ take_at (text_of past.before) rest (length input - length rest) len

pub ends_at : (input rest line after : List ℕ) (number : ℕ) → IsPast input rest number → IsCut 10 rest line after → line ≡ rule
    → ArePartsOf input (record { head = take (length input - length rest) input; script = numbered number (lines after) })
ends_at input rest line after number past c is = record {
  before = past.before;
  after = lines after;
  whole = past.whole ∙ ap (λ (ls : List (List ℕ)). past.before ++ ls) (ap lines c.whole ∙ lines_cut line after c.clear ∙ ap (λ (l : List ℕ). l ∷ lines after) is);
  first = past.none;
  head = front_text input rest number past;
  script = ap (λ (n : ℕ). numbered n (lines after)) past.count;
}

pub ends_last : (input rest : List ℕ) (number : ℕ) → IsPast input rest number → IsClear 10 rest → rest ≡ rule
    → ArePartsOf input (record { head = take (length input - length rest) input; script = numbered number (lines []) })
unfolding lines
ends_last input rest number past clear is = record {
  before = past.before;
  after = [];
  whole = past.whole ∙ ap (λ (ls : List (List ℕ)). past.before ++ ls) (ap lines is);
  first = past.none;
  head = front_text input rest number past;
  script = refl;
}

pub no_rule : (input rest : List ℕ) (number : ℕ) → IsPast input rest number → IsClear 10 rest → rest ≢ rule → HasNoRule input
unfolding lines
no_rule input [] number past clear other = rw (past.whole, append-nil) past.none
no_rule input (b ∷ bs) number past clear other = rw (past.whole, lines_last b bs clear) (All-push (λ l. l ≢ rule) past.before (b ∷ bs) past.none other)

pub shorter : (rest line after : List ℕ) → IsCut 10 rest line after → length after < length rest
shorter rest line after c = omega (arith, ap length c.whole, length-append line (10 ∷ after))

-- the number leaves room for the rest
pub is_small : (input rest : List ℕ) (number : ℕ) → IsPast input rest number → number + length rest ≤ length input + 2
is_small input rest number past = omega (arith, past.count, length-text_of past.before, ap length past.text, length-append (text_of past.before) rest)

pub room_after : (input rest line after : List ℕ) (number : ℕ) → IsPast input rest number → IsCut 10 rest line after → number + length after ≤ length input + 2
room_after input rest line after number past c = omega (arith, is_small input rest number past, shorter rest line after c)
