-- The decimal spelling of a number.
use Rattle.std.proofs.Common.{◌≡◌, ◌≢◌, ℕ, Bool, false, nat_eq, ◌<◌, ◌^◌, List, Option, Result, Ok, Err, IfNone, decimal, sym, subst, ◌∙◌, ap, arith}
use Rattle.std.specs.Result.{OkIff, result_ok}
use Rattle.std.specs.Str.{IsUtf8}
use Rattle.std.specs.Cmp.Lexicographic.{other_text}
use lib.Pointwise.{pointwise}
use Rattle.std.specs.Str.Parse.{ParsesUnsigned}
use Rattle.std.proofs.lemmas.Str.{IsUtf8-from_ascii}
use Rattle.std.proofs.lemmas.Fmt.{IsAscii-decimal, parse-decimal, decimal_injective}

-- a spelling is text
pub IsUtf8-decimal : (n : ℕ) (text : List ℕ) → n < 2 ^ 64 → text ≡ decimal n → IsUtf8 text
IsUtf8-decimal n text lt e = rw e (IsUtf8-from_ascii (decimal n) (IsAscii-decimal n (omega arith)))

-- a spelling is parsed
pub parses : {E : Type 0} (n : ℕ) (text : List ℕ) (r : Result ℕ E) → n < 2 ^ 64 → text ≡ decimal n → ParsesUnsigned 64 10 text r → r ≡ Ok n
parses n text r lt e h = parse-decimal 64 n text r lt (omega arith) e h

-- two numbers have two spellings
pub same_number : (m n : ℕ) → m < 2 ^ 32 → n < 2 ^ 32 → decimal m ≡ decimal n → m ≡ n
same_number m n a b e = decimal_injective m n (omega arith) (omega arith) e

abbrev pub ok_of : {E : Type 0} → ℕ → Result ℕ E
ok_of n = Ok n

-- a text that is not what its number prints is no spelling of it
pub prints : {E : Type 0} (n found : ℕ) (text printed : List ℕ) (r : Bool) → ok_of {E = E} found ≡ ok_of n → text ≡ decimal n → printed ≡ decimal found → r ≡ false → r ≡ pointwise nat_eq printed text → ⊥
prints n found text printed r same e p f h =
    let k : found ≡ n = cc in
    other_text printed text (sym f ∙ h) (p ∙ ap decimal k ∙ sym e)

-- a number that does not fit 32 bits has another spelling than each one that does
pub narrowed : {E : Type 0} (n : ℕ) (text : List ℕ) (r : Result ℕ E) (found : Option ℕ) → n < 2 ^ 64 → text ≡ decimal n → OkIff r (n < 2 ^ 32) n → found ≡ result_ok r
    → IfNone found ((k : ℕ) → k < 2 ^ 32 → text ≢ decimal k)
narrowed n text (Ok x) found lt e h is = subst (λ (o : Option ℕ). IfNone o ((k : ℕ) → k < 2 ^ 32 → text ≢ decimal k)) (sym is) tt
narrowed n text (Err x) found lt e h is =
    subst (λ (o : Option ℕ). IfNone o ((k : ℕ) → k < 2 ^ 32 → text ≢ decimal k)) (sym is) (λ k low f. h (subst (λ (m : ℕ). m < 2 ^ 32) (decimal_injective k n (omega arith) lt (sym f ∙ e)) low))
