use Rattle.std.proofs.Common.{◌≡◌, ℕ, ◌+◌, ◌≤◌, List, ◌++◌, length, take, sym, ◌∙◌, ap, append_assoc, subst, Result, Ok, Err, IfOk}
use Rattle.std.proofs.Math.Seq.{take-append-add}
use Rattle.std.proofs.lemmas.List.{take-append-le}

-- the front of what follows a list of this length
pub take_behind : (n m : ℕ) (xs ys : List ℕ) → length xs ≡ n → take (n + m) (xs ++ ys) ≡ xs ++ take m ys
take_behind n m xs ys long = subst (λ (k : ℕ). take (k + m) (xs ++ ys) ≡ xs ++ take m ys) long (take-append-add xs ys m)

-- what came so far and what is left, after a piece
pub gathered : (n m : ℕ) (front piece behind before after : List ℕ) → length front ≡ n → m ≤ length piece → before ≡ take m piece ++ after
    → take (n + m) (front ++ (piece ++ behind)) ++ after ≡ front ++ before
gathered n m front piece behind before after long within came =
    ap (λ (xs : List ℕ). xs ++ after) (take_behind n m front (piece ++ behind) long ∙ ap (λ (xs : List ℕ). front ++ xs) (take-append-le m piece behind within))
    ∙ append_assoc front (take m piece) after
    ∙ ap (λ (xs : List ℕ). front ++ xs) (sym came)

-- the same of a read that may have failed
pub gathered_where_ok : {E : Type 0} (r : Result ℕ E) (n : ℕ) (front piece behind before after : List ℕ) → length front ≡ n
    → IfOk r (λ m. m ≤ length piece) → IfOk r (λ m. before ≡ take m piece ++ after)
    → IfOk r (λ m. take (n + m) (front ++ (piece ++ behind)) ++ after ≡ front ++ before)
gathered_where_ok (Ok m) n front piece behind before after long within came = gathered n m front piece behind before after long within came
gathered_where_ok (Err e) n front piece behind before after long within came = tt
