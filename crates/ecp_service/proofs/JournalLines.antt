use Rattle.std.proofs.Common.{◌≡◌, ℕ, zero, suc, ◌+◌, List, [], ◌∷◌, ◌++◌, drop, Option, Some, ap, sym, ◌∙◌, arith}
use Rattle.std.specs.Prelude.{slice_get, unwrap_or}
use Rattle.ecp_entry.specs.declared.line.Line.{Line}
use Rattle.ecp_entry.specs.JournalText.{journal_line}
use Rattle.ecp_service.specs.RunLines.{lines_from}

-- the list from a place on begins with what stands there
pub drop_get : {X : Type 0} (xs : List X) (i : ℕ) (x : X) → slice_get xs i ≡ Some x → drop i xs ≡ x ∷ drop (i + 1) xs
drop_get [] i x h = cc
drop_get {X} (y ∷ ys) zero x h = ap (λ (o : Option X). unwrap_or o y ∷ ys) h
drop_get {X} (y ∷ ys) (suc i) x h =
    let next : suc i + 1 ≡ suc (i + 1) = omega arith in
    drop_get ys i x h ∙ ap (λ (n : ℕ). x ∷ drop n (y ∷ ys)) (sym next)

-- the lines from a position on are the line there and the lines behind it
pub lines_step : (lines : List Line) (at : ℕ) (line : Line) → slice_get lines at ≡ Some line
    → lines_from at (drop at lines) ≡ journal_line at line ++ lines_from (at + 1) (drop (at + 1) lines)
lines_step lines at line h = ap (lines_from at) (drop_get lines at line h)
