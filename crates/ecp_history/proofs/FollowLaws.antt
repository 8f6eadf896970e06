-- An entry follows the earlier entries of its caller.
use Rattle.std.proofs.Common.{◌≡◌, ℕ, zero, suc, ◌+◌, ◌<◌, ◌≤◌, Bool, true, false, cond, List, [], ◌∷◌, ◌++◌, Option, Some, ◌∙◌, ap, arith, subst, sym}
use Rattle.std.specs.Prelude.{slice_get, nat_lt, unwrap_or}
use Rattle.std.specs.List.{list_any}
use Rattle.std.proofs.lemmas.Bool.Decides.{nat_tests}
use Rattle.std.proofs.lemmas.Bool.{false≢true}
use Rattle.ecp_entry.specs.declared.entry.Entry.{Entry}
use Rattle.ecp_entry.specs.declared.part.Part.TheVariants as part
use Rattle.ecp_shape.specs.declared.shape.Shape.{Shape}
use Rattle.ecp_entry.specs.Entries.{is_same_call}
use Rattle.ecp_history.specs.Follows.{after_last, is_same_caller, after_part, follows}
use Rattle.ecp_history.specs.Parts.{PartFits}
use Rattle.ecp_history.specs.Legal.{IsLegal}
use Rattle.ecp_history.proofs.LegalLaws.{last_follows}

-- one more entry in front
after_last_one : (j n : ℕ) (b : Bool) → j < n → suc j < cond (nat_lt 0 n) (n + 1) (cond b 1 0)
after_last_one j n b h =
    let some : nat_lt 0 n ≡ true = grind (arith, nat_tests) in
    rw some (omega arith)

-- an entry in front that passes
first_last : (n : ℕ) (b : Bool) → b ≡ true → 0 < cond (nat_lt 0 n) (n + 1) (cond b 1 0)
first_last n true h = elim (nat_lt 0 n) as (λ v. 0 < cond v (n + 1) 1) [ true ↦ omega arith | false ↦ omega arith ]
first_last n false h = cc

-- an entry that passes stands before the place after the last that does
pub before_last : (test : Entry → Bool) (before : List Entry) (j : ℕ) (x : Entry) → slice_get before j ≡ Some x → test x ≡ true → j < after_last test before
before_last test [] j x here passes = cc
before_last test (y ∷ before) zero x here passes = first_last (after_last test before) (test y) (ap test (ap (λ (o : Option Entry). unwrap_or o x) here) ∙ passes)
before_last test (y ∷ before) (suc j) x here passes = after_last_one j (after_last test before) (test y) (before_last test before j x here passes)

-- the one entry of a call has its point behind each earlier entry of its caller
pub point_behind : (shape : Shape) (told : Bool) (before : List Entry) (e x : Entry) (j : ℕ) → IsLegal shape told (before ++ e ∷ []) → e.line.part ≡ part.End
    → list_any (is_same_call e) before ≡ false → slice_get before j ≡ Some x → is_same_caller e x ≡ true → j < e.line.point
point_behind shape told before e x j legal ends alone here same =
    let late : follows before e ≤ e.line.point = (last_follows shape told before e legal).point.late in
    let is : follows before e ≡ after_last (is_same_caller e) before =
    ap (after_part before e) ends ∙ ap (λ (b : Bool). cond b (after_last (is_same_call e) before) (after_last (is_same_caller e) before)) alone in
    let first : j < after_last (is_same_caller e) before = before_last (is_same_caller e) before j x here same in
    omega (arith, late, is, first)

-- part 0 of a call stands before all others of it
pub begins_once : (shape : Shape) (told : Bool) (before : List Entry) (e : Entry) → e.line.part ≡ part.Part 0 → list_any (is_same_call e) before ≡ true
    → IsLegal shape told (before ++ e ∷ []) → ⊥
begins_once shape told before e first has legal =
    false≢true (sym (subst (PartFits shape before e) first (last_follows shape told before e legal).part) ∙ has)
