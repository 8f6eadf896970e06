use Rattle.std.proofs.Common.{◌≡◌, ℕ, ◌+◌, List, [], ◌∷◌, ◌++◌, length, Some, refl, sym, ◌∙◌, ap, subst, arith, length-append, inl, inr}
use Rattle.std.specs.Prelude.{◌⊎◌, slice_get}
use Rattle.std.proofs.lemmas.Option.{slice_get_within}
use Rattle.std.proofs.lemmas.Slice.{pushed}
use Rattle.ecp_node.specs.Receipts.{ReceiptState}
use Rattle.ecp_history.proofs.LegalLaws.{get_split}
use Rattle.ecp_coord.specs.declared.reservation.Reservation.{Reservation}
use Rattle.ecp_coord.specs.OneByte.{AreRowsOf, IsRowOf}
use Rattle.ecp_coord.proofs.tests.worked.rows_of.Goals as goal

none : {N : Type 0} (res : Reservation N) (xs : List ReceiptState) → xs ≡ [] → AreRowsOf res 0 xs
none res xs is = record {
  count = ap (λ (ys : List ReceiptState). length ys) is;
  each = λ r x here. absurd (let within = slice_get_within [] r x (ap (λ (ys : List ReceiptState). slice_get ys r) (sym is) ∙ here) in omega (arith, within));
}

more : {N : Type 0} (res : Reservation N) (n : ℕ) (xs : List ReceiptState) (x : ReceiptState) → AreRowsOf res n xs → IsRowOf res n x → AreRowsOf res (n + 1) (xs ++ x ∷ [])
more res n xs x are is = record {
  count = length-append xs (x ∷ []) ∙ ap (λ (m : ℕ). m + 1) are.count;
  each = λ r y here. either r y (get_split xs x r y here);
} where
  either : (r : ℕ) (y : ReceiptState) → (slice_get xs r ≡ Some y) ⊎ ((r ≡ length xs) × (x ≡ y)) → IsRowOf res r y
  either r y (inl before) = are.each r y before
  either r y (inr last) = subst (λ (k : ℕ). IsRowOf res k y) (sym (last.0 ∙ are.count)) (subst (IsRowOf res n) last.1 is)

pub loop-row-init : goal.loop-row-init
loop-row-init g c = none c.args.res.now _ c.in_ok-rows.ensures.items

pub loop-row-preserved : goal.loop-row-preserved
loop-row-preserved g c =
    let x : ReceiptState = c.in_ok-row_of.field-0 in
    let items : c.push.new.self.items ≡ c.loop-row.rows.items ++ x ∷ [] = pushed {xs = c.loop-row.rows.items} _ refl c.in_ok-push.was c.push.ensures.items in
    subst (AreRowsOf c.args.res.now (c.loop-row.row + 1)) (sym items) (more c.args.res.now c.loop-row.row c.loop-row.rows.items x c.loop-row.invariant c.in_ok-row_of.ensures)

pub returns : goal.returns
returns g c =
    let whole : c.loop-row.row ≡ c.args.n = omega (arith, c.loop-row-test.false, c.loop-row.auto.row-end) in
    subst (λ (m : ℕ). AreRowsOf c.args.res.now m c.loop-row.rows.items) whole c.loop-row.invariant
