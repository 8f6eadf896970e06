-- A row that is its cell times the pivot's row away from 0 in the column.
use Rattle.std.proofs.Common.{◌≡◌, ◌≢◌, ℕ, ◌+◌, ◌<◌, ◌^◌, ap, sym, ◌∙◌, inl, inr, arith}
use Rattle.std.proofs.lemmas.Bool.{cases_eq, cases_lt}
use Rattle.ecp_field.specs.Field.{byte_sum, byte_product}
use Rattle.ecp_field.proofs.FieldLaws.{sum-self, product-one_right}
use Rattle.ecp_inverse.specs.Cells.{entry}
use Rattle.ecp_inverse.proofs.Totals.{identity-same, identity-other}
use Rattle.ecp_inverse.proofs.RowLaws.{SameSolutions-then, IsReduced-added}
use Rattle.ecp_inverse.proofs.system.System.clear_column.Goals as goal

pub loop-row-preserved : goal.loop-row-preserved
loop-row-preserved c =
    let first = c.args.self.now in
    let s = c.loop-row.self in
    let t = c.add.new.self in
    let col = c.args.col in
    let row = c.loop-row.row in
    let inv = c.loop-row.invariant in
    let few = first.in_size in
    let lt : col < 16 = omega arith in
    let w = entry s.left row col in
    let byte : w < 2 ^ 8 = s.left_bytes row col lt in
    record {
      size = c.add.ensures.size ∙ inv.size;
      solutions = SameSolutions-then first.size first.left first.right s.left s.right t.left t.right inv.solutions (rw inv.size at c.add.ensures.solutions);
      reduced = IsReduced-added first.size col s.left t.left row w col few byte (omega arith) c.requires.within c.add.ensures.left inv.reduced;
      one = c.add.ensures.left.other_rows col col (λ e. c.if-row-col.false (sym e)) ∙ inv.one;
      cleared = λ r less apart. elim (cases_eq r row) [
        | inl same ↦ rw same (
            c.add.ensures.left.target_row col lt ∙ ap (λ x. byte_sum w (byte_product w x)) inv.one
            ∙ ap (byte_sum w) (product-one_right w byte) ∙ sum-self w)
        | inr other ↦ c.add.ensures.left.other_rows r col other ∙ inv.cleared r (below r row less other) apart
      ];
    }
  where
    below : (r row : ℕ) → r < row + 1 → r ≢ row → r < row
    below r row less other = elim (cases_eq r row) [ inl same ↦ absurd (other same) | inr ne ↦ omega arith ]

pub returns-clause-reduced : goal.returns-clause-reduced
returns-clause-reduced c = λ i j li lj.
    let inv = c.loop-row.invariant in
    let col = c.args.col in
    elim (cases_lt j col) [
      | inl before ↦ inv.reduced i j li before
      | inr reached ↦
          let at : j ≡ col = omega arith in
          rw at (elim (cases_eq i col) [
            | inl same ↦ rw same (inv.one ∙ sym (identity-same col))
            | inr other ↦ inv.cleared i (omega arith) other ∙ sym (identity-other i col other)
          ])
    ]
