-- The literal has zeros, and 1 was written at its place.
use Rattle.std.proofs.Common.{replicate, sym, ◌∙◌, inl, inr}
use Rattle.std.proofs.lemmas.Bool.{cases_eq}
use Rattle.std.proofs.lemmas.List.{get_or-set_same, get_or-set_other}
use Rattle.ecp_inverse.proofs.RowZeros.{zeros_at}
use Rattle.ecp_inverse.proofs.Totals.{identity-same, identity-other}
use Rattle.ecp_inverse.proofs.rows.unit_row.Goals as goal

pub returns : goal.returns
returns c = λ j lt.
    let place = c.args.place in
    elim (cases_eq j place) [
      | inl same ↦ rw same (get_or-set_same (replicate 16 0) place 1 0 c.requires ∙ sym (identity-same place))
      | inr other ↦ get_or-set_other (replicate 16 0) place j 1 0 other ∙ zeros_at 16 j ∙ sym (identity-other place j (λ e. other (sym e)))
    ]
