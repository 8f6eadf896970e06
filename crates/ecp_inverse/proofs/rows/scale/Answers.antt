-- One row is written, and the others stay.
use Rattle.std.proofs.Common.{[], get_or, ap, ◌∙◌, arith}
use Rattle.std.proofs.lemmas.List.{get_or-set_same, get_or-set_other}
use Rattle.ecp_inverse.proofs.rows.scale.Goals as goal

pub returns : goal.returns
returns c =
    let rows = c.args.rows.now in
    let t = c.args.row in
    let row = c.scale_row.new.row in
    record {
      scaled_row = λ j lt. ap (λ r. get_or r j 0) (get_or-set_same rows t row [] (omega (arith, c.told-rows))) ∙ c.scale_row.ensures j lt;
      other_rows = λ i j other. ap (λ r. get_or r j 0) (get_or-set_other rows t i row [] other);
    }
