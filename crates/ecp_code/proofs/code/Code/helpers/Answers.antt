use Rattle.std.proofs.Common.{◌≡◌, ◌<◌, set, true, false, nat_lt, ap, ◌∙◌, arith}
use Rattle.std.proofs.lemmas.Bool.Decides.{nat_tests}
use Rattle.ecp_code.proofs.HelperLaws.{other, others_more, others_front}
use Rattle.ecp_code.proofs.code.Code.helpers.Goals as goal
use Rattle.ecp_code.proofs.code.Code.helpers.Goals.{then-i-row, else-i-row}

pub loop-i-preserved : goal.loop-i-preserved
loop-i-preserved c =
    let i = c.loop-i.i in
    let small : i < 16 = omega (arith, c.k-i-end.ensures.k, c.k-i-end.ensures.shape.at_most, c.k-i-end.ensures.shape.parity_rows) in
    let value : c.if-i-row.rows ≡ other c.args.row i = elim c.if-i-row.branch [
      | then-i-row w ↦ let p : nat_lt i c.args.row ≡ true = grind (arith, nat_tests) in rw p w.rows-is
      | else-i-row w ↦ let p : nat_lt i c.args.row ≡ false = grind (arith, nat_tests) in rw p w.rows-is
    ] in
    ap (set c.loop-i.rows i) value ∙ others_more c.args.row c.loop-i.rows i small c.loop-i.invariant

pub returns : goal.returns
returns c =
    let k = c.args.self.now.k in
    let all : c.loop-i.i ≡ k = omega (arith, c.k-i-end.ensures.k) in
    let most : k < 16 = omega (arith, c.k-i-end.ensures.shape.at_most, c.k-i-end.ensures.shape.parity_rows) in
    others_front c.args.row k c.loop-i.i c.loop-i.rows all most c.loop-i.invariant
