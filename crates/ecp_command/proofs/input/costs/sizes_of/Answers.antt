use Rattle.std.proofs.Common.{ℕ, List, ◌≡◌, ◌+◌, ◌-◌, ◌/◌, ◌≤◌, length, take, ap, sym, subst, ◌∙◌, arith}
use Rattle.std.specs.Borrow.{Bor}
use Rattle.std.specs.HashMap.{HashMap, get_by}
use Rattle.std.specs.Prelude.{bytes_eq, max, unwrap_or}
use Rattle.ecp_code.proofs.StripeLaws.{rounded_up}
use Rattle.ecp_shape.specs.declared.limits.TheConstants.{MAX_PUT_BYTES}
use Rattle.ecp_command.specs.declared.input.form.Form.{Form}
use Rattle.ecp_command.specs.Input.Costs.{AreMost}
use Rattle.ecp_command.specs.Input.Limits.{put_len}
use Rattle.ecp_command.specs.Input.Script.{forms_of}
use Rattle.ecp_command.proofs.Inputs.Sizing.{few_blocks, line_holds, most_raised, most_same}
use Rattle.ecp_command.proofs.input.costs.sizes_of.Goals as goal
use Rattle.ecp_command.proofs.input.costs.sizes_of.Goals.{in-Some+in_ok-insert, in_default}

pub overflow_cast-blocks : goal.overflow_cast-blocks
overflow_cast-blocks c =
    let short : put_len c.numbered-item.result.form ≤ MAX_PUT_BYTES =
    line_holds (λ f. put_len f ≤ MAX_PUT_BYTES) c.args.forms.now c.loop-numbered.numbered-index c.numbered-item.result c.requires.short c.loop-numbered-test.true c.numbered-item.is in
    let bytes : put_len c.numbered-item.result.form ≡ length c.in-Some.bytes.now = ap (λ (f : Form). put_len f) c.in-Some.ensures.some in
    omega (arith, short, bytes, c.div_ceil-blocks.ensures, few_blocks (length c.in-Some.bytes.now) c.args.head.now.block)

pub loop-numbered-preserved : goal.loop-numbered-preserved
loop-numbered-preserved c = elim c.match-put_of.branch [
  | in-Some+in_ok-insert w ↦
      let blocks : w.div_ceil-blocks.result ≡ (length w.in-Some.bytes.now + c.args.head.now.block - 1) / c.args.head.now.block =
      w.div_ceil-blocks.ensures ∙ rounded_up (length w.in-Some.bytes.now) c.args.head.now.block c.requires.in_range.sizes.some in
      let raised = w.max-most.ensures ∙ ap (λ (x : ℕ). max x w.div_ceil-blocks.result) w.size.ensures
      ∙ ap (λ (x : ℕ). max (unwrap_or (get_by (λ k. bytes_eq w.in-Some.name.now k.now) c.loop-numbered.sizes) 0) x) blocks in
      subst (λ (m : HashMap (Bor (List ℕ)) ℕ _). AreMost c.args.head.now (forms_of (take (c.loop-numbered.numbered-index + 1) c.args.forms.now)) m) (sym w.sizes-is)
      (most_raised c.args.head.now c.args.forms.now c.loop-numbered.numbered-index c.numbered-item.result w.in-Some.name.now w.in-Some.bytes.now w.max-most.result c.loop-numbered.sizes w.insert.new.self
      c.loop-numbered-test.true c.numbered-item.is w.in-Some.ensures.some c.loop-numbered.invariant raised w.in_ok-insert.ensures.updates)
  | in_default w ↦
      subst (λ (m : HashMap (Bor (List ℕ)) ℕ _). AreMost c.args.head.now (forms_of (take (c.loop-numbered.numbered-index + 1) c.args.forms.now)) m) (sym w.sizes-is)
      (most_same c.args.head.now c.args.forms.now c.loop-numbered.numbered-index c.numbered-item.result c.loop-numbered.sizes c.loop-numbered-test.true c.numbered-item.is
      (λ name. w.in_default.ensures.none c.args.head.now name) c.loop-numbered.invariant)
]
