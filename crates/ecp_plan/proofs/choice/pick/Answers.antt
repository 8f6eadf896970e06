use Rattle.std.proofs.Common.{◌≡◌, ◌+◌, ◌-◌, length, take, drop, replicate, refl, sym, ◌∙◌, ap, subst, arith, ℕ, List}
use Rattle.std.proofs.lemmas.List.{length_push}
use Rattle.ecp_shape.specs.declared.limits.TheConstants.{MAX_ROWS}
use Rattle.ecp_plan.specs.Choice.{IsChoice}
use Rattle.ecp_plan.specs.Turns.{row_end, is_taken, IsNext}
use Rattle.ecp_plan.proofs.ChosenRows.{IsPicking, no_rows, row_more, room, chosen, rest_more}
use Rattle.ecp_plan.proofs.choice.pick.Goals as goal

pub loop-row-init : goal.loop-row-init
loop-row-init c =
    let test = is_taken c.args.stamps.now c.last_turn-last.result in
    let rows : List ℕ = c.none-picks.result.rows in
    let none = sym c.none-picks.ensures.len in
    record {
      picking = subst (λ (n : ℕ). IsPicking test c.args.live.now 0 (take n rows)) none (no_rows test c.args.live.now);
      len = subst (λ (n : ℕ). n ≡ length (take n rows)) none refl;
      rest = subst (λ (n : ℕ). drop n rows ≡ replicate (MAX_ROWS - n) 0) none c.none-picks.ensures.rest;
    }

pub push-requires : goal.push-requires
push-requires c =
    let test = is_taken c.args.stamps.now c.last_turn-last.result in
    let next = subst (IsNext test (λ x. x.row) c.args.live.now (row_end c.loop-row.after)) c.in-Some.is c.next_row.ensures in
    omega (arith, room test c.args.live.now (row_end c.loop-row.after) c.in-Some.row (take c.loop-row.picks.len c.loop-row.picks.rows) next c.requires.rows c.loop-row.invariant.picking, c.loop-row.invariant.len, c.last_turn-last.ensures.count, c.requires.most)

pub loop-row-smaller : goal.loop-row-smaller
loop-row-smaller c =
    let test = is_taken c.args.stamps.now c.last_turn-last.result in
    let next = subst (IsNext test (λ x. x.row) c.args.live.now (row_end c.loop-row.after)) c.in-Some.is c.next_row.ensures in
    omega (arith, room test c.args.live.now (row_end c.loop-row.after) c.in-Some.row (take c.loop-row.picks.len c.loop-row.picks.rows) next c.requires.rows c.loop-row.invariant.picking, c.loop-row.invariant.len, c.last_turn-last.ensures.count, c.push.ensures.len)

pub loop-row-preserved : goal.loop-row-preserved
loop-row-preserved c =
    let test = is_taken c.args.stamps.now c.last_turn-last.result in
    let rows : List ℕ = take c.loop-row.picks.len c.loop-row.picks.rows in
    let next = subst (IsNext test (λ x. x.row) c.args.live.now (row_end c.loop-row.after)) c.in-Some.is c.next_row.ensures in
    record {
      picking =
          subst (IsPicking test c.args.live.now (c.in-Some.row + 1)) (sym c.push.ensures.rows)
          (row_more test c.args.live.now (row_end c.loop-row.after) c.in-Some.row rows next c.requires.rows c.loop-row.invariant.picking);
      len = omega (arith, ap length c.push.ensures.rows, length_push rows c.in-Some.row, c.loop-row.invariant.len, c.push.ensures.len);
      rest =
          c.push.ensures.rest
          ∙ subst (λ (n : ℕ). drop (c.loop-row.picks.len + 1) c.loop-row.picks.rows ≡ replicate (MAX_ROWS - n) 0) (sym c.push.ensures.len)
          (rest_more c.loop-row.picks.rows MAX_ROWS c.loop-row.picks.len c.loop-row.invariant.rest);
    }

pub returns : goal.returns
returns c =
    let test = is_taken c.args.stamps.now c.last_turn-last.result in
    let next = subst (IsNext test (λ x. x.row) c.args.live.now (row_end c.loop-row.after)) c.in_default.is c.next_row.ensures in
    let choice = chosen c.args.stamps.now c.args.live.now c.last_turn-last.result (row_end c.loop-row.after) c.args.k (take c.loop-row.picks.len c.loop-row.picks.rows) c.loop-row.invariant.picking next c.requires.rows c.last_turn-last.ensures.bytes c.last_turn-last.ensures.count in
    let len : c.loop-row.picks.len ≡ c.args.k = c.loop-row.invariant.len ∙ choice.count in
    record {
      len = len;
      choice = subst (λ (n : ℕ). IsChoice c.args.stamps.now c.args.live.now c.args.k (take n c.loop-row.picks.rows)) len choice;
      rest = subst (λ (n : ℕ). drop n c.loop-row.picks.rows ≡ replicate (MAX_ROWS - n) 0) len c.loop-row.invariant.rest;
    }
