use Rattle.std.proofs.Common.{◌≡◌, ◌∙◌, ℕ, ◌<◌, List, length, set, get_or, ap, sym, arith}
use Rattle.std.proofs.lemmas.List.{get_or_default}
use Rattle.std.proofs.lemmas.List.Edits.{map_over_more}
use Rattle.ecp_book.specs.Logs.{Log}
use Rattle.ecp_sequencer.specs.Branches.{released}
use Rattle.ecp_sequencer.specs.Passes.{HandNotes}
use Rattle.ecp_sequencer.proofs.HandLaws.{rest_same}
use Rattle.ecp_sequencer.proofs.sequencer.Sequencer.release_each.Goals as goal

pub loop-hand-preserved : goal.loop-hand-preserved
loop-hand-preserved g c =
    let i = c.loop-hand.invariant in
    let at : ℕ = c.loop-hand.hand-index in
    let before : List HandNotes = c.args.hands.now in
    let now : List HandNotes = c.loop-hand.hands in
    let point : ℕ = length c.args.self.now.history in
    let x : HandNotes = get_or now at c.hand-item.result in
    let within : at < length now = omega (arith, c.loop-hand-test.true, c.loop-hand.auto.hands) in
    let is_x : x ≡ get_or now at x = get_or_default now at c.hand-item.result x within in
    let new : c.release_hand.new.hand ≡ released point x = c.release_hand.ensures.hand ∙ ap (λ (xs : Log). released (length xs) x) i.history in
    record {
      history = c.release_hand.ensures.history ∙ i.history;
      hands = ap (set now at) new ∙ map_over_more (released point) before now at x c.loop-hand-test.true i.hands is_x;
      others = λ hand none.
          c.release_hand.ensures.others hand
          (λ e. none at c.hand-item.result c.loop-hand-test.true (ap (λ (h : HandNotes). h.hand) (sym (rest_same (released point) before now at c.hand-item.result i.hands c.loop-hand-test.true)) ∙ e))
          ∙ i.others hand none;
    }
