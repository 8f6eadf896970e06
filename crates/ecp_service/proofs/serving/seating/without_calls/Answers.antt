use Rattle.std.proofs.Common.{rules, ◌≡◌, ◌∙◌, ◌∷◌, [], ◌+◌, List, ℕ, length, get_or, ap, sym, subst, arith}
use Rattle.std.proofs.lemmas.Iterator.Adapters.{YieldsList-from_vec}
use Rattle.std.proofs.lemmas.Iterator.Consumers.{YieldsList-end, YieldsList-turn}
use Rattle.std.proofs.lemmas.List.{length-append}
use Rattle.ecp_sequencer.specs.Passes.{PassState, first_pass}
use Rattle.ecp_service.specs.Callers.{IsSeated}
use Rattle.ecp_service.specs.declared.serving.caller.Caller.{Caller}
use Rattle.ecp_service.proofs.FirstPasses.{length_first}
use Rattle.ecp_service.proofs.SeatLaws.{front_more, next_first, seated_more}
use Rattle.ecp_service.proofs.serving.seating.without_calls.Goals as goal

pub loop-pass-preserved : goal.loop-pass-preserved
loop-pass-preserved g c =
    let was = c.loop-pass.invariant in
    let spares = g.N.Names.spare_hands in
    let passes = c.args.passes.items in
    let yielded = c.loop-pass.yielded in
    let p = c.in-Some.pass in
    let turn = YieldsList-turn (YieldsList-from_vec {s = c.into_iter-pass-iterator.result} passes (search rules) (search rules)) yielded c.loop-pass.pass-iterator c.loop-pass.yielded_by c.next.result c.next.new.self p c.in-Some.is c.next.ensures.steps in
    let first : p ≡ first_pass spares (length yielded) = next_first spares g.N.Names.callers passes (length yielded) p c.requires turn.0 turn.1 in
    let one : IsSeated (first_pass spares (length yielded)) [] c.new.result = subst (λ (v : PassState). IsSeated v [] c.new.result) first c.new.ensures in
    let items = c.push_reserved.ensures.items in
    let long = length-append yielded (p ∷ []) in
    record {
      front = front_more passes yielded p was.front turn.0 turn.1;
      each = ap (λ (cs : List (Caller g.row.N.Denot)). length cs) items ∙ length-append c.loop-pass.callers.items (c.new.result ∷ []) ∙ ap (λ (n : ℕ). n + 1) was.each ∙ sym long;
      seated = λ k d below. subst (λ (cs : List (Caller g.row.N.Denot)). IsSeated (first_pass spares k) [] (get_or cs k d)) (sym items)
          (seated_more spares c.loop-pass.callers.items (length yielded) c.new.result was.each was.seated one k d (omega (arith, below, long)));
      room = omega (arith, was.room, c.push_reserved.ensures.capacity);
    }

pub returns : goal.returns
returns g c =
    let was = c.loop-pass.invariant in
    let passes = c.args.passes.items in
    let yielded = c.loop-pass.yielded in
    let end = YieldsList-end (YieldsList-from_vec {s = c.into_iter-pass-iterator.result} passes (search rules) (search rules)) yielded c.loop-pass.pass-iterator c.loop-pass.yielded_by c.next.result c.next.new.self c.in-None.is c.next.ensures.steps in
    let all : length yielded ≡ g.N.Names.callers =
    end.1 ∙ ap (λ (ps : List PassState). length ps) c.requires ∙ length_first g.N.Names.spare_hands g.N.Names.callers in
    record {
      each = was.each ∙ all;
      seated = λ k d below. was.seated k d (omega (arith, below, all));
    }
