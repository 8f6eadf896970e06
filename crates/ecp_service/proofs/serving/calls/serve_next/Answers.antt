use Rattle.std.proofs.Common.{◌∙◌, ◌++◌, ◌∷◌, [], List, length, append-nil, append_assoc, refl, sym, ap, arith}
use Rattle.ecp_book.proofs.Prefixes.{prefix_self, prefix_trans}
use Rattle.ecp_cluster.specs.declared.answer.Answer.{Answer}
use Rattle.ecp_service.proofs.ServedLaws.{next_call, next_push, no_call, past_none, past_other, servable_at}
use Rattle.ecp_service.proofs.serving.calls.serve_next.Goals as goal

pub loop-planned-init : goal.loop-planned-init
loop-planned-init g c = ([], sym (append-nil c.args.answers.now.items), refl, prefix_self c.args.pass.now.front, refl, c.requires.whole)

pub serve-requires-clause-servable : goal.serve-requires-clause-servable
serve-requires-clause-servable g c =
    let calls = c.args.calls.now in
    let n = length c.loop-planned.answers.items in
    let p = c.in-Some.planned.now in
    servable_at calls n p c.requires.servable (next_call calls n c.len.result p (omega (arith, c.len.ensures, c.loop-planned.answers.ok)) c.in-Some.ensures.lookup.0 c.in-Some.ensures.lookup.1)

pub loop-planned-preserved : goal.loop-planned-preserved
loop-planned-preserved g c =
    let was = c.loop-planned.invariant in
    let calls = c.args.calls.now in
    let old = c.args.answers.now.items in
    let answers = c.loop-planned.answers.items in
    let p = c.in-Some.planned.now in
    let a = c.in_ok-serve.field-0 in
    let here = next_call calls (length answers) c.len.result p (omega (arith, c.len.ensures, c.loop-planned.answers.ok)) c.in-Some.ensures.lookup.0 c.in-Some.ensures.lookup.1 in (
      was.0 ++ a ∷ [],
      c.push_reserved.ensures.items ∙ ap (λ (xs : List Answer). xs ++ a ∷ []) was.1 ∙ append_assoc old was.0 (a ∷ []),
      next_push g.N.Names.shape g.N.Names.told c.args.phase c.args.pass.now calls old was.0 answers c.loop-planned.pass p a c.serve.new.pass was.1 was.2 here c.if-planned-phase.false
          c.in_ok-serve.ensures.answered,
      prefix_trans c.args.pass.now.front c.loop-planned.pass.front c.serve.new.pass.front was.3 c.serve.ensures.grows,
      c.push_reserved.ensures.capacity ∙ was.4,
      c.serve.ensures.whole,
    )

pub returns-then-planned-phase-clause-served : goal.returns-then-planned-phase-clause-served
returns-then-planned-phase-clause-served g c =
    let was = c.loop-planned.invariant in
    let calls = c.args.calls.now in
    let n = length c.loop-planned.answers.items in
    let p = c.in-Some.planned.now in
    record {
      given = was.0;
      answers = was.1;
      served = was.2;
      past = past_other c.args.phase calls n p (next_call calls n c.len.result p (omega (arith, c.len.ensures, c.loop-planned.answers.ok)) c.in-Some.ensures.lookup.0 c.in-Some.ensures.lookup.1) c.if-planned-phase.true;
    }

pub returns-in_default-clause-served : goal.returns-in_default-clause-served
returns-in_default-clause-served g c =
    let was = c.loop-planned.invariant in
    let calls = c.args.calls.now in
    let n = length c.loop-planned.answers.items in
    record {
      given = was.0;
      answers = was.1;
      served = was.2;
      past = past_none c.args.phase calls n (no_call calls n c.len.result (omega (arith, c.len.ensures, c.loop-planned.answers.ok)) c.in_default.ensures.lookup.0);
    }
