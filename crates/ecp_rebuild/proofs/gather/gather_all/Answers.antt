use Rattle.std.proofs.Common.{◌∙◌, ap, arith, Some}
use Rattle.std.proofs.lemmas.List.Elements.{All-pop}
use Rattle.ecp_rebuild.specs.Workers.{TookItsOwn, placed}
use Rattle.ecp_rebuild.proofs.Handing.{gathers}
use Rattle.ecp_rebuild.proofs.Gathering.{have_places, gathers_one}
use Rattle.ecp_rebuild.proofs.gather.gather_all.Goals as goal

pub absorb-requires-clause-rule : goal.absorb-requires-clause-rule
absorb-requires-clause-rule g c = gathers _ _ _ _ c.loop-worker.invariant.part

pub place-requires : goal.place-requires
place-requires g c =
    let i = c.loop-worker.invariant in
    let theirs = All-pop (TookItsOwn _ _) _ _ (Some c.in-Some.worker) c.in-Some.ensures.items i.own in
    rw (c.as_slice.ensures.value, i.places) (have_places _ _ _ c.requires.places theirs.1.among)

pub loop-worker-preserved : goal.loop-worker-preserved
loop-worker-preserved g c =
    let i = c.loop-worker.invariant in
    let theirs = All-pop (TookItsOwn _ _) _ _ (Some c.in-Some.worker) c.in-Some.ensures.items i.own in
    let seen = c.absorb.ensures.rule in
    let pushed = c.push_reserved.ensures in
    let put = c.place.ensures ∙ ap (λ l. placed l c.loop-worker.outcomes) c.as_slice.ensures.value in record {
      pass = (c.absorb.ensures.queue.0 ∙ i.pass.0, c.absorb.ensures.queue.2 ∙ i.pass.1);
      part = omega (arith, i.part, ap (λ v. v.parts) seen);
      jobs = ap (λ v. v.jobs) seen ∙ i.jobs;
      own = theirs.0;
      room = omega (arith, i.room, pushed.len, pushed.capacity, c.in-Some.ensures.cases);
      same = pushed.capacity ∙ i.same;
      places = c.place.auto.outcomes ∙ i.places;
      gathering = gathers_one _ _ _ _ _ _ _ _ _ _ _ _ _ _ _ c.in-Some.ensures.items theirs.1.took seen pushed.items put i.gathering;
    }
