use Rattle.std.proofs.Common.{◌∙◌, refl}
use Rattle.ecp_rebuild.proofs.Handing.{takes, learns}
use Rattle.ecp_rebuild.proofs.Working.{is_fresh, has_room, may_go_on, did_none, goes_on}
use Rattle.ecp_rebuild.proofs.worker.work.Goals as goal

pub loop-init : goal.loop-init
loop-init g c = record {
  ready = c.requires;
  worked = record { pass = c.requires.pass; fit = c.requires.fit; same = refl; did = did_none _ _ _ _; room = refl };
}

pub pop_as-requires-clause-rule : goal.pop_as-requires-clause-rule
pop_as-requires-clause-rule g c = (takes _ _ c.loop.invariant.ready.may.part, learns _ _)

pub mend-outcome-requires-clause-fresh : goal.mend-outcome-requires-clause-fresh
mend-outcome-requires-clause-fresh g c = is_fresh _ _ _ _ _ _ _ c.loop.invariant.ready.may c.in-Some-pop_as.ensures.rule

pub push_reserved-requires : goal.push_reserved-requires
push_reserved-requires g c = has_room _ _ _ _ _ _ _ c.loop.invariant.ready.may c.in-Some-pop_as.ensures.rule

pub loop-preserved : goal.loop-preserved
loop-preserved g c =
    let i = c.loop.invariant in
    let took = c.in-Some-pop_as.ensures.rule in
    let mended = c.mend-outcome.ensures in
    let pushed = c.push_reserved.ensures in
    let table = c.pop_as.ensures.queue.0 ∙ i.ready.pass.0 in
    let slots = c.pop_as.ensures.queue.2 ∙ i.ready.pass.1 in record {
      ready = record {
        pass = (table, slots);
        fit = mended.fit;
        may = rw (mended.did, pushed.len, pushed.capacity) (may_go_on _ _ _ _ _ _ _ _ i.ready.may took);
      };
      worked = record {
        pass = (table, slots);
        fit = mended.fit;
        same = mended.same ∙ i.worked.same;
        did = rw (mended.did, pushed.items) (goes_on _ _ _ _ _ _ _ _ _ _ i.worked.did took mended.answers);
        room = pushed.capacity ∙ i.worked.room;
      };
    }
