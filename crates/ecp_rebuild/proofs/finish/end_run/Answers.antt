use Rattle.std.proofs.Common.{◌≡◌, ◌≤◌, length, ◌∙◌, [], ◌∷◌, ◌++◌, map, ap, sym, subst, refl, append_assoc, append-nil, arith}
use Rattle.std.specs.Vec.{with_items}
use Rattle.std.specs.List.{AllZip}
use Rattle.std.proofs.lemmas.List.{map-append, length-reverse, with_items_is}
use Rattle.std.proofs.lemmas.List.Elements.{All-rest, All-weaker}
use Rattle.std.proofs.lemmas.Slice.Zip.{all_zipped_more}
use mathlib.Core.List.{reverse, reverse-cons}
use Rattle.crossbeam_queue.specs.Passes.{view}
use Rattle.ecp_rebuild.specs.Rules.{weigh, every_part}
use Rattle.ecp_rebuild.specs.Workers.{IsReady, TookItsOwn, WentOn, job_of, placed, hands_of, all_ended}
use Rattle.ecp_rebuild.proofs.Handing.{gathers}
use Rattle.ecp_rebuild.proofs.Gathering.{have_places, ended_push, placed_append}
use Rattle.ecp_rebuild.proofs.Finishing.{first_and_rest, at_front, all_turned, zips_alone, stays, all_among, may_more, once_each}
use Rattle.ecp_rebuild.proofs.finish.end_run.Goals as goal

pub absorb-requires-clause-rule : goal.absorb-requires-clause-rule
absorb-requires-clause-rule g c =
    let own = at_front (TookItsOwn _ _) _ _ (omega (arith, c.requires.some, c.args.workers.ok.0)) c.remove-last.ensures.value c.requires.own in
    gathers _ _ _ _ (omega (arith, ap (λ v. v.parts) own.took))

pub work-requires : goal.work-requires
work-requires g c =
    let some : 1 ≤ length c.args.workers.items = omega (arith, c.requires.some, c.args.workers.ok.0) in
    let own = at_front (TookItsOwn _ _) _ _ some c.remove-last.ensures.value c.requires.own in
    let ready = at_front (IsReady _ _ _ _) _ _ some c.remove-last.ensures.value c.requires.ready in
    let rule = c.absorb.ensures.rule in
    let seen = c.gather_all.ensures.view in
    let ran = map job_of (all_ended (reverse c.remove-last.new.self.items)) in record {
      pass = c.gather_all.ensures.pass;
      fit = ready.fit;
      may = may_more _ _ _ _ _ _ ((view c.args.pass).taken ++ ran)
          (omega (arith, ap (λ v. v.parts) seen, ap (λ v. v.parts) rule, ap (λ v. v.parts) own.took))
          (ap (λ v. v.jobs) seen ∙ ap (λ v. v.jobs) rule)
          (ap (λ v. v.taken) seen ∙ (ap (λ v. v.taken ++ ran) rule ∙ append_assoc (view c.remove-last.result.pass).taken (view c.args.pass).taken ran))
          ready.may;
    }

pub place-requires : goal.place-requires
place-requires g c =
    let some : 1 ≤ length c.args.workers.items = omega (arith, c.requires.some, c.args.workers.ok.0) in
    let own = at_front (TookItsOwn _ _) _ _ some c.remove-last.ensures.value c.requires.own in
    let did = c.work.ensures.worked.did in
    let later = ap (λ v. v.jobs) c.gather_all.ensures.view ∙ (ap (λ v. v.jobs) c.absorb.ensures.rule ∙ ap (λ v. v.jobs) own.took) in
    rw (c.as_slice.ensures.value, c.as_mut_slice-2.ensures.len)
    (have_places _ _ _ c.requires.places (all_among _ _ _ _ _ later did.ended own.among did.among))

pub returns : goal.returns
returns g c =
    let l = c.remove-last.result in
    let rest = c.remove-last.new.self.items in
    let w = c.work.new.worker in
    let some : 1 ≤ length c.args.workers.items = omega (arith, c.requires.some, c.args.workers.ok.0) in
    let own = at_front (TookItsOwn _ _) _ _ some c.remove-last.ensures.value c.requires.own in
    let split = first_and_rest _ _ _ some c.remove-last.ensures.value c.remove-last.ensures.by_index.2 in
    let others = All-rest (IsReady _ _ _ _) l rest _ split c.requires.ready in
    let turned : reverse c.args.workers.items ≡ reverse rest ++ l ∷ [] = ap reverse split ∙ reverse-cons l rest in
    let did = c.work.ensures.worked.did in
    let rule = c.absorb.ensures.rule in
    let seen = c.gather_all.ensures.view in
    let Goes = WentOn (g.M.Mender.fit c.args.m.now) (g.M.Mender.answers c.args.m.now) g.M.Mender.did g.M.Mender.who in
    let alone = zips_alone Goes (reverse rest) (all_turned (λ o. Goes o o) rest (All-weaker (IsReady _ _ _ _) (λ o. Goes o o) (λ o ready. stays _ _ _ _ o o refl refl ready.fit) rest others)) in
    let went : Goes l w = record { fit = c.work.ensures.worked.fit; same = c.work.ensures.worked.same; more = did.more; ended = did.ended; did = did.did; answered = did.answered } in
    let zipped = all_zipped_more Goes (reverse rest) (reverse rest) l w alone went in
    let parts : (view w.pass).parts ≡ every_part =
    omega (arith, ap (λ v. v.parts) did.took, ap (λ v. v.parts) seen, ap (λ v. v.parts) rule, ap (λ v. v.parts) own.took, c.requires.parts, ap length split, length-reverse rest, c.args.workers.ok.0) in
    let all = once_each (all_ended (reverse rest)) l.ended.items did.more w.ended.items (view c.args.pass).jobs (view c.absorb.new.pass) (view c.gather_all.new.pass) (view w.pass)
    did.ended
    (ap (λ v. v.taken) rule ∙ ((λ i. ap (λ v. v.taken) own.took i ++ c.requires.idle i) ∙ append-nil (map job_of l.ended.items)))
    (ap (λ v. v.taken) seen)
    (ap (λ v. v.taken) did.took)
    (ap (λ v. v.jobs) did.took ∙ (ap (λ v. v.jobs) seen ∙ (ap (λ v. v.jobs) rule ∙ ap (λ v. v.jobs) own.took)))
    (c.work.ensures.all parts) in
    let gathered_outcomes : c.as_mut_slice-2.result.now ≡ placed (all_ended (reverse rest)) c.args.outcomes.items =
    c.as_mut_slice-2.ensures.value ∙ (with_items_is c.args.outcomes c.gather_all.new.outcomes (c.gather_all.auto.outcomes ∙ c.as_mut_slice.ensures.len)
    ∙ (c.gather_all.ensures.outcomes ∙ ap (placed (all_ended (reverse rest))) c.as_mut_slice.ensures.value)) in
    let ended : all_ended (reverse rest ++ w ∷ []) ≡ all_ended (reverse rest) ++ w.ended.items = ended_push (reverse rest) w in record {
      last = reverse rest ++ w ∷ [];
      went_on = subst (λ ws. AllZip Goes ws (reverse rest ++ w ∷ [])) (sym turned) zipped;
      hands = c.push_reserved.ensures.items
          ∙ (ap (λ hs. hs ++ w.hand ∷ []) (c.gather_all.ensures.hands ∙ ap (λ hs. hs ++ hands_of (reverse rest)) c.requires.hands.0)
          ∙ sym (map-append (λ o. o.hand) (reverse rest) (w ∷ [])));
      outcomes = with_items_is (with_items c.args.outcomes c.gather_all.new.outcomes) c.place.new.outcomes (c.place.auto.outcomes ∙ c.as_mut_slice-2.ensures.len)
          ∙ (c.place.ensures
          ∙ ((λ i. placed (c.as_slice.ensures.value i) (gathered_outcomes i))
          ∙ (sym (placed_append (all_ended (reverse rest)) w.ended.items c.args.outcomes.items) ∙ ap (λ es. placed es c.args.outcomes.items) (sym ended))));
      once = λ h. ap (λ es. weigh h (map job_of es)) ended ∙ all h;
    }
