use Rattle.std.proofs.Common.{length, map, take, refl, sym, ◌∙◌, ap, subst, arith}
use Rattle.std.proofs.lemmas.List.{length-map, length-replicate, take-replicate}
use Rattle.ecp_book.specs.Logs.{Known}
use Rattle.ecp_plan.specs.declared.hop.Hop.{Hop}
use Rattle.ecp_plan.specs.declared.plan.Plan.{Plan}
use Rattle.ecp_slice.specs.Messages.{started}
use Rattle.ecp_slice.specs.MessageParts.{message_seen, IsMessage}
use Rattle.ecp_slice.specs.Sound.{IsSound}
use Rattle.ecp_slice.proofs.SameVecs.{same_vec}
use Rattle.ecp_slice.proofs.SoundMessages.{begun, named_started, plan_started, started_is}
use Rattle.ecp_slice.proofs.message.SliceMsg.start.Goals as goal

pub returns-in_err-route-clause-plan : goal.returns-in_err-route-clause-plan
returns-in_err-route-clause-plan g c =
    let plan : Plan g.row.N.Denot = c.args.plan.now in
    ap (λ hops. record plan { hops = hops }) (same_vec plan.hops c.receipts.new.hops (c.in_err-route.ensures.kept ∙ c.as_mut_slice.ensures.value))

pub returns-in_err-cancel-clause-plan : goal.returns-in_err-cancel-clause-plan
returns-in_err-cancel-clause-plan g c =
    let plan : Plan g.row.N.Denot = c.args.plan.now in
    ap (λ hops. record plan { hops = hops }) (same_vec plan.hops c.receipts.new.hops (c.in_ok-route.ensures.kept ∙ c.as_mut_slice.ensures.value))

pub returns-clause-plan : goal.returns-clause-plan
returns-clause-plan g c =
    let plan : Plan g.row.N.Denot = c.args.plan.now in
    ap (λ hops. record plan { hops = hops; front = c.copy-2.new.tag }) (same_vec plan.hops c.receipts.new.hops (c.in_ok-route.ensures.kept ∙ c.as_mut_slice.ensures.value))
    ∙ ap (λ front. record plan { front = front }) c.copy-2.ensures.kept

pub returns-in_err-parts-clause-plan : goal.returns-in_err-parts-clause-plan
returns-in_err-parts-clause-plan g c =
    let plan : Plan g.row.N.Denot = c.args.plan.now in
    ap (λ hops. record plan { hops = hops; front = c.copy-2.new.tag }) (same_vec plan.hops c.receipts.new.hops (c.in_ok-route.ensures.kept ∙ c.as_mut_slice.ensures.value))
    ∙ ap (λ front. record plan { front = front }) c.copy-2.ensures.kept

pub returns-clause-message : goal.returns-clause-message
returns-clause-message g c =
    let plan : Plan g.row.N.Denot = c.args.plan.now in
    let seen =
    started_is plan c.args.slice c.args.cancel.now c.in_ok-cancel.cancel c.args.home c.of.result.off c.of.result.len
    c.in_ok-rows.rows.items c.in_ok-nodes.nodes.items c.in_ok-weights.weights.items (take c.of.result.len c.in_ok-room.room.items) c.in_ok-route.route.items c.copy-2.result.items
    c.of.ensures.begins c.of.ensures.len
    (c.in_ok-rows.ensures ∙ ap (map (λ hop. hop.row)) c.deref.ensures.value)
    (c.in_ok-nodes.ensures ∙ ap (map (λ hop. hop.node)) c.deref-2.ensures.value)
    (c.in_ok-weights.ensures ∙ ap (map (λ hop. hop.weight)) c.deref-3.ensures.value)
    (ap (take c.of.result.len) c.in_ok-room.ensures ∙ take-replicate c.of.result.len plan.slice 0 c.of.ensures.few)
    (c.in_ok-route.ensures.receipts ∙ ap (map (λ hop. hop.receipt)) c.as_mut_slice.ensures.value)
    (ap (λ (t : Known). t.items) c.copy-2.ensures.copy)
    c.in_ok-cancel.ensures.copy in
    ap message_seen c.in_ok-parts.ensures.ok ∙ seen

pub invariant_of-result : goal.invariant_of-result
invariant_of-result g c =
    let plan : Plan g.row.N.Denot = c.args.plan.now in
    let seen =
    started_is plan c.args.slice c.args.cancel.now c.in_ok-cancel.cancel c.args.home c.of.result.off c.of.result.len
    c.in_ok-rows.rows.items c.in_ok-nodes.nodes.items c.in_ok-weights.weights.items (take c.of.result.len c.in_ok-room.room.items) c.in_ok-route.route.items c.copy-2.result.items
    c.of.ensures.begins c.of.ensures.len
    (c.in_ok-rows.ensures ∙ ap (map (λ hop. hop.row)) c.deref.ensures.value)
    (c.in_ok-nodes.ensures ∙ ap (map (λ hop. hop.node)) c.deref-2.ensures.value)
    (c.in_ok-weights.ensures ∙ ap (map (λ hop. hop.weight)) c.deref-3.ensures.value)
    (ap (take c.of.result.len) c.in_ok-room.ensures ∙ take-replicate c.of.result.len plan.slice 0 c.of.ensures.few)
    (c.in_ok-route.ensures.receipts ∙ ap (map (λ hop. hop.receipt)) c.as_mut_slice.ensures.value)
    (ap (λ (t : Known). t.items) c.copy-2.ensures.copy)
    c.in_ok-cancel.ensures.copy in
    let shape = g.N.Names.shape in
    let told = g.N.Names.told in
    let first = c.args.slice in
    let handle = c.args.cancel.now in
    subst (IsMessage shape told) (sym c.in_ok-parts.ensures.ok)
    (record {
      of_history = ap (λ (t : Known). t.log) c.copy-2.ensures.copy ∙ c.requires.sound.front;
      roomy = ap length c.in_ok-room.ensures ∙ length-replicate plan.slice 0;
      few = omega (arith, ap length (c.in_ok-rows.ensures ∙ ap (map (λ hop. hop.row)) c.deref.ensures.value), length-map plan.hops.items (λ (hop : Hop g.row.N.Denot). hop.row), plan.hops.ok.0, c.len.ensures);
      sound =
          subst (IsSound shape told) (sym seen)
          (begun shape told (started plan first handle c.args.home) (plan_started shape told plan first handle c.args.home c.requires.sound) (named_started shape told plan first handle c.args.home c.requires.sound)
          (record { of_block = c.requires.slice; begins = refl; ends = omega (arith, c.of.ensures.begins, c.of.ensures.len, c.of.ensures.ends) }) refl refl refl);
    })
