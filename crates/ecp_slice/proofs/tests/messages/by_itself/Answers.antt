use Rattle.std.proofs.Common.{◌≡◌, List, ◌∷◌, [], ◌++◌, ap, ◌∙◌}
use Rattle.ecp_plan.specs.declared.hop.Hop.{Hop}
use Rattle.ecp_slice.proofs.OneFiles.{sound_by_itself}
use Rattle.ecp_slice.proofs.tests.messages.by_itself.Goals as goal

pub returns-clause-sound : goal.returns-clause-sound
returns-clause-sound g c =
    let plan = c.plan_for.result in
    let said = c.plan_for.ensures in
    let hops : plan.hops.items ≡ record { row = 1; node = 1; inc = 0; weight = 1; receipt = c.args.receipt } ∷ [] =
    ap (λ hops. hops.items) said.hops ∙ c.in_ok-push.ensures.items
    ∙ ap (λ (hops : List (Hop g.row.N.Denot)). hops ++ record { row = 1; node = 1; inc = 0; weight = 1; receipt = c.args.receipt } ∷ []) c.in_ok-hops.ensures.items in
    sound_by_itself g.N.Names.shape g.N.Names.told plan c.args.receipt c.requires.shape c.requires.told (said.front ∙ c.requires.front)
    said.stripe said.row said.lanes said.block said.slice hops c.requires.receipt
