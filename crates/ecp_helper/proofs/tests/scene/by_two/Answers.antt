use Rattle.std.proofs.Common.{◌≡◌, List, ℕ, true, ◌∷◌, [], ◌++◌, ap, ◌∙◌, sym, refl, subst, arith}
use Rattle.ecp_plan.specs.declared.hop.Hop.{Hop}
use Rattle.ecp_history.specs.Plans.{AreRows}
use Rattle.ecp_slice.specs.OneFile.{three_rows}
use Rattle.ecp_slice.proofs.OneFiles.{two_table, two_route, two_rows, two_hops, sound_by_two}
use Rattle.ecp_helper.proofs.tests.scene.by_two.Goals as goal

pub returns-clause-sound : goal.returns-clause-sound
returns-clause-sound g c =
    let plan = c.plan_for.result in
    let said = c.plan_for.ensures in
    let hops : plan.hops.items ≡ two_hops 2 c.args.one c.args.two =
    ap (λ hops. hops.items) said.hops ∙ c.in_ok-push-2.ensures.items
    ∙ ap (λ (hops : List (Hop g.row.N.Denot)). hops ++ record { row = 2; node = 2; inc = 0; weight = 0xf4; receipt = c.args.two } ∷ []) (c.in_ok-push.ensures.items
    ∙ ap (λ (hops : List (Hop g.row.N.Denot)). hops ++ record { row = 1; node = 1; inc = 0; weight = 0xf5; receipt = c.args.one } ∷ []) c.in_ok-hops.ensures.items) in
    let rows : AreRows (three_rows 1) true (two_table 1) (two_route 2 c.args.one.bytes c.args.two.bytes) =
    subst (λ (b : List ℕ). AreRows (three_rows 1) true (two_table 1) (two_route 2 b c.args.two.bytes)) (sym c.requires.one.bytes)
    (subst (λ (b : List ℕ). AreRows (three_rows 1) true (two_table 1) (two_route 2 (0x42 ∷ []) b)) (sym c.requires.two.bytes) two_rows) in
    sound_by_two g.N.Names.shape g.N.Names.told plan true 1 2 c.args.one c.args.two c.requires.shape c.requires.told (said.front ∙ c.requires.front)
    said.stripe said.row said.lanes said.block said.slice hops
    (record { stripe = c.requires.one.stripe; row = c.requires.one.row; node = c.requires.one.node; bytes = refl })
    (record { stripe = c.requires.two.stripe; row = c.requires.two.row; node = c.requires.two.node; bytes = refl })
    (omega arith) (omega arith) (omega arith) refl refl rows
