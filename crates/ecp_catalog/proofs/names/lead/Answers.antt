use Rattle.std.proofs.Common.{ℕ, Bool, Option, Some, cond, is_some, sym, ◌∙◌, ap}
use Rattle.std.specs.BTreeMap.{get}
use Rattle.ecp_history.specs.table.Kept.{name_cmp}
use Rattle.ecp_history.proofs.tables.KeptLaws.{name_same}
use Rattle.ecp_catalog.proofs.NameLaws.{entered-is, led-set, not_absent}
use Rattle.ecp_catalog.proofs.names.lead.Goals as goal

pub unwrap-requires : goal.unwrap-requires
unwrap-requires c = not_absent c.insert-led.result (get name_cmp c.args.names.now c.args.name) (sym (entered-is c.args.names.now.entries c.args.name) ∙ c.requires) c.insert-led.ensures.absent

pub returns-clause-names : goal.returns-clause-names
returns-clause-names c =
    let old = rw c.unwrap.ensures at c.insert-led.ensures.old in
    let stay = rw c.unwrap.ensures at c.insert-led.ensures.keys_stay in
    stay (ap (λ (o : Option (Option ℕ)). is_some o) old ∙ sym (entered-is c.args.names.now.entries c.args.name) ∙ c.requires)

pub returns-clause-leads : goal.returns-clause-leads
returns-clause-leads c =
    led-set c.args.name c.args.at (get name_cmp c.args.names.now) (get name_cmp c.insert-led.new.self) (λ q.
    let updates = rw c.unwrap.ensures at c.insert-led.ensures.updates in
    updates.0 q ∙ ap (λ (b : Bool). cond b (Some (Some c.args.at)) (get name_cmp c.args.names.now q)) (name_same c.args.name q))
