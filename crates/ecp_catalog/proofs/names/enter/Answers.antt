use Rattle.std.proofs.Common.{◌≡◌, ℕ, ◌||◌, List, Bool, Option, Some, None, cond, is_some, sym, ◌∙◌, ap}
use Rattle.std.specs.Prelude.{bytes_eq}
use Rattle.std.specs.BTreeMap.{get}
use Rattle.ecp_history.specs.table.Kept.{name_cmp}
use Rattle.ecp_history.proofs.tables.KeptLaws.{name_same}
use Rattle.ecp_catalog.proofs.NameLaws.{entered-is, led-more, none_there, some-more, already}
use Rattle.ecp_catalog.proofs.names.enter.Goals as goal

pub returns-in_ok-insert-clause-leads : goal.returns-in_ok-insert-clause-leads
returns-in_ok-insert-clause-leads c =
    let old : List ℕ → Option (Option ℕ) = get name_cmp c.args.names.now in
    led-more c.args.name old (get name_cmp c.insert.new.self)
    (λ q. c.in_ok-insert.ensures.updates.0 q ∙ ap (λ (b : Bool). cond b (Some None) (old q)) (name_same c.args.name q))
    (none_there (old c.args.name) (sym c.contains_key.ensures ∙ c.if-not-contains_key.true))

pub returns-in_ok-insert-clause-entered : goal.returns-in_ok-insert-clause-entered
returns-in_ok-insert-clause-entered c = λ q.
    let old : List ℕ → Option (Option ℕ) = get name_cmp c.args.names.now in
    let updates : get name_cmp c.insert.new.self q ≡ cond (bytes_eq c.args.name q) (Some None) (old q) =
    c.in_ok-insert.ensures.updates.0 q ∙ ap (λ (b : Bool). cond b (Some None) (old q)) (name_same c.args.name q) in
    entered-is c.insert.new.self.entries q ∙ ap (λ (o : Option (Option ℕ)). is_some o) updates ∙ some-more (bytes_eq c.args.name q) None (old q)
    ∙ ap (λ (b : Bool). bytes_eq c.args.name q || b) (sym (entered-is c.args.names.now.entries q))

pub returns-else-not-contains_key-clause-entered : goal.returns-else-not-contains_key-clause-entered
returns-else-not-contains_key-clause-entered c = λ q. already c.args.names.now.entries c.args.name q (sym c.contains_key.ensures ∙ c.if-not-contains_key.false)
