use Rattle.std.proofs.Common.{◌≡◌, length, refl, sym, ◌∙◌, ap, subst, map, List, rules, ◌<◌, ℕ, reverse, set, false, arith, Option, Some}
use Rattle.std.specs.Prelude.{slice_get}
use Rattle.std.specs.Option.{option_map_or}
use Rattle.std.proofs.lemmas.Option.{slice_get-get_or}
use Rattle.std.specs.List.{AllByRecursion}
use Rattle.ecp_history.specs.table.Tables.{Stripe, Standing, File, Node, PlainTable, Shaped}
use Rattle.ecp_history.specs.table.Steps.{with_rows, without_node, lost}
use Rattle.ecp_history.specs.table.Rising.{IsRising}
use Rattle.ecp_history.proofs.tables.KeptLaws.{kept_by, rising-with_rows, full-with_rows, written_over}
use Rattle.ecp_history.proofs.table.Table.lose.Goals as goal

pub invariant_of-self : goal.invariant_of-self
invariant_of-self c =
    let change : Stripe → List Standing = λ x. map (without_node c.args.node) x.rows in
    let old = c.self.inside.stripes.items in
    let written = written_over c.self.inside.stripes.len c.lose_all.new.stripes old (c.lose_all.auto.stripes ∙ c.deref_mut.ensures.len) in
    let is = written ∙ c.lose_all.ensures ∙ ap (with_rows change) c.deref_mut.ensures.value in
    kept_by c.self.inside _ c.self.invariant refl refl refl refl (search rules)
    (subst IsRising (sym is) (rising-with_rows change old c.self.invariant.rising))
    (subst (AllByRecursion (λ x. length x.blocks ≡ c.self.inside.shape.k)) (sym is) (full-with_rows change c.self.inside.shape.k old c.self.invariant.full))

table_of_fields : List File → List Stripe → List Node → PlainTable
table_of_fields files stripes nodes = record { files = files; stripes = stripes; nodes = nodes }

pub returns-clause-table : goal.returns-clause-table
unfolding table_of_fields
returns-clause-table c =
    let change : Stripe → List Standing = λ x. map (without_node c.args.node) x.rows in
    let files = reverse c.self.inside.files.items in
    let nodes = c.self.inside.nodes.items in
    let node = c.index_mut.result.now in
    let written = written_over c.self.inside.stripes.len c.lose_all.new.stripes c.self.inside.stripes.items (c.lose_all.auto.stripes ∙ c.deref_mut.ensures.len) in
    let is = written ∙ c.lose_all.ensures ∙ ap (with_rows change) c.deref_mut.ensures.value in
    let within : c.args.node < length nodes = omega (arith, c.requires, ap (λ (s : Shaped). s.shape.nodes) c.self.view_is, c.self.invariant.nodes) in
    let found : slice_get nodes c.args.node ≡ Some node = slice_get-get_or nodes c.args.node node within ∙ ap (λ (x : Node). Some x) (sym c.index_mut.ensures.value) in
    let inc : node.inc ≡ option_map_or (λ x. x.inc) (slice_get nodes c.args.node) 0 = sym (ap (λ (o : Option Node). option_map_or (λ x. x.inc) o 0) found) in
    ap (λ (ss : List Stripe). table_of_fields files ss (set nodes c.args.node (record { up = false; inc = node.inc }))) is
    ∙ ap (λ (n : ℕ). table_of_fields files (with_rows change c.self.inside.stripes.items) (set nodes c.args.node (record { up = false; inc = n }))) inc
    ∙ ap (λ (s : Shaped). lost s.table c.args.node) c.self.view_is
