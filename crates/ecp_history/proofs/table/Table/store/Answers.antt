use Rattle.std.proofs.Common.{◌≡◌, ◌+◌, ◌^◌, ◌<◌, ℕ, List, [], ◌∷◌, ◌++◌, length, reverse, fold, sym, ◌∙◌, ap, subst, arith, refl, Option, Some, cond, Bool, length-append}
use Rattle.std.specs.Prelude.{bytes_eq}
use Rattle.std.specs.List.{AllByRecursion}
use Rattle.std.specs.BTreeMap.{get}
use Rattle.std.proofs.lemmas.List.{reverse-append}
use Rattle.ecp_code.specs.Stripes.{stripes, stripe_count}
use Rattle.ecp_history.specs.table.Placement.{nodes_in}
use Rattle.ecp_history.specs.table.Tables.{Stripe, File, Node, PlainTable, Shaped}
use Rattle.ecp_history.specs.table.Steps.{placed, stripes_among, stored}
use Rattle.ecp_history.specs.table.Rising.{IsRising}
use Rattle.ecp_history.specs.table.Kept.{name_cmp}
use Rattle.ecp_history.proofs.tables.StoreLaws.{count_is, length-stripes_among}
use Rattle.ecp_history.proofs.tables.KeptLaws.{kept_by, named-more, within-more, name_same, full-stored, datas_full}
use Rattle.ecp_history.proofs.table.Table.store.Goals as goal

pub stripes_of-requires-clause-numbers : goal.stripes_of-requires-clause-numbers
stripes_of-requires-clause-numbers c =
    let shape = c.self.inside.shape in
    let numbers : c.args.first + length (stripes shape.k shape.block c.args.bytes.now) < 2 ^ 32 = rw (← c.self.view_is) at c.requires.numbers in
    let count : c.stripe_count-count.result ≡ length (stripes shape.k shape.block c.args.bytes.now) =
    c.stripe_count-count.ensures ∙ ap (λ (k : ℕ). stripe_count k shape.block c.args.len) c.self.invariant.k_is ∙ ap (stripe_count shape.k shape.block) c.requires.len
    ∙ sym (count_is shape.k shape.block c.args.bytes.now) in
    omega (arith, numbers, count)

pub invariant_of-self : goal.invariant_of-self
invariant_of-self c = kept_by c.self.inside _ c.self.invariant refl refl c.reserve.ensures.items refl refl c.self.invariant.rising c.self.invariant.full

pub invariant_of-self-in_err-reserve-2 : goal.invariant_of-self-in_err-reserve-2
invariant_of-self-in_err-reserve-2 c =
    kept_by c.self.inside _ c.self.invariant refl refl c.reserve.ensures.items refl refl
    (subst IsRising (sym c.reserve-2.ensures.items) c.self.invariant.rising)
    (subst (AllByRecursion (λ x. length x.blocks ≡ c.self.inside.shape.k)) (sym c.reserve-2.ensures.items) c.self.invariant.full)

pub invariant_of-self-in_err-insert : goal.invariant_of-self-in_err-insert
invariant_of-self-in_err-insert c =
    kept_by c.self.inside _ c.self.invariant refl refl c.reserve.ensures.items c.in_err-insert.ensures.err refl
    (subst IsRising (sym c.reserve-2.ensures.items) c.self.invariant.rising)
    (subst (AllByRecursion (λ x. length x.blocks ≡ c.self.inside.shape.k)) (sym c.reserve-2.ensures.items) c.self.invariant.full)

file_of_fields : List ℕ → ℕ → ℕ → ℕ → File
file_of_fields name len first count = record { name = name; len = len; first = first; stripes = count }

table_of_fields : List File → List Stripe → List Node → PlainTable
table_of_fields files stripes nodes = record { files = files; stripes = stripes; nodes = nodes }

pub invariant_of-self-2 : goal.invariant_of-self-2
unfolding file_of_fields
invariant_of-self-2 c =
    let f : File = file_of_fields c.args.name c.args.len c.args.first c.stripe_count-count.result in
    let nodes : c.deref.result.now ≡ nodes_in c.args.up = c.deref.ensures.value ∙ c.in_ok-nodes.ensures in
    let stripes_are : c.put_all.new.stripes.items ≡ fold placed c.self.inside.stripes.items (stripes_among (nodes_in c.args.up) c.self.inside.shape.n c.args.first (stripes c.self.inside.shape.k c.self.inside.shape.block c.args.bytes.now)) =
    c.put_all.ensures.placed
    ∙ ap (λ (xs : List Stripe). fold placed xs (reverse c.in_ok-added.added.items)) c.reserve-2.ensures.items
    ∙ ap (fold placed c.self.inside.stripes.items) c.in_ok-added.ensures
    ∙ ap (λ (ns : List ℕ). fold placed c.self.inside.stripes.items (stripes_among ns c.self.inside.shape.n c.args.first (stripes c.self.inside.code.k c.self.inside.shape.block c.args.bytes.now))) nodes
    ∙ ap (λ (k : ℕ). fold placed c.self.inside.stripes.items (stripes_among (nodes_in c.args.up) c.self.inside.shape.n c.args.first (stripes k c.self.inside.shape.block c.args.bytes.now))) c.self.invariant.k_is in
    let files_are : c.push_reserved.new.self.items ≡ c.self.inside.files.items ++ f ∷ [] =
    c.push_reserved.ensures.items ∙ ap (λ (fs : List File). fs ++ f ∷ []) c.reserve.ensures.items in
    let shape = c.self.inside.shape in
    let files = c.self.inside.files.items in
    let n = c.len-2.result in
    let n_is : n ≡ length files = c.len-2.ensures ∙ c.reserve.ensures.len ∙ c.self.inside.files.ok.0 in
    let old : List ℕ → Option ℕ = get name_cmp c.self.inside.names in
    let new : List ℕ → Option ℕ = get name_cmp c.insert.new.self in
    let updates : (q : List ℕ) → new q ≡ cond (bytes_eq c.args.name q) (Some n) (old q) =
    λ q. c.in_ok-insert.ensures.updates.0 q ∙ ap (λ (b : Bool). cond b (Some n) (old q)) (name_same c.args.name q) in
    record {
      in_range = c.self.invariant.in_range;
      n_is = c.self.invariant.n_is;
      k_is = c.self.invariant.k_is;
      nodes = c.self.invariant.nodes;
      rising = c.put_all.ensures.rising;
      full = subst (AllByRecursion (λ x. length x.blocks ≡ shape.k)) (sym stripes_are)
          (full-stored (nodes_in c.args.up) shape.n c.args.first shape.k (stripes shape.k shape.block c.args.bytes.now) c.self.inside.stripes.items
          (datas_full shape.k shape.block c.args.bytes.now) c.self.invariant.full);
      named = λ q. rw files_are (named-more files f old new n n_is c.self.invariant.named c.self.invariant.within updates q);
      within = λ q. rw (files_are, length-append) (within-more (length files) n old new (bytes_eq c.args.name) (omega (arith, n_is)) c.self.invariant.within updates q);
    }

pub returns-clause-ok : goal.returns-clause-ok
unfolding file_of_fields table_of_fields
returns-clause-ok c =
    let f : File = file_of_fields c.args.name c.args.len c.args.first c.stripe_count-count.result in
    let nodes : c.deref.result.now ≡ nodes_in c.args.up = c.deref.ensures.value ∙ c.in_ok-nodes.ensures in
    let stripes_are : c.put_all.new.stripes.items ≡ fold placed c.self.inside.stripes.items (stripes_among (nodes_in c.args.up) c.self.inside.shape.n c.args.first (stripes c.self.inside.shape.k c.self.inside.shape.block c.args.bytes.now)) =
    c.put_all.ensures.placed
    ∙ ap (λ (xs : List Stripe). fold placed xs (reverse c.in_ok-added.added.items)) c.reserve-2.ensures.items
    ∙ ap (fold placed c.self.inside.stripes.items) c.in_ok-added.ensures
    ∙ ap (λ (ns : List ℕ). fold placed c.self.inside.stripes.items (stripes_among ns c.self.inside.shape.n c.args.first (stripes c.self.inside.code.k c.self.inside.shape.block c.args.bytes.now))) nodes
    ∙ ap (λ (k : ℕ). fold placed c.self.inside.stripes.items (stripes_among (nodes_in c.args.up) c.self.inside.shape.n c.args.first (stripes k c.self.inside.shape.block c.args.bytes.now))) c.self.invariant.k_is in
    let files_are : c.push_reserved.new.self.items ≡ c.self.inside.files.items ++ f ∷ [] =
    c.push_reserved.ensures.items ∙ ap (λ (fs : List File). fs ++ f ∷ []) c.reserve.ensures.items in
    let shape = c.self.inside.shape in
    let datas = stripes shape.k shape.block c.args.bytes.now in
    let added = stripes_among (nodes_in c.args.up) shape.n c.args.first datas in
    let count : c.stripe_count-count.result ≡ length added =
    c.stripe_count-count.ensures ∙ ap (λ (k : ℕ). stripe_count k shape.block c.args.len) c.self.invariant.k_is ∙ ap (stripe_count shape.k shape.block) c.requires.len
    ∙ sym (count_is shape.k shape.block c.args.bytes.now) ∙ sym (length-stripes_among (nodes_in c.args.up) shape.n c.args.first datas) in
    let file : file_of_fields c.args.name c.args.len c.args.first c.stripe_count-count.result ≡ file_of_fields c.args.name (length c.args.bytes.now) c.args.first (length added) =
    ap (λ (l : ℕ). file_of_fields c.args.name l c.args.first c.stripe_count-count.result) c.requires.len ∙ ap (file_of_fields c.args.name (length c.args.bytes.now) c.args.first) count in
    let files : reverse c.push_reserved.new.self.items ≡ file_of_fields c.args.name (length c.args.bytes.now) c.args.first (length added) ∷ reverse c.self.inside.files.items =
    ap reverse files_are ∙ reverse-append c.self.inside.files.items (file_of_fields c.args.name c.args.len c.args.first c.stripe_count-count.result ∷ [])
    ∙ ap (λ (x : File). x ∷ reverse c.self.inside.files.items) file in
    ap (λ (fs : List File). table_of_fields fs c.put_all.new.stripes.items c.self.inside.nodes.items) files
    ∙ ap (λ (ss : List Stripe). table_of_fields (file_of_fields c.args.name (length c.args.bytes.now) c.args.first (length added) ∷ reverse c.self.inside.files.items) ss c.self.inside.nodes.items) stripes_are
    ∙ ap (λ (s : Shaped). stored s.shape s.table c.args.name c.args.bytes.now c.args.first c.args.up) c.self.view_is
