use Rattle.std.proofs.Common.{◌≡◌, ◌+◌, ◌≤◌, ℕ, List, [], ◌∷◌, ◌++◌, length, true, Option, Some, None, cond, find, sym, ◌∙◌, ap, subst, arith}
use Rattle.std.specs.Prelude.{nat_le, nat_lt, bytes_eq}
use Rattle.std.specs.BTreeMap.{get}
use Rattle.std.proofs.lemmas.Bool.{and_parts, leb-true, ltb-true}
use Rattle.ecp_history.specs.table.Kept.{name_cmp}
use Rattle.ecp_catalog.specs.Catalogs.{FilesSeen}
use Rattle.ecp_catalog.specs.Standing.{FileSeen, file_with, has_number}
use Rattle.ecp_catalog.specs.Kept.{AreFiles, IsFile, covers, span_of, joined}
use Rattle.ecp_catalog.proofs.FileLaws.{unspanned, files-more}
use Rattle.ecp_catalog.proofs.file_list.FileList.store.Goals as goal

pub put_file-requires-clause-fresh : goal.put_file-requires-clause-fresh
put_file-requires-clause-fresh g c = λ s has.
    let f = c.args.file in
    let both : (nat_le f.first s ≡ true) × (nat_lt s (f.first + f.stripes) ≡ true) = and_parts (nat_le f.first s) (nat_lt s (f.first + f.stripes)) has in
    let fresh : file_with c.args.self.now.files s ≡ None = c.requires.fresh s (leb-true f.first s both.0) (ltb-true s (f.first + f.stripes) both.1) in
    unspanned c.self.inside.shape c.self.inside.files.items (λ q. joined (get name_cmp c.self.inside.names q)) c.self.inside.spans.items s c.self.invariant.0
    (subst (λ (x : FilesSeen). file_with x.files s ≡ None) (sym c.self.view_is) fresh)

pub invariant_of-self : goal.invariant_of-self
invariant_of-self g c =
    let files : List FileSeen = c.self.inside.files.items in
    let f : FileSeen = record { file = c.args.file; rows = c.args.rows.items } in
    let at : c.len-at.result ≡ length files = c.len-at.ensures ∙ c.self.inside.files.ok.0 in
    let kept : IsFile c.self.inside.shape f = subst (λ (x : FilesSeen). IsFile x.shape f) (sym c.self.view_is) (record { counted = c.requires.counted; below = c.requires.below; full = c.requires.full }) in
    let items : c.push_reserved.new.self.items ≡ files ++ f ∷ [] = c.push_reserved.ensures.items ∙ ap (λ (x : FileSeen). files ++ x ∷ []) c.new.ensures in
    let old : List ℕ → Option ℕ = λ q. joined (get name_cmp c.self.inside.names q) in
    let new : List ℕ → Option ℕ = λ q. joined (get name_cmp c.lead.new.names q) in
    let are : AreFiles c.self.inside.shape (files ++ f ∷ []) new c.put_file.new.spans.items =
    files-more c.self.inside.shape files f old new c.self.inside.spans.items c.put_file.new.spans.items c.self.invariant.0 kept
    (λ q. c.lead.ensures.leads q ∙ ap (λ (n : ℕ). cond (bytes_eq c.args.file.name q) (Some n) (old q)) at)
    (λ s. c.put_file.ensures.found s ∙ ap (λ (n : ℕ). cond (has_number s f) (Some (span_of c.args.file n)) (find (covers s) c.self.inside.spans.items)) at)
    c.put_file.ensures.spread
    (λ n h all. c.put_file.ensures.files n (omega (arith, at, h)) all)
    c.put_file.ensures.total
    (λ s has.
    let both : (nat_le c.args.file.first s ≡ true) × (nat_lt s (c.args.file.first + c.args.file.stripes) ≡ true) = and_parts (nat_le c.args.file.first s) (nat_lt s (c.args.file.first + c.args.file.stripes)) has in
    subst (λ (x : FilesSeen). file_with x.files s ≡ None) (sym c.self.view_is)
    (c.requires.fresh s (leb-true c.args.file.first s both.0) (ltb-true s (c.args.file.first + c.args.file.stripes) both.1))) in
    let room : 1 ≤ c.self.inside.room = subst (λ (x : FilesSeen). 1 ≤ x.room) (sym c.self.view_is) c.requires.room in (
      subst (λ (fs : List FileSeen). AreFiles c.self.inside.shape fs new c.put_file.new.spans.items) (sym items) are,
      record {
        files = omega (arith, room, c.self.invariant.1.files, c.push_reserved.ensures.len, c.push_reserved.ensures.capacity);
        spans = omega (arith, room, c.self.invariant.1.spans, c.put_file.ensures.len, c.put_file.ensures.room);
      },
    )
