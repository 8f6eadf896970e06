use Rattle.std.proofs.Common.{◌≡◌, List, [], ◌∷◌, length, sym, ◌∙◌, ap, subst, arith, ℕ}
use Rattle.ecp_code.specs.Stripes.{stripes}
use Rattle.ecp_entry.specs.declared.act.Act.{Act}
use Rattle.ecp_entry.specs.declared.act.Act.TheVariants.{Stored}
use Rattle.ecp_entry.specs.declared.entry.Entry.{Entry}
use Rattle.ecp_shape.specs.declared.shape.Shape.{Shape}
use Rattle.ecp_history.specs.table.Changes.{CanChange}
use Rattle.ecp_history.specs.table.Tables.{PlainTable, start}
use Rattle.ecp_history.proofs.tables.MaskLaws.{up_nodes}
use Rattle.ecp_history.proofs.table_tests.with_file.Goals as goal

abbrev three : Shape
three = record { n = 3; k = 2; nodes = 3; block = 1 }

abbrev put : Act
put = Stored 0 1 7

abbrev two : List ℕ
two = 65 ∷ 66 ∷ []

can_store : (shape : Shape) (t : PlainTable) (e : Entry) (act : Act) → shape ≡ three → act ≡ put → e.bytes ≡ two → CanChange shape t e act
can_store shape t e act sizes is bytes =
    subst (λ (s : Shape). CanChange s t e act) (sym sizes)
    (subst (λ (a : Act). CanChange three t e a) (sym is) (record {
      enough = omega arith;
      nodes = (up_nodes (start three) (omega arith)).1;
      counted = sym (ap (λ (xs : List ℕ). length (stripes 2 1 xs)) bytes);
      numbers = omega arith;
    }))

pub after-requires-clause-changes : goal.after-requires-clause-changes
after-requires-clause-changes c =
    can_store c.in_ok-table.table.shape c.in_ok-table.table.table (record { line = c.entry_of-entry.result.line; deed = c.entry_of-entry.result.deed; name = c.new-3.result; bytes = c.new-4.result }) c.entry_of-entry.result.line.act
    c.in_ok-table.ensures.shape (ap (λ (e : Entry). e.line.act) c.entry_of-entry.ensures) (c.new-4.ensures ∙ c.in_ok-vec-2.ensures.items)
