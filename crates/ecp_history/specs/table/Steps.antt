-- What each entry changes, and the table at each position.
use Rattle.std.specs.Prelude.{ℕ, zero, suc, ◌+◌, ◌==◌, nat_lt, true, false, if◌then◌else◌, List, [], ◌∷◌, length, map, fold, take, slice_get, slice_set}
use Rattle.std.specs.List.{range_with_len}
use Rattle.std.specs.Option.{option_map_or}
use Rattle.ecp_code.specs.Stripes.{stripes}
use Rattle.ecp_entry.specs.declared.act.Act.{Act}
use Rattle.ecp_entry.specs.declared.act.Act.TheVariants.{Stored, Lost, Joined, Restored, Drop}
use Rattle.ecp_entry.specs.declared.entry.Entry.{Entry}
use Rattle.ecp_shape.specs.declared.shape.Shape.{Shape}
use Rattle.ecp_entry.specs.Entries.{deed_node}
use Rattle.ecp_history.specs.table.Placement.{nodes_in, place_among}
use Rattle.ecp_history.specs.table.Tables.{Standing, Stripe, PlainTable, start}

-- the n rows of a stripe, each live on its place among these nodes
abbrev pub rows_among : List ℕ → ℕ → ℕ → List Standing
rows_among nodes n s = map (λ r. record { node = place_among nodes s r; live = true }) (range_with_len 0 n)

-- the stripes of n rows with these data, numbered from s on, each row live on its place among these nodes
abbrev pub stripes_among : List ℕ → ℕ → ℕ → List (List (List ℕ)) → List Stripe
stripes_among nodes n s [] = []
stripes_among nodes n s (blocks ∷ more) = record { number = s; blocks = blocks; rows = rows_among nodes n s } ∷ stripes_among nodes n (s + 1) more

-- a stripe at its place in rising order of numbers, in place of one of its number
abbrev pub placed : List Stripe → Stripe → List Stripe
placed [] x = x ∷ []
placed (y ∷ ys) x =
    if nat_lt x.number y.number then x ∷ y ∷ ys
    else if x.number == y.number then x ∷ ys
    else y ∷ placed ys x

-- the name has the file, with its length, its first stripe and its data; its stripes are there, all rows live
abbrev pub stored : Shape → PlainTable → List ℕ → List ℕ → ℕ → ℕ → PlainTable
stored shape t name bytes first up =
    let added : List Stripe = stripes_among (nodes_in up) shape.n first (stripes shape.k shape.block bytes) in
    record {
      files = record { name = name; len = length bytes; first = first; stripes = length added } ∷ t.files;
      stripes = fold placed t.stripes added;
      nodes = t.nodes;
    }

-- the row, lost where it stands on this node
abbrev pub without_node : ℕ → Standing → Standing
without_node m x = if x.node == m then record { node = x.node; live = false } else x

-- each stripe, with its rows changed
abbrev pub with_rows : (Stripe → List Standing) → List Stripe → List Stripe
with_rows change xs = map (λ x. record { number = x.number; blocks = x.blocks; rows = change x }) xs

-- the node is down, and every block on it is lost
abbrev pub lost : PlainTable → ℕ → PlainTable
lost t m = record {
  files = t.files;
  stripes = with_rows (λ x. map (without_node m) x.rows) t.stripes;
  nodes = slice_set t.nodes m (record { up = false; inc = option_map_or (λ x. x.inc) (slice_get t.nodes m) 0 });
}

-- the node is up in this incarnation
abbrev pub joined : PlainTable → ℕ → ℕ → PlainTable
joined t m inc = record { files = t.files; stripes = t.stripes; nodes = slice_set t.nodes m (record { up = true; inc = inc }) }

-- the row of these that has this number, changed
abbrev pub change_row : (Standing → Standing) → ℕ → List Standing → List Standing
change_row change r [] = []
change_row change zero (x ∷ xs) = change x ∷ xs
change_row change (suc r) (x ∷ xs) = x ∷ change_row change r xs

-- a row that is live on this node, wherever it stood
abbrev pub live_onto : ℕ → Standing → Standing
live_onto node x = record { node = node; live = true }

-- a row that is lost where it stands
abbrev pub given_up : Standing → Standing
given_up x = record { node = x.node; live = false }

-- each stripe, with one row of the one of this number changed
abbrev pub with_row : ℕ → ℕ → (Standing → Standing) → List Stripe → List Stripe
with_row s r change xs = with_rows (λ x. if x.number == s then change_row change r x.rows else x.rows) xs

-- one row of one stripe stands otherwise, and nothing else changes
abbrev pub with_block : PlainTable → ℕ → ℕ → (Standing → Standing) → PlainTable
with_block t s r change = record {
  files = t.files;
  stripes = with_row s r change t.stripes;
  nodes = t.nodes;
}

-- the table after an act: `Stored`, `Lost`, `Joined`, `Restored` and `Drop` change it, and no other
abbrev pub after_act : Shape → PlainTable → Entry → Act → PlainTable
after_act shape t e (Stored first stripes up) = stored shape t e.name e.bytes first up
after_act shape t e (Lost count) = option_map_or (lost t) (deed_node e.deed) t
after_act shape t e (Joined inc) = option_map_or (λ m. joined t m inc) (deed_node e.deed) t
after_act shape t e (Restored stripe row node inc) = with_block t stripe row (live_onto node)
after_act shape t e (Drop stripe row) = with_block t stripe row given_up
after_act shape t e _ = t

-- the table after an entry
abbrev pub after : Shape → PlainTable → Entry → PlainTable
after shape t e = after_act shape t e e.line.act

-- the table that a history makes
abbrev pub table_of : Shape → List Entry → PlainTable
table_of shape history = fold (after shape) (start shape) history

-- the table at a position: that of the entries before it
abbrev pub table_at : Shape → List Entry → ℕ → PlainTable
table_at shape history j = table_of shape (take j history)
