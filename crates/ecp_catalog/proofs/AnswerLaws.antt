-- The rows that are live, among those of a stripe.
use Rattle.std.proofs.Common.{◌≡◌, ℕ, suc, ◌+◌, ◌<◌, ◌≤◌, ◌==◌, Bool, true, false, cond, List, [], ◌∷◌, length, map, slice_get, filter, count_by, Option, Some, None, refl, sym, ◌∙◌, ap, subst, arith, drop, ◌-◌, ◌*◌, length-take}
use Rattle.std.specs.Prelude.{All}
use Rattle.std.specs.List.{AllByRecursion, enumerate_from}
use Rattle.std.specs.Option.{option_map, option_map_or}
use Rattle.std.proofs.lemmas.Bool.{and_parts}
use Rattle.std.proofs.lemmas.Option.{same_Some, slice_get_within, slice_get-map}
use Rattle.std.proofs.lemmas.List.Elements.{All-from_recursion}
use Rattle.std.proofs.lemmas.List.{length-map}
use Rattle.std.proofs.lemmas.List.Sums.{length-filter, sum_by-cons}
use Rattle.ecp_node.specs.Receipts.{ReceiptState}
use Rattle.ecp_history.specs.declared.table.node.Node.{Node}
use Rattle.ecp_history.specs.declared.table.standing.Standing.{Standing}
use Rattle.ecp_history.specs.table.Tables.{is_up}
use Rattle.ecp_plan.specs.declared.live_row.LiveRow.{LiveRow}
use Rattle.ecp_catalog.specs.Standing.{FileSeen, file_with, rows_in, standing, is_up_in, live_among}
use Rattle.ecp_catalog.specs.Catalogs.{CatalogState, plain, receipts_of, standings_of, is_live_in}

-- as many as are live
count_from : (n : ℕ) (xs : List Standing) → count_by (λ p. p.1.live) (enumerate_from n xs) ≡ count_by (λ x. x.live) xs
count_from n [] = refl
count_from n (x ∷ xs) =
    sum_by-cons (λ (p : ℕ × Standing). cond p.1.live 1 0) (n, x) (enumerate_from (n + 1) xs)
    ∙ ap (λ (m : ℕ). cond x.live 1 0 + m) (count_from (n + 1) xs)
    ∙ sym (sum_by-cons (λ (y : Standing). cond y.live 1 0) x xs)

pub length-live_among : (xs : List Standing) → length (live_among xs) ≡ count_by (λ x. x.live) xs
length-live_among xs =
    length-map (filter (λ (p : ℕ × Standing). p.1.live) (enumerate_from 0 xs)) (λ p. let y : LiveRow = record { row = p.0; node = p.1.node } in y)
    ∙ length-filter (λ (p : ℕ × Standing). p.1.live) (enumerate_from 0 xs) ∙ count_from 0 xs

module _ (P : LiveRow → Type 0) where
  -- what holds of each live row holds of all
  all-from : (n : ℕ) (xs : List Standing) → ((i : ℕ) (y : Standing) → slice_get xs i ≡ Some y → y.live ≡ true → P (record { row = n + i; node = y.node }))
      → AllByRecursion P (map (λ p. record { row = p.0; node = p.1.node }) (filter (λ p. p.1.live) (enumerate_from n xs)))
  all-from n [] each = tt
  all-from n (x ∷ xs) each = one x.live refl (all-from (n + 1) xs (λ i y is live. subst (λ (k : ℕ). P (record { row = k; node = y.node })) (omega arith) (each (suc i) y is live))) where
    one : (b : Bool) → x.live ≡ b → AllByRecursion P (map (λ p. record { row = p.0; node = p.1.node }) (filter (λ p. p.1.live) (enumerate_from (n + 1) xs)))
        → AllByRecursion P (map (λ p. record { row = p.0; node = p.1.node }) (cond b ((n, x) ∷ filter (λ p. p.1.live) (enumerate_from (n + 1) xs)) (filter (λ p. p.1.live) (enumerate_from (n + 1) xs))))
    one true live more = (subst (λ (k : ℕ). P (record { row = k; node = x.node })) (omega arith) (each 0 x refl live), more)
    one false live more = more

  pub all_live : (xs : List Standing) → ((i : ℕ) (y : Standing) → slice_get xs i ≡ Some y → y.live ≡ true → P (record { row = i; node = y.node })) → All P (live_among xs)
  all_live xs each = All-from_recursion P (live_among xs) (all-from 0 xs (λ i y is live. subst (λ (k : ℕ). P (record { row = k; node = y.node })) (omega arith) (each i y is live)))

-- a row that stands live is on a node that is up
up_where : (nodes : List Node) (x : ReceiptState) → (standing nodes x).live ≡ true → option_map_or (λ y. y.up) (slice_get nodes x.node) false ≡ true
up_where nodes x live = one (slice_get nodes x.node) live where
  one : (o : Option Node) → option_map_or (is_up_in x.inc) o false ≡ true → option_map_or (λ y. y.up) o false ≡ true
  one None h = h
  one (Some y) h = (and_parts y.up (y.inc == x.inc) h).0

stands_up : (nodes : List Node) (o : Option ReceiptState) (y : Standing) → option_map (standing nodes) o ≡ Some y → y.live ≡ true
    → option_map_or (λ z. z.up) (slice_get nodes y.node) false ≡ true
stands_up nodes None y is live = cc
stands_up nodes (Some x) y is live =
    let same : standing nodes x ≡ y = same_Some (standing nodes x) y is in
    subst (λ (m : ℕ). option_map_or (λ z. z.up) (slice_get nodes m) false ≡ true) (ap (λ (z : Standing). z.node) same)
    (up_where nodes x (ap (λ (z : Standing). z.live) same ∙ live))

-- the live rows of a stripe are rows that it has, on nodes that are up
pub live_rows_there : (c : CatalogState) (s : ℕ) → All (λ x. (x.row < c.shape.n) × (is_live_in c s x.row ≡ true) × (is_up (plain c) x.node ≡ true)) (live_among (standings_of c s))
live_rows_there c s = all_live (λ x. (x.row < c.shape.n) × (is_live_in c s x.row ≡ true) × (is_up (plain c) x.node ≡ true)) (standings_of c s) (λ i y is live. (
  omega (arith, slice_get_within (standings_of c s) i y is, length-map (receipts_of c s) (standing (plain c).nodes), few (file_with c.files s)),
  ap (λ (o : Option Standing). option_map_or (λ z. z.live) o false) is ∙ live,
  stands_up (plain c).nodes (slice_get (receipts_of c s) i) y (sym (slice_get-map (standing (plain c).nodes) (receipts_of c s) i) ∙ is) live,
))
  where
    few : (o : Option FileSeen) → length (option_map_or (rows_in c.shape.n s) o []) ≤ c.shape.n
    few None = omega arith
    few (Some f) = omega (arith, length-take c.shape.n (drop ((s - f.file.first) * c.shape.n) f.rows))
