-- The stripes of a file, made from the last to the first.
use Rattle.std.proofs.Common.{◌≡◌, ℕ, zero, suc, ◌+◌, ◌≤◌, true, List, [], ◌∷◌, ◌++◌, length, drop, reverse, Option, Some, None, refl, sym, ◌∙◌, ap, subst, arith, ◌*◌}
use Rattle.std.proofs.lemmas.List.{reverse-append, drop_all}
use Rattle.std.specs.Prelude.{slice_get}
use Rattle.std.proofs.lemmas.List.FromFn.{map-range_with_len_more, length-map-range_with_len}
use Rattle.ecp_code.specs.Stripes.{stripes, stripe_count, blocks}
use Rattle.ecp_history.specs.table.Placement.{place_among}
use Rattle.ecp_history.specs.table.Tables.{Stripe, Standing}
use Rattle.ecp_history.specs.table.Steps.{rows_among, stripes_among}

-- one row more
pub rows_among-more : (nodes : List ℕ) (n s : ℕ) → rows_among nodes (n + 1) s ≡ rows_among nodes n s ++ record { node = place_among nodes s n; live = true } ∷ []
rows_among-more nodes n s = map-range_with_len_more (λ (r : ℕ). let x : Standing = record { node = place_among nodes s r; live = true } in x) 0 n n (omega arith)

stripe_made : ℕ → List (List ℕ) → List Standing → Stripe
stripe_made number blocks rows = record { number = number; blocks = blocks; rows = rows }

-- the first of some data
drop-slice_get : (ds : List (List (List ℕ))) (j : ℕ) (d : List (List ℕ)) → slice_get ds j ≡ Some d → drop j ds ≡ d ∷ drop (suc j) ds
drop-slice_get [] j d h = cc
drop-slice_get (x ∷ ds) zero d h = ap (λ (o : Option (List (List ℕ))). either o) h where
  either : Option (List (List ℕ)) → List (List (List ℕ))
  either (Some y) = y ∷ ds
  either None = []
drop-slice_get (x ∷ ds) (suc j) d h = drop-slice_get ds j d h

-- one stripe more, before those that are made
pub stripes_among-step : (nodes : List ℕ) (n first j : ℕ) (ds : List (List (List ℕ))) (x : Stripe) (made : List Stripe)
    → slice_get ds j ≡ Some x.blocks → x.number ≡ first + j → x.rows ≡ rows_among nodes n (first + j)
    → reverse made ≡ stripes_among nodes n (first + suc j) (drop (suc j) ds)
    → reverse (made ++ x ∷ []) ≡ stripes_among nodes n (first + j) (drop j ds)
unfolding stripe_made
stripes_among-step nodes n first j ds x made is number rows rest =
    let next : first + suc j ≡ first + j + 1 = omega arith in
    let later : reverse made ≡ stripes_among nodes n (first + j + 1) (drop (suc j) ds) = subst (λ (m : ℕ). reverse made ≡ stripes_among nodes n m (drop (suc j) ds)) next rest in
    let whole : stripe_made x.number x.blocks x.rows ≡ stripe_made (first + j) x.blocks (rows_among nodes n (first + j)) =
    ap (λ (m : ℕ). stripe_made m x.blocks x.rows) number ∙ ap (stripe_made (first + j) x.blocks) rows in
    reverse-append made (x ∷ [])
    ∙ ap (λ (y : Stripe). y ∷ reverse made) whole
    ∙ ap (λ (ys : List Stripe). stripe_made (first + j) x.blocks (rows_among nodes n (first + j)) ∷ ys) later
    ∙ sym (ap (stripes_among nodes n (first + j)) (drop-slice_get ds j x.blocks is))

-- behind the last stripe there is none
pub none_left : (nodes : List ℕ) (n first k len count : ℕ) (bytes : List ℕ) → count ≡ stripe_count k len (length bytes)
    → [] ≡ stripes_among nodes n (first + count) (drop count (stripes k len bytes))
none_left nodes n first k len count bytes is =
    let as_many : length (stripes k len bytes) ≤ count = omega (arith, is, length-map-range_with_len (λ (i : ℕ). blocks k len (drop (i * (k * len)) bytes)) 0 (stripe_count k len (length bytes))) in
    sym (ap (stripes_among nodes n (first + count)) (drop_all count (stripes k len bytes) as_many))

-- how many stripes a file has
pub count_is : (k len : ℕ) (bytes : List ℕ) → length (stripes k len bytes) ≡ stripe_count k len (length bytes)
count_is k len bytes = length-map-range_with_len (λ (i : ℕ). blocks k len (drop (i * (k * len)) bytes)) 0 (stripe_count k len (length bytes))

pub length-stripes_among : (nodes : List ℕ) (n s : ℕ) (ds : List (List (List ℕ))) → length (stripes_among nodes n s ds) ≡ length ds
length-stripes_among nodes n s [] = refl
length-stripes_among nodes n s (d ∷ ds) = ap (λ (m : ℕ). suc m) (length-stripes_among nodes n (s + 1) ds)
