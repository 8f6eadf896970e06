-- Which blocks are lost on a node, over the spans of files and over the stripes of a table, and their tasks.
use Rattle.std.proofs.Common.{◌≡◌, ◌≢◌, ℕ, zero, suc, ◌+◌, ◌-◌, ◌*◌, ◌^◌, ◌<◌, ◌≤◌, ◌==◌, ◌&&◌, Bool, true, false, cond, List, [], ◌∷◌, ◌++◌, length, map, take, reverse, get_or, slice_get, find, filter, count_by, flat_map, is_some, Option, Some, None, refl, sym, ◌∙◌, ap, subst, arith, append-nil, append_assoc, length-append, mul-le-mul_right, length-take, drop, inl, inr}
use Rattle.std.specs.Prelude.{nat_le, nat_lt, not, option_map}
use Rattle.std.specs.List.{AllByRecursion, enumerate_from, range_with_len}
use Rattle.std.specs.Option.{option_map_or}
use Rattle.std.proofs.lemmas.Bool.{cases_lt, eq-eqb, false≢true, ne_eqb}
use Rattle.std.proofs.lemmas.Bool.Decides.{nat_tests}
use Rattle.std.proofs.lemmas.List.{get_or_default, length-map, map-append, take_more}
use Rattle.std.proofs.lemmas.Grind.{flat_map-append}
use Rattle.std.proofs.lemmas.List.Elements.{filter-append, recursion_from_All}
use Rattle.std.proofs.lemmas.List.Sums.{count_by-le-length, length-filter, sum_by-cons}
use Rattle.ecp_shape.specs.declared.shape.Shape.{Shape}
use Rattle.ecp_shape.specs.declared.limits.TheConstants.{MAX_ROWS}
use Rattle.ecp_entry.specs.declared.entry.Entry.{Entry}
use Rattle.ecp_node.specs.Receipts.{ReceiptState}
use Rattle.ecp_history.specs.declared.table.block_name.BlockName.{BlockName}
use Rattle.ecp_history.specs.declared.table.node.Node.{Node}
use Rattle.ecp_history.specs.declared.table.standing.Standing.{Standing}
use Rattle.ecp_history.specs.declared.task.Task.{Task}
use Rattle.ecp_history.specs.table.Rising.{IsRising}
use Rattle.ecp_history.specs.table.Steps.{table_of}
use Rattle.ecp_history.specs.table.Tables.{Stripe, PlainTable, stands_lost, lost_rows, lost_on, stripe_of}
use Rattle.ecp_history.proofs.tables.OrderLaws.{find-rising}
use Rattle.ecp_catalog.specs.declared.limits.TheConstants.{END_OF_STRIPES}
use Rattle.ecp_catalog.specs.declared.span.Span.{Span}
use Rattle.ecp_catalog.specs.Standing.{FileSeen, file_with, receipts_in, rows_in, standing}
use Rattle.ecp_catalog.specs.Catalogs.{CatalogState}
use Rattle.ecp_catalog.specs.Kept.{AreFiles, IsFile, IsSpread, covers}
use Rattle.ecp_catalog.specs.LostBlocks.{lost_by, lost_among, lost_in, numbers_end, task_of, tasks_of, with_tasks}
use Rattle.ecp_catalog.specs.Outline.{IsOutline}
use Rattle.ecp_catalog.proofs.LossLaws.{enumerate-more}
use Rattle.ecp_catalog.proofs.SpanLaws.{none-before, some-at}
use Rattle.ecp_catalog.proofs.FileLaws.{HasStripe, span-leads, span-none}
use Rattle.ecp_catalog.proofs.RestoreLaws.{rising_table}

-- ---- tasks

-- the tasks of some blocks, whose parts are numbered from n on
abbrev numbered : ℕ → List BlockName → List Task
numbered n blocks = map (λ p. task_of p.0 p.1) (enumerate_from n blocks)

numbered-append : (n : ℕ) (xs ys : List BlockName) → numbered n (xs ++ ys) ≡ numbered n xs ++ numbered (n + length xs) ys
numbered-append n [] ys =
    let here : n ≡ n + 0 = omega arith in
    ap (λ (k : ℕ). numbered k ys) here
numbered-append n (x ∷ xs) ys =
    let next : n + 1 + length xs ≡ n + length (x ∷ xs) = omega arith in
    ap (λ (ts : List Task). task_of n x ∷ ts) (numbered-append (n + 1) xs ys ∙ ap (λ (k : ℕ). numbered (n + 1) xs ++ numbered k ys) next)

pub length-numbered : (n : ℕ) (xs : List BlockName) → length (numbered n xs) ≡ length xs
length-numbered n [] = refl
length-numbered n (x ∷ xs) = ap (λ (k : ℕ). suc k) (length-numbered (n + 1) xs)

pub length-put : (ts : List Task) (xs : List BlockName) → length (with_tasks ts xs) ≡ length ts + length xs
length-put ts xs = length-append ts (numbered (length ts + 1) xs) ∙ ap (λ (k : ℕ). length ts + k) (length-numbered (length ts + 1) xs)

-- tasks put behind, and then more
pub put-more : (ts : List Task) (xs ys : List BlockName) → with_tasks (with_tasks ts xs) ys ≡ with_tasks ts (xs ++ ys)
put-more ts xs ys =
    let first : List Task = numbered (length ts + 1) xs in
    let next : length (with_tasks ts xs) + 1 ≡ length ts + 1 + length xs = omega (arith, length-put ts xs) in
    append_assoc ts first (numbered (length (with_tasks ts xs) + 1) ys)
    ∙ ap (λ (k : ℕ). ts ++ (first ++ numbered k ys)) next
    ∙ ap (λ (us : List Task). ts ++ us) (sym (numbered-append (length ts + 1) xs ys))

pub put-none : (ts : List Task) → ts ≡ with_tasks ts []
put-none ts = sym (append-nil ts)

-- task j is that of block j
task-at : (n j : ℕ) (xs : List BlockName) → slice_get (numbered n xs) j ≡ option_map (task_of (n + j)) (slice_get xs j)
task-at n j [] = refl
task-at n zero (x ∷ xs) =
    let here : n ≡ n + 0 = omega arith in
    ap (λ (k : ℕ). Some (task_of k x)) here
task-at n (suc j) (x ∷ xs) =
    let next : n + 1 + j ≡ n + suc j = omega arith in
    task-at (n + 1) j xs ∙ ap (λ (k : ℕ). option_map (task_of k) (slice_get xs j)) next

pub each-task : (xs : List BlockName) (j : ℕ) → slice_get (tasks_of xs) j ≡ option_map (task_of (j + 1)) (slice_get xs j)
each-task xs j =
    let next : 1 + j ≡ j + 1 = omega arith in
    task-at 1 j xs ∙ ap (λ (k : ℕ). option_map (task_of k) (slice_get xs j)) next

-- ---- the rows of a stripe

lost_rows-more : (m s : ℕ) (xs : List Standing) (y : Standing)
    → lost_rows m (record { number = s; blocks = []; rows = xs ++ y ∷ [] }) ≡ lost_rows m (record { number = s; blocks = []; rows = xs }) ++ cond (stands_lost m y) (record { stripe = s; row = length xs } ∷ []) []
lost_rows-more m s xs y =
    ap (λ (ps : List (ℕ × Standing)). map made (filter (λ (p : ℕ × Standing). stands_lost m p.1) ps)) (enumerate-more 0 xs y)
    ∙ ap (map made) (filter-append (λ (p : ℕ × Standing). stands_lost m p.1) (enumerate_from 0 xs) ((0 + length xs, y) ∷ []))
    ∙ map-append made (filter (λ (p : ℕ × Standing). stands_lost m p.1) (enumerate_from 0 xs)) (filter (λ (p : ℕ × Standing). stands_lost m p.1) ((0 + length xs, y) ∷ []))
    ∙ ap (λ (bs : List BlockName). lost_rows m (record { number = s; blocks = []; rows = xs }) ++ bs) (one (stands_lost m y))
  where
    made : ℕ × Standing → BlockName
    made p = record { stripe = s; row = p.0 }

    one : (b : Bool) → map (λ (p : ℕ × Standing). let x : BlockName = record { stripe = s; row = p.0 } in x) (cond b ((0 + length xs, y) ∷ []) []) ≡ cond b (record { stripe = s; row = length xs } ∷ []) []
    one true =
        let none : 0 + length xs ≡ length xs = omega arith in
        ap (λ (n : ℕ). let x : BlockName = record { stripe = s; row = n } in x ∷ []) none
    one false = refl

-- one row more
pub lost_by-more : (nodes : List Node) (m s : ℕ) (rows : List ReceiptState) (k : ℕ) (x : ReceiptState) → k < length rows → x ≡ get_or rows k x
    → lost_by nodes m s (take (k + 1) rows) ≡ lost_by nodes m s (take k rows) ++ cond (stands_lost m (standing nodes x)) (record { stripe = s; row = k } ∷ []) []
lost_by-more nodes m s rows k x low is =
    let xs : List Standing = map (standing nodes) (take k rows) in
    let count : length xs ≡ k = omega (arith, length-map (take k rows) (standing nodes), length-take k rows, low) in
    let taken : take (k + 1) rows ≡ take k rows ++ x ∷ [] = take_more rows k x low ∙ ap (λ (y : ReceiptState). take k rows ++ y ∷ []) (sym is) in
    ap (λ (ys : List ReceiptState). lost_by nodes m s ys) taken
    ∙ ap (λ (ys : List Standing). lost_rows m (record { number = s; blocks = []; rows = ys })) (map-append (standing nodes) (take k rows) (x ∷ []))
    ∙ lost_rows-more m s xs (standing nodes x)
    ∙ ap (λ (n : ℕ). lost_by nodes m s (take k rows) ++ cond (stands_lost m (standing nodes x)) (record { stripe = s; row = n } ∷ []) []) count

count_from : (m n : ℕ) (xs : List Standing) → count_by (λ p. stands_lost m p.1) (enumerate_from n xs) ≡ count_by (stands_lost m) xs
count_from m n [] = refl
count_from m n (x ∷ xs) =
    sum_by-cons (λ (p : ℕ × Standing). cond (stands_lost m p.1) 1 0) (n, x) (enumerate_from (n + 1) xs)
    ∙ ap (λ (k : ℕ). cond (stands_lost m x) 1 0 + k) (count_from m (n + 1) xs)
    ∙ sym (sum_by-cons (λ (y : Standing). cond (stands_lost m y) 1 0) x xs)

-- no more are lost than there are
pub length-lost_by : (nodes : List Node) (m s : ℕ) (rows : List ReceiptState) → length (lost_by nodes m s rows) ≤ length rows
length-lost_by nodes m s rows =
    let xs : List Standing = map (standing nodes) rows in
    let all : length (lost_by nodes m s rows) ≡ count_by (stands_lost m) xs =
    length-map (filter (λ (p : ℕ × Standing). stands_lost m p.1) (enumerate_from 0 xs)) (λ p. let y : BlockName = record { stripe = s; row = p.0 } in y)
    ∙ length-filter (λ (p : ℕ × Standing). stands_lost m p.1) (enumerate_from 0 xs) ∙ count_from m 0 xs in
    omega (arith, all, count_by-le-length (stands_lost m) xs, length-map rows (standing nodes))

-- what is put by the rows before row k, and by that one
module _ (nodes : List Node) (m s k : ℕ) (rows : List ReceiptState) (x : ReceiptState) (old ts : List Task) (are : ts ≡ with_tasks old (lost_by nodes m s (take k rows))) (low : k < length rows) (is : x ≡ get_or rows k x) where
  pub room-left : length ts < length old + length rows
  room-left = omega (arith, ap length are, length-put old (lost_by nodes m s (take k rows)), length-lost_by nodes m s (take k rows), length-take k rows, low)

  pub put-lost : x.node ≡ m → (standing nodes x).live ≡ false → ts ++ record { part = length ts + 1; stripe = s; row = k } ∷ [] ≡ with_tasks old (lost_by nodes m s (take (k + 1) rows))
  put-lost on lost =
      let stands : stands_lost m (standing nodes x) ≡ true = ap (λ (b : Bool). not b && (x.node == m)) lost ∙ eq-eqb x.node m on in
      let more : lost_by nodes m s (take (k + 1) rows) ≡ lost_by nodes m s (take k rows) ++ record { stripe = s; row = k } ∷ [] =
      lost_by-more nodes m s rows k x low is ∙ ap (λ (b : Bool). lost_by nodes m s (take k rows) ++ cond b (record { stripe = s; row = k } ∷ []) []) stands in
      ap (λ (us : List Task). with_tasks us (record { stripe = s; row = k } ∷ [])) are
      ∙ put-more old (lost_by nodes m s (take k rows)) (record { stripe = s; row = k } ∷ []) ∙ ap (with_tasks old) (sym more)

  pub put-other : stands_lost m (standing nodes x) ≡ false → ts ≡ with_tasks old (lost_by nodes m s (take (k + 1) rows))
  put-other other =
      let more : lost_by nodes m s (take (k + 1) rows) ≡ lost_by nodes m s (take k rows) =
      lost_by-more nodes m s rows k x low is ∙ ap (λ (b : Bool). lost_by nodes m s (take k rows) ++ cond b (record { stripe = s; row = k } ∷ []) []) other
      ∙ append-nil (lost_by nodes m s (take k rows)) in
      are ∙ ap (with_tasks old) (sym more)

  pub put-live : (standing nodes x).live ≡ true → ts ≡ with_tasks old (lost_by nodes m s (take (k + 1) rows))
  put-live live = put-other (ap (λ (b : Bool). not b && (x.node == m)) live)

  pub put-elsewhere : x.node ≢ m → ts ≡ with_tasks old (lost_by nodes m s (take (k + 1) rows))
  put-elsewhere off = put-other (ap (λ (b : Bool). not (standing nodes x).live && b) (ne_eqb x.node m off) ∙ neither (not (standing nodes x).live)) where
    neither : (b : Bool) → (b && false) ≡ false
    neither true = refl
    neither false = refl

-- ---- ranges of numbers

module _ {B : Type 0} (G : ℕ → List B) where
  range-split : (a n k : ℕ) → flat_map G (range_with_len a (n + k)) ≡ flat_map G (range_with_len a n) ++ flat_map G (range_with_len (a + n) k)
  range-split a zero k =
      let none : 0 + k ≡ k = omega arith in
      let here : a ≡ a + 0 = omega arith in
      ap (λ (j : ℕ). flat_map G (range_with_len a j)) none ∙ ap (λ (b : ℕ). flat_map G (range_with_len b k)) here
  range-split a (suc n) k =
      let more : suc n + k ≡ suc (n + k) = omega arith in
      let next : a + 1 + n ≡ a + suc n = omega arith in
      ap (λ (j : ℕ). flat_map G (range_with_len a j)) more
      ∙ ap (λ (bs : List B). G a ++ bs) (range-split (a + 1) n k ∙ ap (λ (b : ℕ). flat_map G (range_with_len (a + 1) n) ++ flat_map G (range_with_len b k)) next)
      ∙ sym (append_assoc (G a) (flat_map G (range_with_len (a + 1) n)) (flat_map G (range_with_len (a + suc n) k)))

  range-none : (a n : ℕ) → ((s : ℕ) → a ≤ s → s < a + n → G s ≡ []) → flat_map G (range_with_len a n) ≡ []
  range-none a zero none = refl
  range-none a (suc n) none =
      ap (λ (bs : List B). bs ++ flat_map G (range_with_len (a + 1) n)) (none a (omega arith) (omega arith))
      ∙ range-none (a + 1) n (λ s low high. none s (omega (arith, low)) (omega (arith, high)))

  -- up to a number and from it on
  range-to : (a b e : ℕ) → a ≤ b → b ≤ e → flat_map G (range_with_len a (e - a)) ≡ flat_map G (range_with_len a (b - a)) ++ flat_map G (range_with_len b (e - b))
  range-to a b e low high =
      let whole : e - a ≡ (b - a) + (e - b) = omega (arith, low, high) in
      let there : a + (b - a) ≡ b = omega (arith, low) in
      ap (λ (n : ℕ). flat_map G (range_with_len a n)) whole ∙ range-split a (b - a) (e - b)
      ∙ ap (λ (c : ℕ). flat_map G (range_with_len a (b - a)) ++ flat_map G (range_with_len c (e - b))) there

  -- one number
  range-one : (a : ℕ) → flat_map G (range_with_len a 1) ≡ G a
  range-one a = append-nil (G a)

  -- one number more
  pub range-more : (a s : ℕ) → a ≤ s → flat_map G (range_with_len a (s + 1 - a)) ≡ flat_map G (range_with_len a (s - a)) ++ G s
  range-more a s low =
      let one : s + 1 - s ≡ 1 = omega arith in
      range-to a s (s + 1) low (omega arith)
      ∙ ap (λ (n : ℕ). flat_map G (range_with_len a (s - a)) ++ flat_map G (range_with_len s n)) one
      ∙ ap (λ (bs : List B). flat_map G (range_with_len a (s - a)) ++ bs) (range-one s)

  pub range-same : (H : ℕ → List B) (a n : ℕ) → ((s : ℕ) → a ≤ s → s < a + n → G s ≡ H s) → flat_map G (range_with_len a n) ≡ flat_map H (range_with_len a n)
  range-same H a zero same = refl
  range-same H a (suc n) same =
      ap (λ (bs : List B). bs ++ flat_map G (range_with_len (a + 1) n)) (same a (omega arith) (omega arith))
      ∙ ap (λ (bs : List B). H a ++ bs) (range-same H (a + 1) n (λ s low high. same s (omega (arith, low)) (omega (arith, high))))

  -- where there is nothing behind two ends
  same-ends : (a b : ℕ) → ((s : ℕ) → a ≤ s → G s ≡ []) → ((s : ℕ) → b ≤ s → G s ≡ []) → flat_map G (range_with_len 0 a) ≡ flat_map G (range_with_len 0 b)
  same-ends a b past_a past_b =
      let turned : a + b ≡ b + a = omega arith in
      sym (one a b past_a) ∙ ap (λ (n : ℕ). flat_map G (range_with_len 0 n)) turned ∙ one b a past_b
    where
      one : (e n : ℕ) → ((s : ℕ) → e ≤ s → G s ≡ []) → flat_map G (range_with_len 0 (e + n)) ≡ flat_map G (range_with_len 0 e)
      one e n past =
          range-split 0 e n ∙ ap (λ (bs : List B). flat_map G (range_with_len 0 e) ++ bs) (range-none (0 + e) n (λ s low high. past s (omega (arith, low))))
          ∙ append-nil (flat_map G (range_with_len 0 e))

  pub length-range : (n : ℕ) → ((s : ℕ) → length (G s) ≤ n) → (a k : ℕ) → length (flat_map G (range_with_len a k)) ≤ k * n
  length-range n each a zero = omega arith
  length-range n each a (suc k) =
      let split : suc k * n ≡ k * n + n = omega arith in
      omega (arith, split, length-append (G a) (flat_map G (range_with_len (a + 1) k)), each a, length-range n each (a + 1) k)

  -- ---- spans

  -- all numbers of a span
  abbrev pub over : Span → List B
  over x = flat_map G (range_with_len x.first (x.end - x.first))

  over-spans : (from to : ℕ) (xs : List Span) → IsSpread from to xs → ((s : ℕ) → from ≤ s → find (covers s) xs ≡ None → G s ≡ [])
      → flat_map over xs ≡ flat_map G (range_with_len from (to - from))
  over-spans from to [] spread none = sym (range-none from (to - from) (λ s low high. none s low refl))
  over-spans from to (x ∷ xs) spread none =
      let before : flat_map G (range_with_len from (x.first - from)) ≡ [] =
      range-none from (x.first - from) (λ s low high. none s low (none-before x.first to s (x ∷ xs) (omega arith, spread.1, spread.2) (omega (arith, spread.0, high)))) in
      let behind : flat_map over xs ≡ flat_map G (range_with_len x.end (to - x.end)) =
      over-spans x.end to xs spread.2 (λ s low is. none s (omega (arith, spread.0, spread.1, low)) (past s low is)) in
      let ends : x.end ≤ to = spread-le x.end to xs spread.2 in
      sym (
      range-to from x.first to spread.0 (omega (arith, spread.1, ends))
      ∙ ap (λ (bs : List B). bs ++ flat_map G (range_with_len x.first (to - x.first))) before
      ∙ range-to x.first x.end to (omega (arith, spread.1)) ends
      ∙ ap (λ (bs : List B). over x ++ bs) (sym behind)
      )
    where
      spread-le : (a b : ℕ) (ys : List Span) → IsSpread a b ys → a ≤ b
      spread-le a b [] h = h
      spread-le a b (y ∷ ys) h = omega (arith, h.0, h.1, spread-le y.end b ys h.2)

      past : (s : ℕ) → x.end ≤ s → find (covers s) xs ≡ None → find (covers s) (x ∷ xs) ≡ None
      past s low is =
          let off : (nat_le x.first s && nat_lt s x.end) ≡ false = grind (arith, nat_tests) in
          rw off is

  -- one span more
  pub over-more : (xs : List Span) (i : ℕ) (d : Span) → i < length xs → flat_map over (take (i + 1) xs) ≡ flat_map over (take i xs) ++ over (get_or xs i d)
  over-more xs i d h =
      ap (flat_map over) (take_more xs i d h) ∙ flat_map-append over (take i xs) (get_or xs i d ∷ [])
      ∙ ap (λ (bs : List B). flat_map over (take i xs) ++ bs) (append-nil (over (get_or xs i d)))

  -- the first ones are before the next
  pub length-over : (n : ℕ) → ((s : ℕ) → length (G s) ≤ n) → (from to i : ℕ) (xs : List Span) (d : Span) → IsSpread from to xs → i < length xs
      → length (flat_map over (take i xs)) + from * n ≤ (get_or xs i d).first * n
  length-over n each from to i [] d spread h = absurd (omega arith)
  length-over n each from to zero (x ∷ xs) d spread h =
      let low : from * n ≤ x.first * n = mul-le-mul_right n spread.0 in
      omega (arith, low)
  length-over n each from to (suc i) (x ∷ xs) d spread h =
      let here : length (over x) ≤ (x.end - x.first) * n = length-range n each x.first (x.end - x.first) in
      let low : from * n ≤ x.first * n = mul-le-mul_right n spread.0 in
      let ends : (x.end - x.first) + x.first ≡ x.end = omega (arith, spread.1) in
      let parts : (x.end - x.first) * n + x.first * n ≡ x.end * n = both (x.end - x.first) x.first n ∙ ap (λ (k : ℕ). k * n) ends in
      omega (arith, length-append (over x) (flat_map over (take i xs)), here, low, parts, length-over n each x.end to i xs d spread.2 (omega arith))
    where
      both : (a b k : ℕ) → a * k + b * k ≡ (a + b) * k
      both a b k = omega arith

-- nothing is past the last of them
none-past : (from to s : ℕ) (xs : List Span) → IsSpread from to xs → to ≤ s → find (covers s) xs ≡ None
none-past from to s [] spread high = refl
none-past from to s (x ∷ xs) spread high =
    let ends : x.end ≤ s = up-to x.end xs spread.2 in
    let off : (nat_le x.first s && nat_lt s x.end) ≡ false = grind (arith, nat_tests) in
    rw off (none-past x.end to s xs spread.2 high)
  where
    up-to : (a : ℕ) (ys : List Span) → IsSpread a to ys → a ≤ s
    up-to a [] h = omega (arith, h, high)
    up-to a (y ∷ ys) h = omega (arith, h.0, h.1, up-to y.end ys h.2)

begins-above : (from to i : ℕ) (xs : List Span) (d : Span) → IsSpread from to xs → i < length xs → from ≤ (get_or xs i d).first
begins-above from to i [] d spread h = absurd (omega arith)
begins-above from to zero (x ∷ xs) d spread h = spread.0
begins-above from to (suc i) (x ∷ xs) d spread h = omega (arith, spread.0, spread.1, begins-above x.end to i xs d spread.2 (omega arith))

-- a span that stands among them is the one that has its numbers
covers-own : (from to i s : ℕ) (xs : List Span) (x : Span) → IsSpread from to xs → i < length xs → x ≡ get_or xs i x → x.first ≤ s → s < x.end → find (covers s) xs ≡ Some x
covers-own from to i s [] x spread h is low high = absurd (omega arith)
covers-own from to zero s (y ∷ ys) x spread h is low high =
    let on : (nat_le x.first s && nat_lt s x.end) ≡ true = grind (arith, nat_tests) in
    subst (λ (z : Span). cond (covers s z) (Some z) (find (covers s) ys) ≡ Some x) is (rw on refl)
covers-own from to (suc i) s (y ∷ ys) x spread h is low high =
    let above : y.end ≤ x.first = subst (λ (z : Span). y.end ≤ z.first) (sym is) (begins-above y.end to i ys x spread.2 (omega arith)) in
    let off : (nat_le y.first s && nat_lt s y.end) ≡ false = grind (arith, nat_tests) in
    rw off (covers-own y.end to i s ys x spread.2 (omega arith) is low high)

-- there is room for the rows of one stripe more
pub stripe-room : (n first s have more : ℕ) → n ≤ MAX_ROWS → first ≤ s → s < END_OF_STRIPES → have ≤ first * n → more ≤ (s - first) * n → have + more + n < 2 ^ 32
stripe-room n first s have more few low high had put =
    let upto : (s - first) * n + first * n ≡ s * n = both (s - first) first ∙ ap (λ (k : ℕ). k * n) (back first s low) in
    let rows : s * n + n ≡ (s + 1) * n = omega arith in
    let most : (s + 1) * n ≤ END_OF_STRIPES * n = mul-le-mul_right n (omega (arith, high)) in
    omega (arith, few, had, put, upto, rows, most)
  where
    both : (a b : ℕ) → a * n + b * n ≡ (a + b) * n
    both a b = omega arith

    back : (a b : ℕ) → a ≤ b → (b - a) + a ≡ b
    back a b h = omega (arith, h)

-- ---- the spans of files

-- the rows of a span are those of the stripes that it numbers
pub record IsSpanOf (shape : Shape) (files : List FileSeen) (x : Span) (f : FileSeen) : Type 0 where
  pub kept : IsFile shape f
  pub first : f.file.first ≤ x.first
  pub end : x.end ≤ f.file.first + f.file.stripes
  pub rows : (s : ℕ) → x.first ≤ s → s < x.end → rows_in shape.n s f ≡ receipts_in shape.n (reverse files) s

pub span-at : (shape : Shape) (files : List FileSeen) (led : List ℕ → Option ℕ) (spans : List Span) (i : ℕ) (d : Span) (f : FileSeen) → AreFiles shape files led spans
    → i < length spans → f ≡ get_or files (get_or spans i d).file f → IsSpanOf shape files (get_or spans i d) f
span-at shape files led spans i d f are within here =
    let x : Span = get_or spans i d in
    let is : x ≡ get_or spans i x = get_or_default spans i d x within in
    let some : x.first < x.end = some-at 0 END_OF_STRIPES i spans d are.spread within in
    let at : (s : ℕ) → x.first ≤ s → s < x.end → HasStripe shape files s x.file f =
    λ s low high. span-leads shape files led spans s x f are (covers-own 0 END_OF_STRIPES i s spans x are.spread within is low high) here in
    let last : x.end - 1 < f.file.first + f.file.stripes = (at (x.end - 1) (omega (arith, some)) (omega (arith, some))).to in
    record {
      kept = (at x.first (omega arith) some).place.kept;
      first = (at x.first (omega arith) some).from;
      end = omega (arith, last, some);
      rows = λ s low high. sym (ap (λ (o : Option FileSeen). option_map_or (rows_in shape.n s) o []) (at s low high).found);
    }

-- a stripe has at most n rows that are lost
pub length-stripe : (nodes : List Node) (m n : ℕ) (files : List FileSeen) (s : ℕ) → length (lost_by nodes m s (receipts_in n files s)) ≤ n
length-stripe nodes m n files s = omega (arith, length-lost_by nodes m s (receipts_in n files s), few (file_with files s)) where
  few : (o : Option FileSeen) → length (option_map_or (rows_in n s) o []) ≤ n
  few None = omega arith
  few (Some f) = omega (arith, length-take n (drop ((s - f.file.first) * n) f.rows))

-- no stripe has the number that is behind all, nor a greater one
none-behind : (s : ℕ) (files : List FileSeen) → numbers_end files ≤ s → file_with files s ≡ None
none-behind s [] high = refl
none-behind s (f ∷ files) high =
    let mine : f.file.first + f.file.stripes ≤ s = omega (arith, high) in
    let off : (nat_le f.file.first s && nat_lt s (f.file.first + f.file.stripes)) ≡ false = grind (arith, nat_tests) in
    rw off (none-behind s files (omega (arith, high)))

-- all that is lost is in the spans, which end by a number e
module _ (shape : Shape) (files : List FileSeen) (led : List ℕ → Option ℕ) (spans : List Span) (nodes : List Node) (m : ℕ) (are : AreFiles shape files led spans) (e : ℕ) (spread : IsSpread 0 e spans) where
  abbrev lost : ℕ → List BlockName
  lost s = lost_by nodes m s (receipts_in shape.n (reverse files) s)

  gone : (s : ℕ) → file_with (reverse files) s ≡ None → lost s ≡ []
  gone s none = ap (λ (o : Option FileSeen). lost_by nodes m s (option_map_or (rows_in shape.n s) o [])) none

  unspanned : (s : ℕ) → find (covers s) spans ≡ None → lost s ≡ []
  unspanned s none = gone s (sym (span-none shape files led spans s are none))

  all-numbers : flat_map lost (range_with_len 0 e) ≡ lost_among nodes m shape.n (reverse files)
  all-numbers = same-ends lost e (numbers_end (reverse files)) (λ s high. unspanned s (none-past 0 e s spans spread high)) (λ s high. gone s (none-behind s (reverse files) high))

  spans-all : flat_map (over lost) spans ≡ lost_among nodes m shape.n (reverse files)
  spans-all =
      let whole : e - 0 ≡ e = omega arith in
      over-spans lost 0 e spans spread (λ s low is. unspanned s is) ∙ ap (λ (n : ℕ). flat_map lost (range_with_len 0 n)) whole ∙ all-numbers

  few-all : length (lost_among nodes m shape.n (reverse files)) ≤ e * shape.n
  few-all = omega (arith, ap length all-numbers, length-range lost shape.n (length-stripe nodes m shape.n (reverse files)) 0 e)

pub all-spans : (shape : Shape) (files : List FileSeen) (led : List ℕ → Option ℕ) (spans : List Span) (nodes : List Node) (m : ℕ) → AreFiles shape files led spans
    → flat_map (over (λ s. lost_by nodes m s (receipts_in shape.n (reverse files) s))) spans ≡ lost_among nodes m shape.n (reverse files)
all-spans shape files led spans nodes m are = spans-all shape files led spans nodes m are END_OF_STRIPES are.spread

-- so it is counted in 32 bits
pub few-lost : (shape : Shape) (files : List FileSeen) (led : List ℕ → Option ℕ) (spans : List Span) (nodes : List Node) (m : ℕ) → AreFiles shape files led spans
    → length (lost_among nodes m shape.n (reverse files)) < 2 ^ 32
few-lost shape files led spans nodes m are =
    let most : length (lost_among nodes m shape.n (reverse files)) ≤ END_OF_STRIPES * shape.n = few-all shape files led spans nodes m are END_OF_STRIPES are.spread in
    omega (arith, most, are.in_range.at_most)

-- ---- the stripes of a table

-- stripes in rising order, over all numbers from one on and up to another
over-stripes : {B : Type 0} (F : Stripe → List B) (G : ℕ → List B) (a e : ℕ) (xs : List Stripe) → IsRising xs → a ≤ e → AllByRecursion (λ x. a ≤ x.number) xs → AllByRecursion (λ x. x.number < e) xs
    → AllByRecursion (λ x. F x ≡ G x.number) xs → ((s : ℕ) → a ≤ s → find (λ x. x.number == s) xs ≡ None → G s ≡ []) → flat_map F xs ≡ flat_map G (range_with_len a (e - a))
over-stripes F G a e [] rising order low high own none = sym (range-none G a (e - a) (λ s above below. none s above refl))
over-stripes {B} F G a e (x ∷ xs) rising order low high own none =
    let from : a ≤ x.number = low.0 in
    let to : x.number < e = high.0 in
    let before : flat_map G (range_with_len a (x.number - a)) ≡ [] =
    range-none G a (x.number - a) (λ s above below. none s above (not-below s (omega (arith, below, from)))) in
    let behind : flat_map F xs ≡ flat_map G (range_with_len (x.number + 1) (e - (x.number + 1))) =
    over-stripes F G (x.number + 1) e xs rising.1 (omega (arith, to)) (next xs rising.0) high.1 own.1 (λ s above is. none s (omega (arith, above, from)) (skip s above is)) in
    sym (
    range-to G a x.number e from (omega (arith, to))
    ∙ ap (λ (bs : List B). bs ++ flat_map G (range_with_len x.number (e - x.number))) before
    ∙ range-to G x.number (x.number + 1) e (omega arith) (omega (arith, to))
    ∙ ap (λ (n : ℕ). flat_map G (range_with_len x.number n) ++ flat_map G (range_with_len (x.number + 1) (e - (x.number + 1)))) one
    ∙ ap (λ (bs : List B). bs ++ flat_map G (range_with_len (x.number + 1) (e - (x.number + 1)))) (range-one G x.number ∙ sym own.0)
    ∙ ap (λ (bs : List B). F x ++ bs) (sym behind)
    )
  where
    one : x.number + 1 - x.number ≡ 1
    one = omega arith

    next : (ys : List Stripe) → AllByRecursion (λ y. x.number < y.number) ys → AllByRecursion (λ y. x.number + 1 ≤ y.number) ys
    next [] h = tt
    next (y ∷ ys) h = (omega (arith, h.0), next ys h.1)

    none_above : (s : ℕ) (ys : List Stripe) → s < x.number → AllByRecursion (λ y. x.number < y.number) ys → find (λ y. y.number == s) ys ≡ None
    none_above s [] below h = refl
    none_above s (y ∷ ys) below h =
        let more : x.number < y.number = h.0 in
        let other : y.number == s ≡ false = grind (arith, nat_tests) in
        rw other (none_above s ys below h.1)

    not-below : (s : ℕ) → s < x.number → find (λ y. y.number == s) (x ∷ xs) ≡ None
    not-below s below =
        let other : x.number == s ≡ false = grind (arith, nat_tests) in
        rw other (none_above s xs below rising.0)

    skip : (s : ℕ) → x.number + 1 ≤ s → find (λ y. y.number == s) xs ≡ None → find (λ y. y.number == s) (x ∷ xs) ≡ None
    skip s above is =
        let other : x.number == s ≡ false = grind (arith, nat_tests) in
        rw other is

-- an outline says which blocks are lost on a node as the table does
pub lost-outlined : (shape : Shape) (told : Bool) (c : CatalogState) (history : List Entry) (m : ℕ) → IsOutline shape told c history → lost_in c m ≡ lost_on (table_of shape history) m
lost-outlined shape told c history m is =
    sym (over-stripes (lost_rows m) lost 0 (numbers_end c.files) t.stripes rising (omega arith)
    (all (λ x. 0 ≤ x.number) (λ x found. omega arith))
    (all (λ x. x.number < numbers_end c.files) (λ x found. below x.number (is.stripes x.number ∙ ap (λ (o : Option Stripe). is_some o) found)))
    (all (λ x. lost_rows m x ≡ lost x.number) (λ x found. sym (rows x.number ∙ ap (λ (o : Option Stripe). by x.number o) found)))
    (λ s low none. rows s ∙ ap (by s) none) ∙ ap (λ (n : ℕ). flat_map lost (range_with_len 0 n)) whole)
  where
    whole : numbers_end c.files - 0 ≡ numbers_end c.files
    whole = omega arith

    t : PlainTable
    t = table_of shape history

    rising : IsRising t.stripes
    rising = rising_table shape history

    lost : ℕ → List BlockName
    lost s = lost_by (map (λ x. x.node) c.nodes) m s (receipts_in c.shape.n c.files s)

    by : ℕ → Option Stripe → List BlockName
    by s o = lost_rows m (record { number = s; blocks = []; rows = option_map_or (λ x. x.rows) o [] })

    rows : (s : ℕ) → lost s ≡ by s (stripe_of t s)
    rows s = ap (λ (ys : List Standing). lost_rows m (record { number = s; blocks = []; rows = ys })) (is.rows s)

    all : (P : Stripe → Type 0) → ((x : Stripe) → stripe_of t x.number ≡ Some x → P x) → AllByRecursion P t.stripes
    all P each = recursion_from_All P t.stripes (λ i d h. each (get_or t.stripes i d) (find-rising t.stripes i (get_or t.stripes i d).number d rising h refl))

    below : (s : ℕ) → is_some (file_with c.files s) ≡ true → s < numbers_end c.files
    below s there = elim (cases_lt s (numbers_end c.files)) [
      | inl low ↦ low
      | inr high ↦ absurd (false≢true (sym (ap (λ (o : Option FileSeen). is_some o) (none-behind s c.files high)) ∙ there))
    ]
