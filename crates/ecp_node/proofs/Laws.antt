-- What one more item changes of what a node's log says.
use Rattle.std.proofs.Common.{◌≡◌, ℕ, zero, suc, ◌+◌, ◌<◌, ◌≤◌, Bool, true, false, cond, ◌||◌, List, [], ◌∷◌, ◌++◌, length, take, drop, Option, Some, None, refl, ap, sym, subst, ◌∙◌, zero-add, arith}
use mathlib.Core.List.{IsPrefix}
use Rattle.std.specs.List.{list_any, count_by, slice_get}
use Rattle.std.specs.Option.{option_and_then}
use Rattle.std.proofs.lemmas.Grind.{common_steps}
use Rattle.std.proofs.lemmas.List.{drop-append-le}
use Rattle.std.proofs.lemmas.List.Folds.{list_any-append}
use Rattle.std.proofs.lemmas.List.Sums.{sum_by-append}
use Rattle.std.proofs.lemmas.Option.{slice_get_past}
use Rattle.std.proofs.Math.Seq.{get_or-append_seam}
use Rattle.ecp_book.specs.Logs.{Log, node_log}
use Rattle.ecp_node.specs.Items.{Kept, kept_item, kept_as}
use Rattle.ecp_node.specs.Held.{IsKept, wipes, gives_up, is_lost, held_at}
use Rattle.ecp_node.specs.Receipts.{IsReceipt, bytes_kept, next_kept}

pub count_more : (p : List ℕ → Bool) (log : Log) (item : List ℕ) → count_by p (log ++ item ∷ []) ≡ count_by p log + cond (p item) 1 0
count_more p log item = sum_by-append (λ x. cond (p x) 1 0) log (item ∷ []) ∙ ap (λ n. count_by p log + n) (zero-add (cond (p item) 1 0))

-- a beginning of a log has no more of a kind of item than the log
pub count_in_whole : (p : List ℕ → Bool) (some whole : Log) → IsPrefix some whole → count_by p some ≤ count_by p whole
count_in_whole p some whole begins = omega (arith, ap (count_by p) begins.1, sum_by-append (λ x. cond (p x) 1 0) some begins.0)

-- reading at one list's places
get_before : (log : Log) (item : List ℕ) (at : ℕ) → at < length log → slice_get (log ++ item ∷ []) at ≡ slice_get log at
get_before [] item at lt = absurd (omega arith)
get_before (x ∷ xs) item zero lt = refl
get_before (x ∷ xs) item (suc at) lt = get_before xs item at (omega arith)

get_last : (log : Log) (item : List ℕ) → slice_get (log ++ item ∷ []) (length log) ≡ Some item
get_last [] item = refl
get_last (x ∷ xs) item = get_last xs item

drop_all : (log : Log) (n : ℕ) → length log ≤ n → drop n log ≡ []
drop_all [] zero le = refl
drop_all [] (suc n) le = refl
drop_all (x ∷ xs) zero le = absurd (omega arith)
drop_all (x ∷ xs) (suc n) le = drop_all xs n (omega arith)

choose : (a b : Bool) (o : Option Kept) → cond (a || (b || false)) None o ≡ cond b None (cond a None o)
choose true true o = refl
choose true false o = refl
choose false true o = refl
choose false false o = refl

-- a block that was kept before: the item may give it up
pub held_before : (log : Log) (item : List ℕ) (serial : ℕ) → serial < length log
    → held_at (log ++ item ∷ []) serial ≡ cond (gives_up serial item) None (held_at log serial)
held_before log item serial lt =
    let got = get_before log item serial lt in
    let rest : drop (serial + 1) (log ++ item ∷ []) ≡ drop (serial + 1) log ++ item ∷ [] = drop-append-le (serial + 1) log (item ∷ []) (omega arith) in
    let lost : is_lost (log ++ item ∷ []) serial ≡ (is_lost log serial || (gives_up serial item || false)) =
    ap (list_any (gives_up serial)) rest ∙ list_any-append (gives_up serial) (drop (serial + 1) log) (item ∷ []) in
    ap (λ b. cond b None (option_and_then (kept_as serial) (slice_get (log ++ item ∷ []) serial))) lost
    ∙ ap (λ o. cond (is_lost log serial || (gives_up serial item || false)) None (option_and_then (kept_as serial) o)) got
    ∙ choose (is_lost log serial) (gives_up serial item) (option_and_then (kept_as serial) (slice_get log serial))

-- the block that the item keeps
pub held_last : (log : Log) (item : List ℕ) → held_at (log ++ item ∷ []) (length log) ≡ kept_as (length log) item
held_last log item =
    let none : drop (length log + 1) (log ++ item ∷ []) ≡ [] = drop_all (log ++ item ∷ []) (length log + 1) (grind (arith, common_steps)) in
    ap (λ xs. cond (list_any (gives_up (length log)) xs) None (option_and_then (kept_as (length log)) (slice_get (log ++ item ∷ []) (length log)))) none
    ∙ ap (option_and_then (kept_as (length log))) (get_last log item)

-- past the end of the log nothing is held
pub held_past : (log : Log) (serial : ℕ) → length log ≤ serial → held_at log serial ≡ None
held_past log serial le =
    ap (λ xs. cond (list_any (gives_up serial) xs) None (option_and_then (kept_as serial) (slice_get log serial))) (drop_all log (serial + 1) (omega arith))
    ∙ ap (option_and_then (kept_as serial)) (slice_get_past log serial le)

-- ---- the block that the last item keeps

pub last_kept : (log : Log) (kept : Kept) → kept.serial ≡ length log → IsKept (log ++ kept_item kept ∷ []) kept
last_kept log kept new = ap (slice_get (log ++ kept_item kept ∷ [])) new ∙ get_last log (kept_item kept)

pub last_bytes : (log : Log) (kept : Kept) → bytes_kept (log ++ kept_item kept ∷ []) (length log) ≡ kept.bytes
last_bytes log kept = ap (drop 4) (get_or-append_seam log (kept_item kept) [] [])

take_whole : (log : Log) (item : List ℕ) → take (length log) (log ++ item ∷ []) ≡ log
take_whole [] item = refl
take_whole (x ∷ xs) item = ap (λ ys. x ∷ ys) (take_whole xs item)

pub last_during : (log : Log) (item : List ℕ) → wipes log ≡ wipes (take (length log) (log ++ item ∷ []))
last_during log item = sym (ap wipes (take_whole log item))

pub new_receipt : (before items : Log) (stripe row : ℕ) (bytes : List ℕ) (log node serial inc : ℕ) → log ≡ node_log node
    → items ≡ before ++ kept_item (next_kept before stripe row bytes) ∷ [] → serial ≡ length before → inc ≡ wipes before
    → IsReceipt log (record { stripe = stripe; row = row; serial = serial; inc = inc; node = node; bytes = bytes_kept items serial; items = items })
new_receipt before items stripe row bytes log node serial inc own grown new during =
    let kept : Kept = next_kept before stripe row bytes in
    let whole : Log = before ++ kept_item kept ∷ [] in
    let here : slice_get whole (length before) ≡ Some (kept_item (record { stripe = stripe; row = row; serial = length before; bytes = bytes_kept whole (length before) })) =
    get_last before (kept_item kept) ∙ ap (λ (bs : List ℕ). Some (kept_item (record { stripe = stripe; row = row; serial = length before; bytes = bs }))) (sym (last_bytes before kept)) in
    subst
    (λ (x : Log × ℕ). IsReceipt log (record { stripe = stripe; row = row; serial = x.1; inc = inc; node = node; bytes = bytes_kept x.0 x.1; items = x.0 }))
    (λ i. (sym grown i, sym new i))
    (record { own = own; kept = here; during = during ∙ last_during before (kept_item kept) })
