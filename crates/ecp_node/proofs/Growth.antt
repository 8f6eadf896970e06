-- What becomes of a node's index and its store as its log grows.
use Rattle.std.proofs.Common.{◌≡◌, ◌≢◌, ⊎_elim, ℕ, ◌+◌, ◌<◌, ◌≤◌, Bool, true, false, cond, eqb, eq-eqb, ne_eqb, List, [], ◌∷◌, ◌++◌, length, Option, Some, None, refl, ap, sym, ◌∙◌, subst, arith}
use mathlib.Core.List.{IsPrefix}
use Rattle.std.specs.List.{slice_get}
use Rattle.std.specs.Option.{is_some, option_map, option_and_then}
use Rattle.std.proofs.lemmas.Bool.{cases_lt, cases_eq}
use Rattle.std.proofs.lemmas.Option.{cond_some}
use Rattle.std.proofs.lemmas.Grind.{common_steps}
use Rattle.ecp_book.specs.Logs.{Log}
use Rattle.ecp_book.proofs.Prefixes.{prefix_get}
use Rattle.ecp_store.specs.Stores.{Held, Puts, Stays, HasPart, IsPart, part}
use Rattle.ecp_store.specs.declared.key.Key.{Key}
use Rattle.ecp_node.specs.declared.place.Place.{Place}
use Rattle.ecp_node.specs.Items.{Kept, kept_item, removed_item, wiped_item, faulted_item, spent_item, kept_as}
use Rattle.ecp_node.specs.Held.{IsKept, is_lost, held_at, gives_up}
use Rattle.ecp_node.specs.Shelves.{place_of, key_of, IsIndex, Stores}
use Rattle.ecp_node.proofs.Laws.{held_before, held_last, held_past}

-- a block that was kept in a beginning was kept in the whole
pub kept_in_whole : (some whole : Log) (kept : Kept) → IsPrefix some whole → IsKept some kept → IsKept whole kept
kept_in_whole some whole kept begins here = prefix_get some whole kept.serial (kept_item kept) begins here

-- ---- one item read as a block

-- the item of a block, read by the block's serial
as_kept : (serial : ℕ) (kept : Kept) → kept.serial ≡ serial → kept_as serial (kept_item kept) ≡ Some kept
as_kept serial kept same =
    ap (λ b. cond b (Some (record { stripe = kept.stripe; row = kept.row; serial = serial; bytes = kept.bytes })) None) (eq-eqb kept.serial serial same)
    ∙ ap (λ (s : ℕ). Some (record { stripe = kept.stripe; row = kept.row; serial = s; bytes = kept.bytes })) (sym same)

-- what is read by a serial has that serial
as_serial : (serial : ℕ) (item : List ℕ) (kept : Kept) → kept_as serial item ≡ Some kept → kept.serial ≡ serial
as_serial serial [] kept h = absurd (cc)
as_serial serial (a ∷ []) kept h = absurd (cc)
as_serial serial (a ∷ b ∷ []) kept h = absurd (cc)
as_serial serial (a ∷ b ∷ c ∷ []) kept h = absurd (cc)
as_serial serial (mark ∷ stripe ∷ row ∷ own ∷ bytes) kept h = sym (ap (λ (k : Kept). k.serial) (cond_some _ _ _ h).1)

-- ---- what the log holds

and_then_some : (serial : ℕ) (o : Option (List ℕ)) (kept : Kept) → option_and_then (kept_as serial) o ≡ Some kept → kept.serial ≡ serial
and_then_some serial None kept h = absurd (cc)
and_then_some serial (Some item) kept h = as_serial serial item kept h

lost_or : (lost : Bool) (o : Option Kept) (kept : Kept) → cond lost None o ≡ Some kept → o ≡ Some kept
lost_or true o kept h = absurd (cc)
lost_or false o kept h = h

-- a block that is held has the serial by which it was read
pub held_serial : (log : Log) (serial : ℕ) (kept : Kept) → held_at log serial ≡ Some kept → kept.serial ≡ serial
held_serial log serial kept h = and_then_some serial (slice_get log serial) kept (lost_or (is_lost log serial) _ kept h)

-- a block that was kept is held unless it is lost
pub held_kept : (log : Log) (kept : Kept) → IsKept log kept → held_at log kept.serial ≡ cond (is_lost log kept.serial) None (Some kept)
held_kept log kept here =
    ap (λ o. cond (is_lost log kept.serial) None (option_and_then (kept_as kept.serial) o)) here
    ∙ ap (cond (is_lost log kept.serial) None) (as_kept kept.serial kept refl)

none_either : (b : Bool) → cond {A = Option Kept} b None None ≡ None
none_either true = refl
none_either false = refl

-- a block with another serial than the item's place
held_other : (log : Log) (item : List ℕ) (serial : ℕ) → serial ≢ length log → held_at (log ++ item ∷ []) serial ≡ cond (gives_up serial item) None (held_at log serial)
held_other log item serial ne =
    ⊎_elim
    (λ (lt : serial < length log). held_before log item serial lt)
    (λ (le : length log ≤ serial).
    held_past (log ++ item ∷ []) serial (grind (arith, common_steps))
    ∙ sym (ap (cond (gives_up serial item) None) (held_past log serial le) ∙ none_either (gives_up serial item)))
    (cases_lt serial (length log))

-- the log says that a block is kept
held_and_kept : (log : Log) (kept : Kept) (serial : ℕ) → kept.serial ≡ length log
    → held_at (log ++ kept_item kept ∷ []) serial ≡ cond (eqb kept.serial serial) (Some kept) (held_at log serial)
held_and_kept log kept serial new =
    ⊎_elim
    (λ (e : serial ≡ length log).
    subst (λ (s : ℕ). held_at (log ++ kept_item kept ∷ []) s ≡ cond (eqb kept.serial s) (Some kept) (held_at log s)) (sym e)
    (held_last log (kept_item kept) ∙ as_kept (length log) kept new ∙ sym (ap (λ b. cond b (Some kept) (held_at log (length log))) (eq-eqb kept.serial (length log) new))))
    (λ (ne : serial ≡ length log → ⊥).
    held_other log (kept_item kept) serial ne
    ∙ sym (ap (λ b. cond b (Some kept) (held_at log serial)) (ne_eqb kept.serial serial (λ e. ne (sym e ∙ new)))))
    (cases_eq serial (length log))

-- an item that keeps nothing
held_and_else : (log : Log) (item : List ℕ) (serial : ℕ) → kept_as (length log) item ≡ None
    → held_at (log ++ item ∷ []) serial ≡ cond (gives_up serial item) None (held_at log serial)
held_and_else log item serial none =
    ⊎_elim
    (λ (e : serial ≡ length log).
    subst (λ (s : ℕ). held_at (log ++ item ∷ []) s ≡ cond (gives_up s item) None (held_at log s)) (sym e)
    (held_last log item ∙ none
    ∙ sym (ap (cond (gives_up (length log) item) None) (held_past log (length log) (omega arith)) ∙ none_either (gives_up (length log) item))))
    (λ (ne : serial ≡ length log → ⊥). held_other log item serial ne)
    (cases_eq serial (length log))

-- ---- the index

map_cond : (b : Bool) (o p : Option Kept) → option_map place_of (cond b o p) ≡ cond b (option_map place_of o) (option_map place_of p)
map_cond true o p = refl
map_cond false o p = refl

pub index_kept : (index after : ℕ → Option Place) (log : Log) (kept : Kept) → IsIndex index log → kept.serial ≡ length log
    → ((serial : ℕ) → after serial ≡ cond (eqb kept.serial serial) (Some (place_of kept)) (index serial)) → IsIndex after (log ++ kept_item kept ∷ [])
index_kept index after log kept is new changed =
    λ serial. changed serial ∙ ap (cond (eqb kept.serial serial) (Some (place_of kept))) (is serial)
    ∙ sym (ap (option_map place_of) (held_and_kept log kept serial new) ∙ map_cond (eqb kept.serial serial) (Some kept) (held_at log serial))

pub index_removed : (index after : ℕ → Option Place) (log : Log) (removed : ℕ) → IsIndex index log
    → ((serial : ℕ) → after serial ≡ cond (eqb removed serial) None (index serial)) → IsIndex after (log ++ removed_item removed ∷ [])
index_removed index after log removed is changed =
    λ serial. changed serial ∙ ap (cond (eqb removed serial) None) (is serial)
    ∙ sym (ap (option_map place_of) (held_and_else log (removed_item removed) serial refl) ∙ map_cond (eqb removed serial) None (held_at log serial))

pub index_wiped : (after : ℕ → Option Place) (log : Log) (inc : ℕ) → ((serial : ℕ) → after serial ≡ None) → IsIndex after (log ++ wiped_item inc ∷ [])
index_wiped after log inc none = λ serial. none serial ∙ sym (ap (option_map place_of) (held_and_else log (wiped_item inc) serial refl))

pub index_faulted : (index after : ℕ → Option Place) (log : Log) → IsIndex index log → ((serial : ℕ) → after serial ≡ index serial) → IsIndex after (log ++ faulted_item ∷ [])
index_faulted index after log is same = λ serial. same serial ∙ is serial ∙ sym (ap (option_map place_of) (held_and_else log faulted_item serial refl))

pub index_spent : (index : ℕ → Option Place) (log : Log) → IsIndex index log → IsIndex index (log ++ spent_item ∷ [])
index_spent index log is = λ serial. is serial ∙ sym (ap (option_map place_of) (held_and_else log spent_item serial refl))

-- ---- the store

other_key : (kept new : Kept) → kept.serial ≢ new.serial → key_of kept ≢ key_of new
other_key kept new ne = λ e. ne (ap (λ (k : Key). k.serial) e)

pub store_kept : (held after : Held) (log : Log) (kept : Kept) → Stores held log → kept.serial ≡ length log
    → Puts (key_of kept) (Some kept.bytes) held after → Stores after (log ++ kept_item kept ∷ [])
store_kept held after log kept is new puts =
    λ serial block here.
    let at : cond (eqb kept.serial serial) (Some kept) (held_at log serial) ≡ Some block = sym (held_and_kept log kept serial new) ∙ here in
    ⊎_elim
    (λ (e : kept.serial ≡ serial).
    let one : Some kept ≡ Some block = sym (ap (λ b. cond b (Some kept) (held_at log serial)) (eq-eqb kept.serial serial e)) ∙ at in
    let same : kept ≡ block = cc in
    subst (λ (k : Kept). after (key_of k) ≡ Some k.bytes) same puts.here)
    (λ (ne : kept.serial ≡ serial → ⊥).
    let before : held_at log serial ≡ Some block = sym (ap (λ b. cond b (Some kept) (held_at log serial)) (ne_eqb kept.serial serial ne)) ∙ at in
    let own : block.serial ≡ serial = held_serial log serial block before in
    puts.others (key_of block) (other_key block kept (λ e. ne (sym e ∙ own))) ∙ is serial block before)
    (cases_eq kept.serial serial)

-- what is still held has its bytes, where the store changed at most at the key of the block that was given up
pub store_removed : (held after : Held) (log : Log) (removed : ℕ) → Stores held log
    → ((key : Key) → key.serial ≢ removed → after key ≡ held key) → Stores after (log ++ removed_item removed ∷ [])
store_removed held after log removed is same =
    λ serial block here.
    let at : cond (eqb removed serial) None (held_at log serial) ≡ Some block = sym (held_and_else log (removed_item removed) serial refl) ∙ here in
    ⊎_elim
    (λ (e : removed ≡ serial).
    let none : None ≡ Some block = sym (ap (λ b. cond b None (held_at log serial)) (eq-eqb removed serial e)) ∙ at in
    absurd (cc))
    (λ (ne : removed ≡ serial → ⊥).
    let before : held_at log serial ≡ Some block = sym (ap (λ b. cond b None (held_at log serial)) (ne_eqb removed serial ne)) ∙ at in
    let own : block.serial ≡ serial = held_serial log serial block before in
    same (key_of block) (λ e. ne (sym e ∙ own)) ∙ is serial block before)
    (cases_eq removed serial)

pub store_wiped : (after : Held) (log : Log) (inc : ℕ) → Stores after (log ++ wiped_item inc ∷ [])
store_wiped after log inc =
    λ serial block here.
    let none : None ≡ Some block = sym (held_and_else log (wiped_item inc) serial refl) ∙ here in absurd (cc)

pub store_faulted : (held after : Held) (log : Log) → Stores held log → Stays held after → Stores after (log ++ faulted_item ∷ [])
store_faulted held after log is same =
    λ serial block here. same (key_of block) ∙ is serial block (sym (held_and_else log faulted_item serial refl) ∙ here)

pub store_spent : (held : Held) (log : Log) → Stores held log → Stores held (log ++ spent_item ∷ [])
store_spent held log is = λ serial block here. is serial block (sym (held_and_else log spent_item serial refl) ∙ here)

-- ---- a block that is looked for

found_in : (lost : Bool) (kept : Kept) (o : Option Kept) (index : Option Place) → o ≡ cond lost None (Some kept) → index ≡ option_map place_of o → is_some index ≡ true
    → (lost ≡ false) × (o ≡ Some kept)
found_in true kept o index is indexed there = absurd (cc (ap (λ (x : Option Kept). is_some (option_map place_of x)) is, ap is_some indexed))
found_in false kept o index is indexed there = (refl, is)

missing_in : (lost : Bool) (kept : Kept) (o : Option Kept) (index : Option Place) → o ≡ cond lost None (Some kept) → index ≡ option_map place_of o → is_some index ≡ false → lost ≡ true
missing_in true kept o index is indexed there = refl
missing_in false kept o index is indexed there = absurd (cc (ap (λ (x : Option Kept). is_some (option_map place_of x)) is, ap is_some indexed))

-- the index has a block that was kept: it is held
pub found : (index : ℕ → Option Place) (log : Log) (kept : Kept) → IsIndex index log → IsKept log kept → is_some (index kept.serial) ≡ true
    → (is_lost log kept.serial ≡ false) × (held_at log kept.serial ≡ Some kept)
found index log kept is here there = found_in (is_lost log kept.serial) kept _ _ (held_kept log kept here) (is kept.serial) there

-- it has not: the block is lost
pub missing : (index : ℕ → Option Place) (log : Log) (kept : Kept) → IsIndex index log → IsKept log kept → is_some (index kept.serial) ≡ false → is_lost log kept.serial ≡ true
missing index log kept is here there = missing_in (is_lost log kept.serial) kept _ _ (held_kept log kept here) (is kept.serial) there

pub has_part : (o : Option (List ℕ)) (bytes : List ℕ) (off len : ℕ) → o ≡ Some bytes → off + len ≤ length bytes → HasPart o off len
has_part o bytes off len is within = subst (λ (x : Option (List ℕ)). HasPart x off len) (sym is) within

pub is_part : (o : Option (List ℕ)) (bytes : List ℕ) (off : ℕ) (buf : List ℕ) → o ≡ Some bytes → IsPart o off buf → buf ≡ part bytes off (length buf)
is_part o bytes off buf is read = subst (λ (x : Option (List ℕ)). IsPart x off buf) is read
