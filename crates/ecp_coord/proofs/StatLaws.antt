-- What is found by stating a file, and the entry that says it.
use Rattle.std.proofs.Common.{◌≡◌, ◌≢◌, ℕ, zero, suc, ◌+◌, ◌-◌, ◌≤◌, ◌&&◌, Bool, true, false, cond, List, [], ◌∷◌, ◌++◌, length, get_or, Option, Some, None, refl, sym, ◌∙◌, ap, subst, arith, inl, inr}
use Rattle.std.specs.Prelude.{All, IfSome, IsSomeAnd, bytes_eq, find, sum_by}
use Rattle.std.specs.List.{AllByRecursion, list_any, range_with_len}
use Rattle.std.specs.Option.{option_map_or}
use Rattle.std.proofs.lemmas.Bool.{false≢true, eq-eqb}
use Rattle.std.proofs.lemmas.List.Elements.{recursion_from_All}
use Rattle.std.proofs.lemmas.List.Sums.{sum_by_push}
use Rattle.std.proofs.lemmas.Option.{slice_get-get_or}
use Rattle.ecp_shape.specs.declared.shape.Shape.{Shape}
use Rattle.ecp_book.specs.Logs.{Log}
use Rattle.ecp_code.specs.Stripes.{stripes}
use Rattle.ecp_entry.specs.declared.act.Act.{Act}
use Rattle.ecp_entry.specs.declared.act.Act.TheVariants as act
use Rattle.ecp_entry.specs.declared.deed.Deed.{Deed}
use Rattle.ecp_entry.specs.declared.deed.Deed.TheVariants.{Stat}
use Rattle.ecp_entry.specs.declared.entry.Entry.{Entry}
use Rattle.ecp_entry.specs.declared.part.Part.{Part}
use Rattle.ecp_entry.specs.declared.part.Part.TheVariants as part
use Rattle.ecp_entry.specs.Entries.{deed_node}
use Rattle.ecp_entry.specs.Told.{made_from, made_of, history_of, items_by}
use Rattle.ecp_history.specs.declared.table.file.File.{File}
use Rattle.ecp_history.specs.Acts.{HoldsIn, Measures}
use Rattle.ecp_history.specs.Calls.{Agrees, AtEnd, FitsCall, Place, ToCat, ToRebuild, ToStat, kind_of, place_of}
use Rattle.ecp_history.specs.Files.{StripesBelow}
use Rattle.ecp_history.specs.Legal.{IsLegal, MayFollow}
use Rattle.ecp_history.specs.Parts.{IsAlone}
use Rattle.ecp_history.specs.table.Placement.{nodes_in}
use Rattle.ecp_history.specs.table.Steps.{after_act, joined, lost, table_at, table_of}
use Rattle.ecp_history.specs.table.Tables.{PlainTable, block_count, file_live, file_of}
use Rattle.ecp_history.proofs.LegalLaws.{onwards}
use Rattle.ecp_history.proofs.tables.StoreLaws.{length-stripes_among}
use Rattle.ecp_catalog.specs.declared.limits.TheConstants.{END_OF_STRIPES}
use Rattle.ecp_catalog.specs.Catalogs.{CatalogState, plain}
use Rattle.ecp_catalog.specs.Outline.{IsOutline, changes}
use Rattle.ecp_catalog.proofs.OutlineLaws.{one_more}
use Rattle.ecp_sequencer.specs.Facts.{ends_call, is_end, room_noted}
use Rattle.ecp_sequencer.specs.Hands.{hands_of}
use Rattle.ecp_sequencer.specs.Histories.{FitsMaker, Stands}
use Rattle.ecp_sequencer.specs.Notes.{Call}
use Rattle.ecp_sequencer.specs.Passes.{PassState}
use Rattle.ecp_sequencer.specs.Sequencers.{SequencerState}
use Rattle.ecp_sequencer.specs.Steps.{call_with}
use Rattle.ecp_coord.specs.Calls.{Ends, IsOpen, ended}
use Rattle.ecp_coord.specs.Coords.{CoordParts, IsCoord}
use Rattle.ecp_coord.specs.Stating.{HasNumbers, found_by_stating, stat_of}
use Rattle.ecp_coord.proofs.AnyLaws.{or_none}
use Rattle.ecp_coord.proofs.CallLaws.{ended_kept}
use Rattle.ecp_coord.proofs.CoverLaws.{covered_free, open_unasked}
use Rattle.ecp_coord.proofs.EndLaws.{may_end}
use Rattle.ecp_coord.proofs.FollowLaws.{IsMet, idle_none, none_by, of_hand}
use Rattle.ecp_coord.proofs.KeepLaws.{IsPlain}
use Rattle.ecp_coord.proofs.LoseLaws.{length_told}
use Rattle.ecp_coord.proofs.SeekLaws.{none_of_call}
use Rattle.ecp_coord.proofs.UnendedLaws.{AsksWith, ends_as, number_of, open_asks, open_unended}

-- ---- the live blocks, stripe by stripe

one_more_number : (a n j : ℕ) → a + n ≡ j → range_with_len a (suc n) ≡ range_with_len a n ++ j ∷ []
one_more_number a zero j at = let same : a ≡ j = omega (arith, at) in ap (λ (k : ℕ). k ∷ []) same
one_more_number a (suc n) j at = ap (λ (ks : List ℕ). a ∷ ks) (one_more_number (a + 1) n j (omega (arith, at)))

-- with one stripe more its live rows are counted
pub sum_more : (f : ℕ → ℕ) (a n j m : ℕ) → a + n ≡ j → m ≡ n + 1 → sum_by f (range_with_len a m) ≡ sum_by f (range_with_len a n) + f j
sum_more f a n j m at more =
    let next : m ≡ suc n = omega (arith, more) in
    ap (λ (k : ℕ). sum_by f (range_with_len a k)) next ∙ ap (λ (ks : List ℕ). sum_by f ks) (one_more_number a n j at) ∙ sum_by_push f (range_with_len a n) j

-- ---- the stripe numbers of a file

-- the files have stripe numbers below this one
abbrev Below : ℕ → List File → Type 0
Below most fs = AllByRecursion (λ (f : File). f.first + f.stripes ≤ most) fs

below-lost : (most : ℕ) (t : PlainTable) (node : Option ℕ) → Below most t.files → Below most (option_map_or (lost t) node t).files
below-lost most t None all = all
below-lost most t (Some m) all = all

below-joined : (most : ℕ) (t : PlainTable) (inc : ℕ) (node : Option ℕ) → Below most t.files → Below most (option_map_or (λ m. joined t m inc) node t).files
below-joined most t inc None all = all
below-joined most t inc (Some m) all = all

below-after : (shape : Shape) (told : Bool) (most : ℕ) (before : List Entry) (t p : PlainTable) (e : Entry) (a : Act) → HoldsIn shape told before t p e a → StripesBelow most a
    → Below most t.files → Below most (after_act shape t e a).files
below-after shape told most before t p e (act.Stored first count up) holds below all =
    let each = length-stripes_among (nodes_in up) shape.n first (stripes shape.k shape.block e.bytes) in
    let counted = holds.counted in
    (omega (arith, below, counted, each), all)
below-after shape told most before t p e (act.Lost count) holds below all = below-lost most t (deed_node e.deed) all
below-after shape told most before t p e (act.Joined inc) holds below all = below-joined most t inc (deed_node e.deed) all
below-after shape told most before t p e _ holds below all = all

split_last : (P : Entry → Type 0) (xs : List Entry) (e : Entry) → AllByRecursion P (xs ++ e ∷ []) → AllByRecursion P xs × P e
split_last P [] e all = (tt, all.0)
split_last P (x ∷ xs) e all = let rest = split_last P xs e all.1 in ((all.0, rest.0), rest.1)

files_below : (shape : Shape) (told : Bool) (most : ℕ) (history : List Entry) → IsLegal shape told history → All (λ e. StripesBelow most e.line.act) history
    → Below most (table_of shape history).files
files_below shape told most history legal all =
    let P : Entry → Type 0 = λ e. StripesBelow most e.line.act in
    onwards shape told (λ h. AllByRecursion P h → Below most (table_of shape h).files)
    (λ h e was next so_far each.
    let parts = split_last P h e each in
    subst (λ (t : PlainTable). Below most t.files) (sym (one_more shape h e))
    (below-after shape told most h (table_of shape h) (table_at shape h e.line.point) e e.line.act next.holds parts.1 (so_far parts.0)))
    [] history legal (λ each. tt) (recursion_from_All P history all)

if_found : (most bound : ℕ) (name : List ℕ) (fs : List File) → most ≤ bound → Below most fs → IfSome (find (λ f. bytes_eq f.name name) fs) (λ f. f.first + f.stripes ≤ bound)
if_found most bound name [] le all = tt
if_found most bound name (f ∷ fs) le all = one (bytes_eq f.name name) (if_found most bound name fs le all.1) where
  one : (b : Bool) → IfSome (find (λ g. bytes_eq g.name name) fs) (λ g. g.first + g.stripes ≤ bound) → IfSome (cond b (Some f) (find (λ g. bytes_eq g.name name) fs)) (λ g. g.first + g.stripes ≤ bound)
  one true rest = omega (arith, all.0, le)
  one false rest = rest

-- a file of the catalog has numbers that a catalog keeps
pub file_numbers : (shape : Shape) (told : Bool) (callers spares : ℕ) (s : SequencerState) (p : CoordParts) → IsCoord shape told callers spares s p → IsLegal shape told (history_of s.history)
    → (name : List ℕ) → IfSome (file_of (plain p.catalog) name) HasNumbers
file_numbers shape told callers spares s p is legal name =
    let within : p.stripes ≤ END_OF_STRIPES = omega (arith, is.booked.numbers) in
    subst (λ (fs : List File). IfSome (find (λ f. bytes_eq f.name name) fs) HasNumbers) (sym is.outline.files)
    (if_found p.stripes END_OF_STRIPES name (table_of shape (history_of s.history)).files within
    (files_below shape told p.stripes (history_of s.history) legal is.booked.stored))

-- ---- what is found, as the catalog says it

pub file_same : (shape : Shape) (told : Bool) (c : CatalogState) (history : List Entry) → IsOutline shape told c history → (name : List ℕ)
    → file_of (plain c) name ≡ file_of (table_of shape history) name
file_same shape told c history is name = ap (λ (fs : List File). find (λ f. bytes_eq f.name name) fs) is.files

pub stat_found : (shape : Shape) (t : PlainTable) (name : List ℕ) (f : File) (count live : ℕ) → file_of t name ≡ Some f → count ≡ block_count shape f → live ≡ file_live t f
    → act.Stat f.len count live ≡ found_by_stating shape t name
stat_found shape t name f count live at counted lived =
    ap (λ (n : ℕ). act.Stat f.len n live) counted ∙ ap (λ (n : ℕ). act.Stat f.len (block_count shape f) n) lived
    ∙ ap (λ (o : Option File). option_map_or (stat_of shape t) o act.NoSuchFile) (sym at)

pub none_found : (shape : Shape) (t : PlainTable) (name : List ℕ) → file_of t name ≡ None → act.NoSuchFile ≡ found_by_stating shape t name
none_found shape t name at = ap (λ (o : Option File). option_map_or (stat_of shape t) o act.NoSuchFile) (sym at)

-- ---- a call that states a file has one entry, its end

ends_whole : (at : Place) (a : Act) → FitsCall ToStat at a → at ≡ AtEnd
ends_whole at (act.Opened len count first) fits = let same : ToStat ≡ ToCat = fits.0 in absurd (cc)
ends_whole at (act.Listed count) fits = let same : ToStat ≡ ToRebuild = fits.0 in absurd (cc)
ends_whole at act.Data (inl fits) = fits.1
ends_whole at act.Data (inr fits) = let same : ToStat ≡ ToCat = fits.0 in absurd (cc)
ends_whole at (act.Unrecoverable live) (inl fits) = fits.1
ends_whole at (act.Unrecoverable live) (inr fits) = let same : ToStat ≡ ToCat = fits.0 in absurd (cc)
ends_whole at (act.Unsteady positions) (inl (inl fits)) = fits.1
ends_whole at (act.Unsteady positions) (inl (inr fits)) = let same : ToStat ≡ ToCat = fits.0 in absurd (cc)
ends_whole at (act.Unsteady positions) (inr fits) = fits.1
ends_whole at (act.Restored stripe row node inc) fits = let same : ToStat ≡ ToRebuild = fits.0 in absurd (cc)
ends_whole at (act.AlreadyLive stripe row) fits = let same : ToStat ≡ ToRebuild = fits.0 in absurd (cc)
ends_whole at (act.Clash stripe row other) fits = let same : ToStat ≡ ToRebuild = fits.0 in absurd (cc)
ends_whole at (act.Gone stripe row live) fits = let same : ToStat ≡ ToRebuild = fits.0 in absurd (cc)
ends_whole at (act.MendFailed stripe row node) fits = let same : ToStat ≡ ToRebuild = fits.0 in absurd (cc)
ends_whole at (act.MendUnsteady stripe row positions) fits = let same : ToStat ≡ ToRebuild = fits.0 in absurd (cc)
ends_whole at (act.MendDown stripe row node) fits = let same : ToStat ≡ ToRebuild = fits.0 in absurd (cc)
ends_whole at _ fits = fits.1

is_last : (p : Part) → place_of p ≡ AtEnd → is_end p ≡ true
is_last part.End is = refl
is_last (part.Part zero) is = absurd (cc)
is_last (part.Part (suc j)) is = absurd (cc)

entry_ends : (name : List ℕ) (e : Entry) → Agrees e → e.deed ≡ Some (Stat name) → is_end e.line.part ≡ true
entry_ends name e agrees asks =
    is_last e.line.part (ends_whole (place_of e.line.part) e.line.act (subst (λ (d : Option Deed). FitsCall (kind_of d) (place_of e.line.part) e.line.act) asks agrees.call))

-- the entries of a hand whose open call states a file are of other calls
others : (name : List ℕ) (c : Call) → c.deed ≡ Some (Stat name) → (xs : Log) → AllByRecursion (λ x. Agrees (made_from x).entry) xs → AllByRecursion (AsksWith c) xs
    → list_any (ends_as c.number) xs ≡ false → AllByRecursion (λ x. (made_from x).entry.line.call ≢ c.number) xs
others name c asked [] agree asks none = tt
others name c asked (x ∷ xs) agree asks none =
    let off = or_none (ends_as c.number x) (list_any (ends_as c.number) xs) none in (
      λ same.
          let deed : (made_from x).entry.deed ≡ Some (Stat name) = ap (λ (k : Call). k.deed) (asks.0 same) ∙ asked in
          let ended_it : ends_call x ≡ true = entry_ends name (made_from x).entry agree.0 deed in
          let yes : ends_as c.number x ≡ true = ap (λ (b : Bool). b && ends_call x) (eq-eqb (number_of x) c.number same) ∙ ended_it in
          false≢true (sym off.0 ∙ yes),
      others name c asked xs agree.1 asks.1 off.1,
    )

all_agree : (shape : Shape) (told : Bool) (history : List Entry) → IsLegal shape told history → All Agrees history
all_agree shape told history legal k d within = (legal k (get_or history k d) (slice_get-get_or history k d within)).agrees

agree_by : (hand : ℕ) (xs : Log) → AllByRecursion Agrees (history_of xs) → AllByRecursion (λ x. Agrees (made_from x).entry) (items_by hand xs)
agree_by hand [] all = tt
agree_by hand (x ∷ xs) all = one (of_hand hand x) (agree_by hand xs all.1) where
  one : (b : Bool) → AllByRecursion (λ y. Agrees (made_from y).entry) (items_by hand xs) → AllByRecursion (λ y. Agrees (made_from y).entry) (cond b (x ∷ items_by hand xs) (items_by hand xs))
  one true rest = (all.0, rest)
  one false rest = rest

-- an entry with this act leaves the table, and books nothing
record IsQuiet (e : Entry) : Type 0 where
  same : changes e.line.act ≡ false
  plain : IsPlain e

module _ (shape : Shape) (told : Bool) (callers spares : ℕ) (s : SequencerState) (v : PassState) (p : CoordParts) (is : IsCoord shape told callers spares s p) (met : IsMet shape told callers spares s v)
    (name : List ℕ) (open_call : IsOpen v (Stat name)) where
  stat_alone : (position : ℕ) (what : Act) → IsAlone (history_of s.history) (ended v (Stat name) position what)
  stat_alone position what =
      let number : ℕ = v.calls - 1 in
      let c : Call = call_with number (Stat name) in
      let there : v.hand ≢ hands_of callers spares = λ same. omega (arith, same, met.in_range) in
      let stands : Stands s.history v.hand v.notes = subst (λ (ns : Log). Stands s.history v.hand ns) met.agree.notes (met.kept.stand v.hand there) in
      let asks : AllByRecursion (AsksWith c) (items_by v.hand s.history) =
      recursion_from_All (AsksWith c) (items_by v.hand s.history) (subst (All (AsksWith c)) (sym stands.entries) (open_asks v.hand s.history v.notes c stands open_call.call)) in
      let none : list_any (ends_as number) (items_by v.hand s.history) ≡ false =
      ap (list_any (ends_as number)) stands.entries ∙ open_unended v.hand s.history v.notes c stands open_call.call in
      let agree : AllByRecursion (λ x. Agrees (made_from x).entry) (items_by v.hand s.history) =
      agree_by v.hand s.history (recursion_from_All Agrees (history_of s.history) (all_agree shape told (history_of s.history) met.kept.legal.legal)) in
      none_of_call callers spares v.caller v.hand number (ended v (Stat name) position what) refl refl met.session s.history
      (recursion_from_All (FitsMaker callers spares) (made_of s.history) met.kept.made)
      (others name c refl (items_by v.hand s.history) agree asks none)
      (λ h its apart. none_by h s.history (idle_none shape told callers spares s v met is.idle h its apart))

  -- ---- the whole event

  -- what is entered may follow
  pub stat_goes : (what : Act) → what ≡ found_by_stating shape (table_of shape (history_of s.history)) name
      → MayFollow shape told (history_of s.history) (ended v (Stat name) (length s.history) what)
  stat_goes what found_is =
      subst (λ (n : ℕ). MayFollow shape told before (ended v (Stat name) n what)) (length_told s.history)
      (subst (λ (a : Act). MayFollow shape told before (ended v (Stat name) (length before) a)) (sym found_is) (one (file_of t name) refl))
    where
      before : List Entry
      before = history_of s.history

      t : PlainTable
      t = table_of shape before

      one : (o : Option File) → file_of t name ≡ o → MayFollow shape told before (ended v (Stat name) (length before) (option_map_or (stat_of shape t) o act.NoSuchFile))
      one None none = may_end shape told before v (Stat name) act.NoSuchFile met.session (inr (inr refl), refl) refl (λ yes. stat_alone (length before) act.NoSuchFile) none
      one (Some f) at =
          may_end shape told before v (Stat name) (stat_of shape t f) met.session (refl, refl) refl (λ off. absurd (false≢true off))
          (subst (λ (o : Option File). IsSomeAnd o (λ g. Measures shape t g f.len (block_count shape f) (file_live t f))) (sym at) (record { bytes = refl; blocks = refl; counted = refl }))

  pub stat_kept : (t : SequencerState) (w : PassState) (what : Act) → what ≡ found_by_stating shape (table_of shape (history_of s.history)) name
      → Ends shape told s v (Stat name) what t w → IsCoord shape told callers spares t p
  stat_kept t w what found_is ends =
      let e : Entry = ended v (Stat name) (length s.history) what in
      let quiet : IsQuiet e = subst (λ (a : Act). IsQuiet (ended v (Stat name) (length s.history) a)) (sym found_is) (one (file_of (table_of shape (history_of s.history)) name)) in
      ended_kept shape told callers spares s t v w p is met e (room_noted v.notes - 1) refl quiet.same quiet.plain
      (covered_free shape s v e (open_unasked shape v.notes (call_with (v.calls - 1) (Stat name)) open_call.call refl)) ends.event
    where
      one : (o : Option File) → IsQuiet (ended v (Stat name) (length s.history) (option_map_or (stat_of shape (table_of shape (history_of s.history))) o act.NoSuchFile))
      one None = record { same = refl; plain = record { stores = refl; drops = refl; spends = λ m. refl } }
      one (Some f) = record { same = refl; plain = record { stores = refl; drops = refl; spends = λ m. refl } }
