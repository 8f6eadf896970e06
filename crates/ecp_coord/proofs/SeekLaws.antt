-- What is found by asking for a block: a block that can be had, or a refusal that may come next.
use Rattle.std.proofs.Common.{◌≡◌, ◌≢◌, ℕ, ◌-◌, ◌<◌, ◌≤◌, ◌==◌, Bool, true, false, cond, List, [], ◌∷◌, length, Option, Some, None, Result, Ok, Err, refl, sym, ◌∙◌, ap, subst, arith, inl, inr}
use Rattle.std.specs.Prelude.{All, IsSomeAnd, IsTrue, MatchOption, nat_le, nat_lt, option_and_then, ⊤}
use Rattle.std.specs.List.{AllByRecursion, list_any}
use Rattle.std.specs.Option.{option_map_or}
use mathlib.Core.Logic.{dite}
use native.Mathlib.Decide.{ℕ_discrete}
use Rattle.std.proofs.lemmas.Bool.{and_parts, false≢true, eq-eqb, eqb-true}
use Rattle.std.proofs.lemmas.Bool.Decides.{nat_tests}
use Rattle.std.proofs.lemmas.List.Elements.{All-weaker, recursion_from_All}
use Rattle.ecp_shape.specs.declared.limits.TheConstants.{MAX_SESSIONS}
use Rattle.ecp_shape.specs.declared.shape.Shape.{Shape}
use Rattle.ecp_shape.specs.Range.{IsInRange}
use Rattle.ecp_book.specs.Logs.{Log}
use Rattle.ecp_entry.specs.declared.act.Act.{Act}
use Rattle.ecp_entry.specs.declared.act.Act.TheVariants as act
use Rattle.ecp_entry.specs.declared.deed.Deed.{Deed}
use Rattle.ecp_entry.specs.declared.entry.Entry.{Entry}
use Rattle.ecp_entry.specs.declared.part.Part.TheVariants as part
use Rattle.ecp_entry.specs.Entries.{deed_name, is_same_call}
use Rattle.ecp_entry.specs.Told.{Made, history_of, items_by, made_from, made_of}
use Rattle.ecp_history.specs.Acts.{HoldsIn, LacksBlock, LacksRows}
use Rattle.ecp_history.specs.Calls.{AtEnd, FitsBytes, FitsCall, Kind, ToRead, kind_of}
use Rattle.ecp_history.specs.Legal.{IsLegal, MayFollow}
use Rattle.ecp_history.specs.Named.{block_at, deed_block, deed_index}
use Rattle.ecp_history.specs.Parts.{IsAlone, refuses}
use Rattle.ecp_history.specs.declared.table.block_name.BlockName.{BlockName}
use Rattle.ecp_history.specs.declared.table.file.File.{File}
use Rattle.ecp_history.specs.table.Steps.{table_at, table_of}
use Rattle.ecp_history.specs.table.Tables.{PlainTable, block_count, file_block, file_of, is_live, live_rows}
use Rattle.ecp_catalog.specs.Catalogs.{CatalogState}
use Rattle.ecp_catalog.specs.Outline.{IsOutline}
use Rattle.ecp_sequencer.specs.Hands.{IsHandOf, hands_of}
use Rattle.ecp_sequencer.specs.Facts.{entries_noted}
use Rattle.ecp_sequencer.specs.Histories.{FitsMaker, Stands}
use Rattle.ecp_sequencer.specs.Passes.{PassState}
use Rattle.ecp_sequencer.specs.Sequencers.{SequencerState}
use Rattle.ecp_sequencer.specs.Steps.{call_with}
use Rattle.ecp_sequencer.proofs.CallLaws.{begun_alone}
use Rattle.ecp_coord.specs.declared.no_plan.NoPlan.{NoPlan}
use Rattle.ecp_coord.specs.declared.no_plan.NoPlan.TheVariants as no
use Rattle.ecp_coord.specs.Calls.{IsFresh, ended}
use Rattle.ecp_coord.specs.Coords.{AreIdle}
use Rattle.ecp_coord.specs.Plans.{AsksBlock, is_recoverable, refusal_of, sought, sought_block, sought_in}
use Rattle.ecp_coord.proofs.AnyLaws.{both_none, or_none}
use Rattle.ecp_coord.proofs.EndLaws.{may_end}
use Rattle.ecp_coord.proofs.FollowLaws.{IsMet, idle_none, none_by, of_hand}
use Rattle.ecp_coord.proofs.StandLaws.{block_stands, stands_lost}

-- ---- a block that is found

pub record IsHad (shape : Shape) (t : PlainTable) (name : List ℕ) (index : ℕ) (b : BlockName) : Type 0 where
  pub named : block_at shape t name index ≡ Some b
  pub had : is_recoverable shape t b ≡ true

-- a file that has so many blocks
in_file : (shape : Shape) (t : PlainTable) (f : File) (index : ℕ) (b : BlockName) → sought_in shape t f index ≡ Ok b
    → (cond (nat_lt index (block_count shape f)) (Some (file_block shape f index)) None ≡ Some b) × (is_recoverable shape t b ≡ true)
in_file shape t f index b is = one (nat_lt index (block_count shape f)) is where
  one : (below : Bool) → cond below (sought_block shape t (file_block shape f index)) (Err (no.NoSuchBlock (block_count shape f))) ≡ Ok b
      → (cond below (Some (file_block shape f index)) None ≡ Some b) × (is_recoverable shape t b ≡ true)
  one false h = absurd (cc)
  one true h = two (is_recoverable shape t (file_block shape f index)) refl h where
    two : (had : Bool) → is_recoverable shape t (file_block shape f index) ≡ had
        → cond had (Ok (file_block shape f index)) (Err (no.Unrecoverable (live_rows t (file_block shape f index).stripe))) ≡ Ok b
        → (Some (file_block shape f index) ≡ Some b) × (is_recoverable shape t b ≡ true)
    two false off g = absurd (cc)
    two true on g =
        let same : file_block shape f index ≡ b = cc in
        (ap (λ (x : BlockName). Some x) same, subst (λ (x : BlockName). is_recoverable shape t x ≡ true) same on)

pub found_had : (shape : Shape) (t : PlainTable) (name : List ℕ) (index : ℕ) (b : BlockName) → sought shape t name index ≡ Ok b → IsHad shape t name index b
found_had shape t name index b is =
    let both = one (file_of t name) is in
    record { named = both.0; had = both.1 }
  where
    one : (o : Option File) → option_map_or (λ f. sought_in shape t f index) o (Err no.NoSuchFile) ≡ Ok b
        → (option_and_then (λ f. cond (nat_lt index (block_count shape f)) (Some (file_block shape f index)) None) o ≡ Some b) × (is_recoverable shape t b ≡ true)
    one None h = absurd (cc)
    one (Some f) h = in_file shape t f index b h

-- ---- a call that asks for a block

-- what is said of it by its deed alone
pub record IsOfBlock (asked : Deed) (name : List ℕ) (index : ℕ) : Type 0 where
  pub kind : kind_of (Some asked) ≡ ToRead
  pub named : deed_name (Some asked) ≡ name
  pub indexed : deed_index (Some asked) ≡ Some index
  pub block : (shape : Shape) (t : PlainTable) → deed_block shape t part.End (Some asked) ≡ block_at shape t name index

pub of_block : (asked : Deed) (name : List ℕ) (index : ℕ) → AsksBlock asked name index → IsOfBlock asked name index
of_block asked name index (inl is) = subst (λ (d : Deed). IsOfBlock d name index) (sym is) (record { kind = refl; named = refl; indexed = refl; block = λ shape t. refl })
of_block asked name index (inr is) = subst (λ (d : Deed). IsOfBlock d name index) (sym is) (record { kind = refl; named = refl; indexed = refl; block = λ shape t. refl })

-- ---- a refusal

-- a block of a file that cannot be had is lost, and too few rows of its stripe are live
pub lacks_rows : (shape : Shape) (told : Bool) (c : CatalogState) (history : List Entry) (name : List ℕ) (index : ℕ) (b : BlockName) → IsInRange shape → IsLegal shape told history → IsOutline shape told c history
    → block_at shape (table_of shape history) name index ≡ Some b → is_recoverable shape (table_of shape history) b ≡ false
    → LacksRows shape (table_of shape history) (live_rows (table_of shape history) b.stripe) b
lacks_rows shape told c history name index b range legal is named off =
    let t : PlainTable = table_of shape history in
    let parts = or_none (is_live t b.stripe b.row) (nat_le shape.k (live_rows t b.stripe)) off in
    record {
      lost = stands_lost t b.stripe b.row (block_stands shape told c history name index b range legal is named) parts.0;
      counted = refl;
      few = (let low : nat_le shape.k (live_rows t b.stripe) ≡ false = parts.1 in grind (arith, nat_tests));
    }

-- a call of which the hand has no entry has none in the history
module _ (callers spares caller hand number : ℕ) (e : Entry) (by : e.line.caller ≡ caller) (of : e.line.call ≡ number) (session : caller < MAX_SESSIONS) where
  other_call : (x : List ℕ) → FitsMaker callers spares (made_from x) → (of_hand hand x ≡ true → (made_from x).entry.line.call ≢ number)
      → ((h : ℕ) → IsHandOf spares caller h → h ≢ hand → of_hand h x ≡ false) → is_same_call e (made_from x).entry ≡ false
  other_call x fits differs others = either (is_same_call e (made_from x).entry) refl where
    either : (b : Bool) → is_same_call e (made_from x).entry ≡ b → b ≡ false
    either false is = refl
    either true is =
        let m : Made = made_from x in
        let both = and_parts (m.entry.line.caller == e.line.caller) (m.entry.line.call == e.line.call) is in
        let same : m.entry.line.caller ≡ caller = eqb-true m.entry.line.caller e.line.caller both.0 ∙ by in
        let number_is : m.entry.line.call ≡ number = eqb-true m.entry.line.call e.line.call both.1 ∙ of in
        let its : IsHandOf spares caller m.hand = subst (λ (k : ℕ). IsHandOf spares k m.hand) same (fits.session (subst (λ (k : ℕ). k < MAX_SESSIONS) (sym same) session)) in
        absurd (dite (ℕ_discrete m.hand hand)
        (λ (own : m.hand ≡ hand). differs (eq-eqb m.hand hand own) number_is)
        (λ (apart : m.hand ≢ hand). false≢true (sym (others m.hand its apart) ∙ eq-eqb m.hand m.hand refl)))

  pub none_of_call : (xs : Log) → AllByRecursion (FitsMaker callers spares) (made_of xs) → AllByRecursion (λ x. (made_from x).entry.line.call ≢ number) (items_by hand xs)
      → ((h : ℕ) → IsHandOf spares caller h → h ≢ hand → list_any (of_hand h) xs ≡ false) → list_any (is_same_call e) (history_of xs) ≡ false
  none_of_call [] fits differ others = refl
  none_of_call (x ∷ xs) fits differ others =
      both_none (is_same_call e (made_from x).entry) (list_any (is_same_call e) (history_of xs))
      (other_call x fits.0 (λ mine. head (of_hand hand x) mine differ) (λ h its apart. (or_none (of_hand h x) (list_any (of_hand h) xs) (others h its apart)).0))
      (none_of_call xs fits.1 (tail (of_hand hand x) differ) (λ h its apart. (or_none (of_hand h x) (list_any (of_hand h) xs) (others h its apart)).1))
    where
      tail : (b : Bool) → AllByRecursion (λ y. (made_from y).entry.line.call ≢ number) (cond b (x ∷ items_by hand xs) (items_by hand xs)) → AllByRecursion (λ y. (made_from y).entry.line.call ≢ number) (items_by hand xs)
      tail true all = all.1
      tail false all = all

      head : (b : Bool) → b ≡ true → AllByRecursion (λ y. (made_from y).entry.line.call ≢ number) (cond b (x ∷ items_by hand xs) (items_by hand xs)) → (made_from x).entry.line.call ≢ number
      head true is all = all.0
      head false is all = absurd (false≢true is)

module _ (shape : Shape) (told : Bool) (callers spares : ℕ) where
  -- a call that noted nothing yet has none, so the entry that ends it is alone
  pub fresh_alone : (s : SequencerState) (v : PassState) (asked : Deed) (position : ℕ) (what : Act) → IsMet shape told callers spares s v → AreIdle spares s.notes → IsFresh v asked
      → v.hand ≢ hands_of callers spares → IsAlone (history_of s.history) (ended v asked position what)
  fresh_alone s v asked position what met idle fresh apart =
      let number : ℕ = v.calls - 1 in
      let stands : Stands s.history v.hand v.notes = subst (λ (ns : Log). Stands s.history v.hand ns) met.agree.notes (met.kept.stand v.hand apart) in
      let less : All (λ x. (made_from x).entry.line.call < number) (entries_noted v.notes) =
      begun_alone s.history v.notes v.hand (call_with number asked) stands fresh.is_open.call fresh.none in
      none_of_call callers spares v.caller v.hand number (ended v asked position what) refl refl met.session s.history
      (recursion_from_All (FitsMaker callers spares) (made_of s.history) met.kept.made)
      (recursion_from_All (λ x. (made_from x).entry.line.call ≢ number) (items_by v.hand s.history)
      (subst (All (λ x. (made_from x).entry.line.call ≢ number)) (sym stands.entries)
      (All-weaker (λ x. (made_from x).entry.line.call < number) (λ x. (made_from x).entry.line.call ≢ number) (λ x below same. omega (arith, below, same)) (entries_noted v.notes) less)))
      (λ h its other. none_by h s.history (idle_none shape told callers spares s v met idle h its other))

  -- what is entered for a refusal may come next
  abbrev Follows : SequencerState → PassState → Deed → Result BlockName NoPlan → Type 0
  Follows s v asked (Ok b) = ⊤
  Follows s v asked (Err why) =
      MatchOption (refusal_of why) ⊤ (λ what. MayFollow shape told (history_of s.history) (ended v asked (length (history_of s.history)) what))

  pub refusal_follows : (s : SequencerState) (v : PassState) (c : CatalogState) (asked : Deed) (name : List ℕ) (index : ℕ) → AsksBlock asked name index → IsInRange shape
      → IsOutline shape told c (history_of s.history) → IsMet shape told callers spares s v → AreIdle spares s.notes → IsFresh v asked → (why : NoPlan)
      → sought shape (table_of shape (history_of s.history)) name index ≡ Err why
      → MatchOption (refusal_of why) ⊤ (λ what. MayFollow shape told (history_of s.history) (ended v asked (length (history_of s.history)) what))
  refusal_follows s v c asked name index asks range is met idle fresh why found =
      subst (Follows s v asked) found (file (file_of t name) refl)
    where
      before : List Entry
      before = history_of s.history

      t : PlainTable
      t = table_of shape before

      says : IsOfBlock asked name index
      says = of_block asked name index asks

      ends : (what : Act) → FitsCall ToRead AtEnd what → FitsBytes (Some asked) [] what → (IsTrue (refuses what) → IsAlone before (ended v asked (length before) what))
          → HoldsIn shape told before t (table_at shape before (length before)) (ended v asked (length before) what) what → MayFollow shape told before (ended v asked (length before) what)
      ends what fits bytes alone holds =
          may_end shape told before v asked what met.session (subst (λ (kind : Kind). FitsCall kind AtEnd what) (sym says.kind) fits) bytes alone holds

      block : (f : File) → file_of t name ≡ Some f → index < block_count shape f → (had : Bool) → is_recoverable shape t (file_block shape f index) ≡ had
          → Follows s v asked (cond had (Ok (file_block shape f index)) (Err (no.Unrecoverable (live_rows t (file_block shape f index).stripe))))
      block f at below true had = tt
      block f at below false off =
          let b : BlockName = file_block shape f index in
          let on : nat_lt index (block_count shape f) ≡ true = grind (arith, nat_tests) in
          let named : block_at shape t name index ≡ Some b =
          ap (λ (o : Option File). option_and_then (λ g. cond (nat_lt index (block_count shape g)) (Some (file_block shape g index)) None) o) at
          ∙ ap (λ (x : Bool). cond x (Some b) None) on in
          ends (act.Unrecoverable (live_rows t b.stripe)) (inl (refl, refl)) refl (λ no_call. absurd (false≢true no_call))
          (subst (λ (o : Option BlockName). IsSomeAnd o (LacksRows shape t (live_rows t b.stripe))) (sym (says.block shape t ∙ named)) (lacks_rows shape told c before name index b range met.kept.legal.legal is named off))

      number : (f : File) → file_of t name ≡ Some f → (below : Bool) → nat_lt index (block_count shape f) ≡ below
          → Follows s v asked (cond below (sought_block shape t (file_block shape f index)) (Err (no.NoSuchBlock (block_count shape f))))
      number f at true on = block f at (grind (arith, nat_tests)) (is_recoverable shape t (file_block shape f index)) refl
      number f at false off =
          let count : ℕ = block_count shape f in
          let far : count ≤ index = grind (arith, nat_tests) in
          ends (act.NoSuchBlock count) (refl, refl) refl (λ no_call. absurd (false≢true no_call))
          (subst (λ (o : Option File). IsSomeAnd o (LacksBlock shape (ended v asked (length before) (act.NoSuchBlock count)) count)) (sym (ap (file_of t) says.named ∙ at))
          (record { counted = refl; beyond = subst (λ (o : Option ℕ). IsSomeAnd o (λ i. count ≤ i)) (sym says.indexed) far }))

      file : (o : Option File) → file_of t name ≡ o → Follows s v asked (option_map_or (λ f. sought_in shape t f index) o (Err no.NoSuchFile))
      file None none =
          ends act.NoSuchFile (inl refl, refl) refl
          (λ yes. fresh_alone s v asked (length before) act.NoSuchFile met idle fresh (λ same. omega (arith, same, met.in_range)))
          (ap (file_of t) says.named ∙ none)
      file (Some f) at = number f at (nat_lt index (block_count shape f)) refl
