-- A file is opened, its blocks are read one after another, and the call ends.
use Rattle.std.proofs.Common.{◌≡◌, ℕ, zero, suc, ◌+◌, ◌-◌, ◌<◌, ◌≤◌, Bool, true, false, cond, List, [], ◌∷◌, ◌++◌, length, take, flat_map, Option, Some, None, is_some, Result, Ok, Err, IfOk, OnErr, refl, sym, ◌∙◌, ap, subst, arith, append-nil, append_assoc, length-take}
use Rattle.std.specs.Prelude.{IsSome, nat_lt, option_and_then, replicate}
use Rattle.std.specs.Option.{option_map_or}
use Rattle.std.proofs.lemmas.Bool.{eq-eqb, false≢true}
use Rattle.std.proofs.lemmas.Bool.Decides.{nat_tests}
use Rattle.std.proofs.lemmas.List.{length-append}
use Rattle.std.proofs.lemmas.List.Elements.{All-nil, All-push}
use Rattle.sha2.specs.Hashers.{Holds256}
use Rattle.sha2.specs.Sha256.{sha256}
use Rattle.ecp_shape.specs.declared.shape.Shape.{Shape}
use Rattle.ecp_book.proofs.Prefixes.{prefix_length}
use Rattle.ecp_entry.specs.declared.act.Act.{Act}
use Rattle.ecp_entry.specs.declared.act.Act.TheVariants as act
use Rattle.ecp_entry.specs.declared.deed.Deed.{Deed}
use Rattle.ecp_entry.specs.declared.deed.Deed.TheVariants as deed
use Rattle.ecp_entry.specs.declared.entry.Entry.{Entry}
use Rattle.ecp_entry.specs.declared.part.Part.TheVariants as part
use Rattle.ecp_entry.specs.Told.{history_of, items_by}
use Rattle.ecp_entry.proofs.ToldLaws.{history_of-more}
use Rattle.ecp_history.specs.declared.table.file.File.{File}
use Rattle.ecp_history.specs.Fronts.{told_table}
use Rattle.ecp_history.specs.Legal.{IsLegal}
use Rattle.ecp_history.specs.Named.{block_at}
use Rattle.ecp_history.specs.Parts.{is_data, opens}
use Rattle.ecp_history.specs.table.Steps.{table_of}
use Rattle.ecp_history.specs.declared.table.block_name.BlockName.{BlockName}
use Rattle.ecp_history.specs.table.Tables.{PlainTable, block_count, file_block, file_of}
use Rattle.ecp_sequencer.specs.Facts.{entries_noted, room_noted}
use Rattle.ecp_sequencer.specs.Passes.{PassState}
use Rattle.ecp_sequencer.specs.Sequencers.{SequencerState}
use Rattle.ecp_sequencer.specs.Steps.{IsOfCall, Steps, call_with}
use Rattle.ecp_sequencer.proofs.StepLaws.{steps_both, steps_none, steps_whole}
use Rattle.ecp_coord.specs.declared.opened.Opened.{Opened}
use Rattle.ecp_coord.specs.declared.opened.Opened.TheVariants as found
use Rattle.ecp_coord.specs.Calls.{IsOpen, part_of}
use Rattle.ecp_coord.specs.Opening.{Opens, found_by_opening, opened_of}
use Rattle.ecp_coord.proofs.ClosingLaws.{part_stands}
use Rattle.ecp_coord.proofs.StayLaws.{block_at_stays}
use Rattle.ecp_coord.proofs.StillLaws.{stays_open}
use Rattle.ecp_cluster.specs.declared.answer.Answer.{Answer}
use Rattle.ecp_cluster.specs.declared.file_sum.FileSum.{FileSum}
use Rattle.ecp_cluster.specs.Answered.{FoundNone, HasBegun}
use Rattle.ecp_cluster.specs.Concluded.{Answers, Concludes, WentOn}
use Rattle.ecp_cluster.specs.Reading.{HasTaken, IsReading, OpensFrom, ReadsOn, StopsShort}
use Rattle.ecp_cluster.specs.Summed.{no_digest}
use Rattle.ecp_cluster.specs.Whole.{HasMade, ReadWhole, StoppedShort, cause_in, digest_by, first_bytes, last_act, opened_bytes, opened_count, parts_by}
use Rattle.ecp_cluster.proofs.CallLaws.{concluded}
use Rattle.ecp_cluster.proofs.WholeLaws.{breaks_off, called_after, made_both, part_made, reads_more, stopped_after}

-- ---- a file that was opened

abbrev count_of : Opened → ℕ
count_of (found.Opened len count first) = count
count_of found.NoSuchFile = 0

one_there : (shape : Shape) (f : File) (j : ℕ) → j < block_count shape f → IsSome (cond (nat_lt j (block_count shape f)) (Some (file_block shape f j)) None)
one_there shape f j low =
    let is : nat_lt j (block_count shape f) ≡ true = grind (arith, nat_tests) in
    ap (λ (b : Bool). is_some (cond b (Some (file_block shape f j)) None)) is

-- its blocks are there
blocks_there : (shape : Shape) (t : PlainTable) (name : List ℕ) (o : Option File) (len count first j : ℕ) → file_of t name ≡ o → found.Opened len count first ≡ option_map_or (opened_of shape) o found.NoSuchFile → j < count
    → IsSome (block_at shape t name j)
blocks_there shape t name None len count first j at is low = absurd (cc is)
blocks_there shape t name (Some f) len count first j at is low =
    let counted : count ≡ block_count shape f = ap count_of is in
    ap (λ (o : Option File). is_some (option_and_then (λ g. cond (nat_lt j (block_count shape g)) (Some (file_block shape g j)) None) o)) at
    ∙ one_there shape f j (omega (arith, counted, low))

-- and stay there
stays_there : (shape : Shape) (told : Bool) (name : List ℕ) (j : ℕ) (o : Option BlockName) (before more : List Entry) → IsLegal shape told (before ++ more) → block_at shape (table_of shape before) name j ≡ o → IsSome o
    → IsSome (block_at shape (table_of shape (before ++ more)) name j)
stays_there shape told name j None before more legal named some = absurd (false≢true some)
stays_there shape told name j (Some b) before more legal named some = ap (λ (o : Option BlockName). is_some o) (block_at_stays shape told name j b before more legal named)

pub opened_from : (shape : Shape) (told : Bool) (s t : SequencerState) (v w : PassState) (name : List ℕ) (o : Opened) → IsOpen v (deed.Cat name) → 3 ≤ room_noted v.notes → Opens shape told s v name o t w
    → o ≡ found_by_opening shape (told_table shape s.history) name → OpensFrom shape told v name o w
opened_from shape told s t v w name found.NoSuchFile is some ends found_is = concluded shape told s t v w (deed.Cat name) act.NoSuchFile ends
opened_from shape told s t v w name (found.Opened len count first) is some enters found_is =
    let what : Act = act.Opened len count first in
    let e : Entry = part_of v (deed.Cat name) 0 (length s.history) what in
    let stays = stays_open v w (deed.Cat name) (part.Part 0) (length s.history) (length s.history) 2 what [] is enters.event.steps.noted enters.calls (steps_whole v w _ _ enters.event.steps is.whole) (omega arith) (omega (arith, some)) in
    let grown : history_of w.front ≡ history_of s.history ++ e ∷ [] = ap history_of (enters.event.front ∙ enters.event.history) ∙ history_of-more s.history v.hand e in (
      e,
      refl,
      record {
        more = _;
        steps = enters.event.steps;
        calls = enters.calls;
        own = All-push (IsOfCall v.caller (call_with (v.calls - 1) (deed.Cat name))) [] e (All-nil (IsOfCall v.caller (call_with (v.calls - 1) (deed.Cat name)))) (record { by = refl; of_call = refl });
        late = All-push (λ (x : Entry). length v.front ≤ x.line.point) [] e (All-nil (λ (x : Entry). length v.front ≤ x.line.point)) (prefix_length v.front s.history enters.begins);
        numbered = (refl, tt);
      },
      record {
        is_open = stays.0;
        room = stays.1;
        known = ap (λ (h : ℕ). items_by h w.front) enters.event.steps.hand ∙ enters.event.steps.settled;
        has = record {
          opened = part_stands shape told s t v w (deed.Cat name) 0 what (length w.front) act.Whole (opens count) enters (eq-eqb count count refl);
          each = λ k below. absurd (omega (arith, below));
        };
        there = λ j low.
            subst (λ (es : List Entry). IsSome (block_at shape (table_of shape es) name j)) (sym grown)
            (stays_there shape told name j (block_at shape (told_table shape s.history) name j) (history_of s.history) (e ∷ []) (subst (IsLegal shape told) grown enters.event.legal.legal) refl
            (blocks_there shape (told_table shape s.history) name (file_of (told_table shape s.history) name) len count first j refl found_is low));
      },
    )

-- ---- block after block

-- the first i blocks were read: a pass went from p to w
pub record ReadsTo (shape : Shape) (p : PassState) (name : List ℕ) (len count i : ℕ) (sum : FileSum) (w : PassState) : Type 0 where
  pub blocks : List Entry
  pub made : HasMade p (deed.Cat name) 1 blocks w
  pub counted : length blocks ≡ i
  pub reading : IsReading shape w name count i
  pub taken : HasTaken len sum (flat_map (λ (e : Entry). e.bytes) blocks)

pub none_yet : (p : PassState) (asked : Deed) (j : ℕ) → items_by p.hand p.front ≡ entries_noted p.notes → HasMade p asked j [] p
none_yet p asked j known = record {
  more = [];
  steps = steps_none p known;
  calls = refl;
  own = All-nil (IsOfCall p.caller (call_with (p.calls - 1) asked));
  late = All-nil (λ (x : Entry). length p.front ≤ x.line.point);
  numbered = tt;
}

flat_more : (blocks : List Entry) (e : Entry) (bytes : List ℕ) → e.bytes ≡ bytes → flat_map (λ (x : Entry). x.bytes) (blocks ++ e ∷ []) ≡ flat_map (λ (x : Entry). x.bytes) blocks ++ bytes
flat_more [] e bytes is = append-nil e.bytes ∙ is
flat_more (b ∷ blocks) e bytes is = ap (λ (xs : List ℕ). b.bytes ++ xs) (flat_more blocks e bytes is) ∙ sym (append_assoc b.bytes (flat_map (λ (x : Entry). x.bytes) blocks) bytes)

last_of : (what : Act) (blocks : List Entry) (e : Entry) → last_act what (blocks ++ e ∷ []) ≡ e.line.act
last_of what [] e = refl
last_of what (b ∷ blocks) e = last_of b.line.act blocks e

module _ (shape : Shape) (told : Bool) (p u w : PassState) (name : List ℕ) (len count i : ℕ) (sum : FileSum) (so_far : ReadsTo shape p name len count i sum u) where
  -- of the next part
  made_more : (what : Act) (given : List ℕ) (c : Answers shape told u (deed.Cat name) (part.Part (suc i)) what given w) → HasMade p (deed.Cat name) 1 (so_far.blocks ++ c.entry ∷ []) w
  made_more what given c =
      made_both p (deed.Cat name) u w 1 (suc i) so_far.blocks (c.entry ∷ []) so_far.made (omega (arith, so_far.counted)) (part_made u (deed.Cat name) shape told w (suc i) what given c)

  -- with data
  pub reads_to_next : (what : Act) (given : List ℕ) (next : FileSum) → what ≡ act.Data → Answers shape told u (deed.Cat name) (part.Part (suc i)) what given w
      → HasTaken len next (flat_map (λ (e : Entry). e.bytes) so_far.blocks ++ given) → ReadsTo shape p name len count (i + 1) next w
  reads_to_next what given next is c taken = record {
    blocks = so_far.blocks ++ c.entry ∷ [];
    made = made_more what given c;
    counted = length-append so_far.blocks (c.entry ∷ []) ∙ omega (arith, so_far.counted);
    reading = reads_more shape told u w name (suc i) what given c count i refl so_far.reading is;
    taken = subst (λ (bytes : List ℕ). HasTaken len next bytes) (sym (flat_more so_far.blocks c.entry given c.bytes)) taken;
  }

  -- without
  pub breaks_on : (what : Act) (given : List ℕ) (q : PassState) (a : Answer) → Answers shape told u (deed.Cat name) (part.Part (suc i)) what given w → Concludes shape told w (deed.Cat name) (act.Broken i) [] q
      → a.act ≡ act.Broken i → a.len ≡ len → a.cause ≡ what → a.digest ≡ no_digest → (a.bytes ≡ []) × (a.by_digest ≡ false) → ReadsOn shape told p name len count a q
  breaks_on what given q a c ends is len_is cause digest none = record {
    blocks = so_far.blocks ++ c.entry ∷ [];
    until = w;
    made = made_more what given c;
    ends = subst (λ (x : Act). Concludes shape told w (deed.Cat name) x [] q) (sym is) ends;
    counted = ap (λ (n : ℕ). n + 1) (length-append so_far.blocks (c.entry ∷ [])) ∙ omega (arith, so_far.counted) ∙ ap (λ (x : Act). parts_by count x) (sym is);
    len_is = len_is;
    cause = λ e. cause ∙ sym c.act ∙ sym (last_of e.line.act so_far.blocks c.entry) ∙ ap (λ (x : Act). cause_in x (e ∷ (so_far.blocks ++ c.entry ∷ []))) (sym is);
    digest = digest ∙ ap (λ (x : Act). digest_by x (first_bytes len (so_far.blocks ++ c.entry ∷ []))) (sym is);
    none = none;
  }

  -- all of them
  pub reads_whole : (q : PassState) (a : Answer) → i ≡ count → Concludes shape told u (deed.Cat name) act.Whole [] q → a.act ≡ act.Whole → a.len ≡ len → a.cause ≡ act.Whole
      → a.digest ≡ sha256 (take len (flat_map (λ (e : Entry). e.bytes) so_far.blocks)) → (a.bytes ≡ []) × (a.by_digest ≡ false) → ReadsOn shape told p name len count a q
  reads_whole q a all ends is len_is cause digest none = record {
    blocks = so_far.blocks;
    until = u;
    made = so_far.made;
    ends = subst (λ (x : Act). Concludes shape told u (deed.Cat name) x [] q) (sym is) ends;
    counted = omega (arith, so_far.counted, all) ∙ ap (λ (x : Act). parts_by count x) (sym is);
    len_is = len_is;
    cause = λ e. cause ∙ ap (λ (x : Act). cause_in x (e ∷ so_far.blocks)) (sym is);
    digest = digest ∙ ap (λ (x : Act). digest_by x (first_bytes len so_far.blocks)) (sym is);
    none = none;
  }

  -- no memory was found for the next one
  pub stops_at : WentOn u w → StopsShort p name w
  stops_at goes = record {
    blocks = so_far.blocks;
    made = record {
      more = so_far.made.more ++ goes.more;
      steps = subst (λ (es : List Entry). Steps p es (so_far.made.more ++ goes.more) w) (append-nil so_far.blocks)
          (steps_both p u w so_far.blocks [] so_far.made.more goes.more so_far.made.steps goes.steps);
      calls = goes.calls ∙ so_far.made.calls;
      own = so_far.made.own;
      late = so_far.made.late;
      numbered = so_far.made.numbered;
    };
  }

-- ---- the whole call

pub none_short : (v w : PassState) (asked : Deed) → FoundNone v w → StoppedShort v asked w
none_short v w asked none = record {
  parts = [];
  more = none.more;
  steps = none.steps;
  own = All-nil (IsOfCall v.caller (call_with v.calls asked));
  late = All-nil (λ (e : Entry). length v.front ≤ e.line.point);
  numbered = tt;
  calls = none.calls;
}

module _ (shape : Shape) (told : Bool) (u v p w : PassState) (name : List ℕ) (began : HasBegun u (deed.Cat name) v) where
  -- of a file that was opened
  pub read_whole : (len count first : ℕ) (a : Answer) → OpensFrom shape told v name (found.Opened len count first) p → ReadsOn shape told p name len count a w → ReadWhole shape told u name a w
  read_whole len count first a opened r =
      let e : Entry = opened.0 in
      let made : HasMade v (deed.Cat name) 0 (e ∷ r.blocks) r.until = made_both v (deed.Cat name) p r.until 0 1 (e ∷ []) r.blocks opened.2 refl r.made in
      let lens : opened_bytes e.line.act ≡ len = ap opened_bytes opened.1 in
      let counts : opened_count e.line.act ≡ count = ap opened_count opened.1 in
      record {
        parts = e ∷ r.blocks;
        last = r.ends.entry;
        called = called_after shape told u v r.until w (deed.Cat name) a.act [] (e ∷ r.blocks) began made r.ends;
        numbered = made.numbered;
        counted = omega (arith, r.counted) ∙ ap (λ (n : ℕ). parts_by n a.act) (sym counts);
        act = r.ends.act;
        len = r.len_is ∙ sym lens;
        cause = r.cause e;
        digest = r.digest ∙ ap (λ (n : ℕ). digest_by a.act (first_bytes n r.blocks)) (sym lens);
        none = r.none;
      }

  -- that stopped short
  pub stopped_short : (len count first : ℕ) → OpensFrom shape told v name (found.Opened len count first) p → StopsShort p name w → StoppedShort u (deed.Cat name) w
  stopped_short len count first opened stops =
      stopped_after shape told u v w w (deed.Cat name) act.Whole [] (opened.0 ∷ stops.blocks) began (made_both v (deed.Cat name) p w 0 1 (opened.0 ∷ []) stops.blocks opened.2 refl stops.made)

  -- whether it was read or stopped short
  pub whole_either : {E : Type 0} (len count first : ℕ) (result : Result Answer E) → OpensFrom shape told v name (found.Opened len count first) p → IfOk result (λ a. ReadsOn shape told p name len count a w)
      → IfOk result (λ a. ReadWhole shape told u name a w)
  whole_either len count first (Ok a) opened r = read_whole len count first a opened r
  whole_either len count first (Err e) opened r = tt

  pub short_either : {E : Type 0} (len count first : ℕ) (result : Result Answer E) → OpensFrom shape told v name (found.Opened len count first) p → OnErr result (StopsShort p name w)
      → OnErr result (StoppedShort u (deed.Cat name) w)
  short_either len count first (Ok a) opened stops = tt
  short_either len count first (Err e) opened stops = stopped_short len count first opened stops

  -- of no file
  pub none_to_read : (a : Answer) → Concludes shape told v (deed.Cat name) act.NoSuchFile [] w → a.act ≡ act.NoSuchFile → a.len ≡ 0 → a.cause ≡ act.NoSuchFile
      → a.digest ≡ no_digest → (a.bytes ≡ []) × (a.by_digest ≡ false) → ReadWhole shape told u name a w
  none_to_read a ends is len cause digest none =
      let known : items_by v.hand v.front ≡ entries_noted v.notes = ap (λ (h : ℕ). items_by h v.front) began.steps.hand ∙ began.steps.settled in
      let made : HasMade v (deed.Cat name) 0 [] v = none_yet v (deed.Cat name) 0 known in
      record {
        parts = [];
        last = ends.entry;
        called = called_after shape told u v v w (deed.Cat name) act.NoSuchFile [] [] began made ends;
        numbered = tt;
        counted = ap (λ (x : Act). parts_by 0 x) (sym is);
        act = ends.act ∙ sym is;
        len = len;
        cause = cause ∙ ap (λ (x : Act). cause_in x []) (sym is);
        digest = digest ∙ ap (λ (x : Act). digest_by x []) (sym is);
        none = none;
      }

-- ---- the digest of a file

take_empty : (n : ℕ) (xs : List ℕ) → xs ≡ [] → take n xs ≡ []
take_empty zero xs is = refl
take_empty (suc n) [] is = refl
take_empty (suc n) (x ∷ xs) is = absurd (cc is)

take_both : (n : ℕ) (xs ys : List ℕ) → take n (xs ++ ys) ≡ take n xs ++ take (n - length xs) ys
take_both n [] ys =
    let all : n ≡ n - 0 = omega arith in
    ap (λ (m : ℕ). take m ys) all ∙ ap (λ (zs : List ℕ). zs ++ take (n - 0) ys) (sym (take_empty n [] refl))
take_both zero (x ∷ xs) ys =
    let none : 0 ≡ 0 - length (x ∷ xs) = omega arith in
    ap (λ (m : ℕ). take m ys) none
take_both (suc n) (x ∷ xs) ys =
    let left : n - length xs ≡ suc n - length (x ∷ xs) = omega arith in
    ap (λ (zs : List ℕ). x ∷ zs) (take_both n xs ys) ∙ ap (λ (m : ℕ). x ∷ (take n xs ++ take m ys)) left

-- a sum that takes as many bytes of the next block as the file has still
pub takes_more : (len : ℕ) (old new : FileSum) (bytes block more : List ℕ) → HasTaken len old bytes → more ≡ take old.left block → new.left ≡ old.left - length more → Holds256 new.hasher (take len bytes ++ more)
    → HasTaken len new (bytes ++ block)
takes_more len old new bytes block more has is left holds =
    let due : more ≡ take (len - length bytes) block = is ∙ ap (λ (n : ℕ). take n block) has.left in
    record {
      holds = subst (λ (m : List ℕ). Holds256 new.hasher m) (ap (λ (xs : List ℕ). take len bytes ++ xs) due ∙ sym (take_both len bytes block)) holds;
      left = omega (arith, left, has.left, ap (λ (xs : List ℕ). length xs) is, length-take old.left block, length-append bytes block);
    }
