-- A file that is read whole, part by part.
use Rattle.std.proofs.Common.{◌≡◌, ℕ, zero, suc, ◌+◌, ◌-◌, ◌^◌, ◌<◌, ◌≤◌, ◌==◌, ◌⊎◌, Bool, true, false, not, ◌&&◌, ◌||◌, List, [], ◌∷◌, ◌++◌, length, Option, Some, None, is_some, refl, sym, ◌∙◌, ap, subst, arith, inl, inr, append_assoc, append-nil}
use Rattle.std.specs.Prelude.{IsSome, IsTrue, All}
use Rattle.std.specs.List.{list_any}
use mathlib.Core.List.{IsPrefix}
use Rattle.std.proofs.lemmas.Bool.{and_parts, cases_lt, eq-eqb, eqb-true, false≢true}
use Rattle.std.proofs.lemmas.List.{length-append}
use Rattle.std.proofs.lemmas.List.Elements.{All-append, All-nil, All-push, All-weaker}
use Rattle.std.proofs.lemmas.List.Folds.{list_any-append}
use Rattle.ecp_shape.specs.declared.shape.Shape.{Shape}
use Rattle.ecp_book.specs.Logs.{Log}
use Rattle.ecp_book.proofs.Prefixes.{prefix_length, prefix_trans}
use Rattle.ecp_entry.specs.declared.act.Act.{Act}
use Rattle.ecp_entry.specs.declared.act.Act.TheVariants as act
use Rattle.ecp_entry.specs.declared.deed.Deed.{Deed}
use Rattle.ecp_entry.specs.declared.deed.Deed.TheVariants as deed
use Rattle.ecp_entry.specs.declared.entry.Entry.{Entry}
use Rattle.ecp_entry.specs.declared.part.Part.{Part}
use Rattle.ecp_entry.specs.declared.part.Part.TheVariants as part
use Rattle.ecp_entry.specs.Entries.{is_numbered}
use Rattle.ecp_entry.specs.Items.{item}
use Rattle.ecp_entry.specs.Told.{history_of, items_by}
use Rattle.ecp_entry.proofs.ToldLaws.{history_of-append, history_of-more}
use Rattle.ecp_history.specs.Acts.{HasDataBelow}
use Rattle.ecp_history.specs.Fronts.{told_table}
use Rattle.ecp_history.specs.Legal.{IsLegal, TellsLegal}
use Rattle.ecp_history.specs.Named.{block_at}
use Rattle.ecp_history.specs.Parts.{FollowsData, HasPart, is_data, is_opened, opens}
use Rattle.ecp_history.specs.table.Steps.{table_of}
use Rattle.ecp_history.specs.declared.table.block_name.BlockName.{BlockName}
use Rattle.ecp_sequencer.specs.Facts.{room_noted}
use Rattle.ecp_sequencer.specs.Notes.{Call, call_of}
use Rattle.ecp_sequencer.specs.Passes.{PassState}
use Rattle.ecp_sequencer.specs.Steps.{Called, EndsWith, IsOfCall, Steps, call_with}
use Rattle.ecp_sequencer.proofs.StepLaws.{steps_both}
use Rattle.ecp_coord.specs.Calls.{IsOpen, ended}
use Rattle.ecp_coord.specs.Closing.{MayClose}
use Rattle.ecp_coord.specs.Plans.{AsksPart}
use Rattle.ecp_coord.proofs.StayLaws.{block_at_stays}
use Rattle.ecp_cluster.specs.Answered.{HasBegun}
use Rattle.ecp_cluster.specs.Concluded.{Answers, Concludes}
use Rattle.ecp_cluster.specs.Reading.{IsReading}
use Rattle.ecp_cluster.specs.Whole.{AreParts, HasMade, StoppedShort}

-- ---- entries of parts, one after another

parts_both : (j : ℕ) (ps qs : List Entry) → AreParts j ps → AreParts (j + length ps) qs → AreParts j (ps ++ qs)
parts_both j [] qs before after = subst (λ (n : ℕ). AreParts n qs) (omega arith) after
parts_both j (p ∷ ps) qs before after = (before.0, parts_both (suc j) ps qs before.1 (subst (λ (n : ℕ). AreParts n qs) (omega arith) after))

module _ (v : PassState) (asked : Deed) where
  -- one part
  pub part_made : (shape : Shape) (told : Bool) (w : PassState) (j : ℕ) (what : Act) (given : List ℕ) (c : Answers shape told v asked (part.Part j) what given w) → HasMade v asked j (c.entry ∷ []) w
  part_made shape told w j what given c = record {
    more = c.more;
    steps = c.steps;
    calls = c.calls;
    own = All-push (IsOfCall v.caller (call_with (v.calls - 1) asked)) [] c.entry (All-nil (IsOfCall v.caller (call_with (v.calls - 1) asked))) (record { by = c.by; of_call = c.of_call });
    late = All-push (λ (e : Entry). length v.front ≤ e.line.point) [] c.entry (All-nil (λ (e : Entry). length v.front ≤ e.line.point)) c.late;
    numbered = (c.of_part, tt);
  }

  -- and those behind it
  pub made_both : (u w : PassState) (j n : ℕ) (ps qs : List Entry) → HasMade v asked j ps u → n ≡ j + length ps → HasMade u asked n qs w → HasMade v asked j (ps ++ qs) w
  made_both u w j n ps qs a is b =
      let own : All (IsOfCall v.caller (call_with (v.calls - 1) asked)) qs =
      subst (λ (m : ℕ). All (IsOfCall v.caller (call_with (m - 1) asked)) qs) a.calls (subst (λ (k : ℕ). All (IsOfCall k (call_with (u.calls - 1) asked)) qs) a.steps.caller b.own) in
      let longer : length v.front ≤ length u.front = prefix_length v.front u.front a.steps.extends in
      record {
        more = a.more ++ b.more;
        steps = steps_both v u w ps qs a.more b.more a.steps b.steps;
        calls = b.calls ∙ a.calls;
        own = All-append (IsOfCall v.caller (call_with (v.calls - 1) asked)) ps qs a.own own;
        late = All-append (λ (e : Entry). length v.front ≤ e.line.point) ps qs a.late
            (All-weaker (λ (e : Entry). length u.front ≤ e.line.point) (λ (e : Entry). length v.front ≤ e.line.point) (λ (e : Entry) late. omega (arith, longer, late)) qs b.late);
        numbered = parts_both j ps qs a.numbered (subst (λ (m : ℕ). AreParts m qs) is b.numbered);
      }

-- ---- what stands in a front

any_before : (test : Entry → Bool) (before more : List Entry) → IsTrue (list_any test before) → IsTrue (list_any test (before ++ more))
any_before test before more stands = list_any-append test before more ∙ ap (λ (b : Bool). b || list_any test more) stands

or_second : (b c : Bool) → c ≡ true → (b || c) ≡ true
or_second true c is = refl
or_second false c is = is

any_wider : (one other : Entry → Bool) → ((e : Entry) → one e ≡ true → other e ≡ true) → (es : List Entry) → list_any one es ≡ true → list_any other es ≡ true
any_wider one other wider [] is = absurd (false≢true is)
any_wider one other wider (e ∷ es) is = either (one e) refl (any_wider one other wider es) is where
  either : (b : Bool) → one e ≡ b → (list_any one es ≡ true → list_any other es ≡ true) → (b || list_any one es) ≡ true → (other e || list_any other es) ≡ true
  either true here rest h = ap (λ (c : Bool). c || list_any other es) (wider e here)
  either false here rest h = or_second (other e) (list_any other es) (rest h)

or_last : (b : Bool) → (b || true) ≡ true
or_last true = refl
or_last false = refl

-- whether an entry is part i of a call of a caller, with an act that passes the test
abbrev is_that : ℕ → ℕ → ℕ → (Act → Bool) → Entry → Bool
is_that caller call i test x = (((x.line.caller == caller) && (x.line.call == call)) && is_numbered i x.line.part) && test x.line.act

module _ (shape : Shape) (told : Bool) (v w : PassState) (name : List ℕ) (j : ℕ) (what : Act) (given : List ℕ) (c : Answers shape told v (deed.Cat name) (part.Part j) what given w) where
  -- the front grew by entries, the last of which is the part's
  grown : history_of w.front ≡ history_of v.front ++ history_of c.steps.extends.0
  grown = ap (λ (xs : Log). history_of xs) (sym c.steps.extends.1) ∙ history_of-append v.front c.steps.extends.0

  ends_with : history_of w.front ≡ history_of c.stands.0 ++ c.entry ∷ []
  ends_with = ap (λ (xs : Log). history_of xs) c.stands.1 ∙ history_of-more c.stands.0 v.hand c.entry

  -- of the same call
  same_call : (i : ℕ) (test : Act → Bool) → IsTrue (list_any (is_that v.caller (v.calls - 1) i test) (history_of w.front)) → IsTrue (list_any (is_that w.caller (w.calls - 1) i test) (history_of w.front))
  same_call i test is =
      subst (λ (k : ℕ). IsTrue (list_any (is_that k (w.calls - 1) i test) (history_of w.front))) (sym c.steps.caller)
      (subst (λ (n : ℕ). IsTrue (list_any (is_that v.caller (n - 1) i test) (history_of w.front))) (sym c.calls) is)

  -- what stood stands
  stands_still : (i : ℕ) (test : Act → Bool) → IsTrue (list_any (is_that v.caller (v.calls - 1) i test) (history_of v.front)) → IsTrue (list_any (is_that w.caller (w.calls - 1) i test) (history_of w.front))
  stands_still i test is =
      same_call i test (subst (λ (es : List Entry). IsTrue (list_any (is_that v.caller (v.calls - 1) i test) es)) (sym grown)
      (any_before (is_that v.caller (v.calls - 1) i test) (history_of v.front) (history_of c.steps.extends.0) is))

  -- and so does the part
  stands_new : (test : Act → Bool) → test what ≡ true → IsTrue (list_any (is_that w.caller (w.calls - 1) j test) (history_of w.front))
  stands_new test passes =
      let e : Entry = c.entry in
      let by : e.line.caller == v.caller ≡ true = eq-eqb e.line.caller v.caller c.by in
      let of : e.line.call == (v.calls - 1) ≡ true = eq-eqb e.line.call (v.calls - 1) (ap (λ (x : Call). x.number) c.of_call) in
      let number : is_numbered j e.line.part ≡ true = ap (is_numbered j) c.of_part ∙ eq-eqb j j refl in
      let says : test e.line.act ≡ true = ap test c.act ∙ passes in
      let here : is_that v.caller (v.calls - 1) j test e ≡ true = rw (by, of, number, says) refl in
      same_call j test (subst (λ (es : List Entry). IsTrue (list_any (is_that v.caller (v.calls - 1) j test) es)) (sym ends_with)
      (list_any-append (is_that v.caller (v.calls - 1) j test) (history_of c.stands.0) (e ∷ [])
      ∙ ap (λ (b : Bool). list_any (is_that v.caller (v.calls - 1) j test) (history_of c.stands.0) || (b || false)) here
      ∙ or_last (list_any (is_that v.caller (v.calls - 1) j test) (history_of c.stands.0))))

  still_there : (index : ℕ) (o : Option BlockName) → block_at shape (told_table shape v.front) name index ≡ o → IsSome o → IsSome (block_at shape (told_table shape w.front) name index)
  still_there index None named some = absurd (false≢true some)
  still_there index (Some b) named some =
      subst (λ (es : List Entry). IsSome (block_at shape (table_of shape es) name index)) (sym grown)
      (ap (λ (o : Option BlockName). is_some o)
      (block_at_stays shape told name index b (history_of v.front) (history_of c.steps.extends.0) (subst (IsLegal shape told) grown c.legal.legal) named))

  module _ (count i : ℕ) (number : j ≡ suc i) (r : IsReading shape v name count i) where
    part_new : (test : Act → Bool) → test what ≡ true → IsTrue (list_any (is_that w.caller (w.calls - 1) (suc i) test) (history_of w.front))
    part_new test passes = subst (λ (k : ℕ). IsTrue (list_any (is_that w.caller (w.calls - 1) k test) (history_of w.front))) number (stands_new test passes)

    data_still : (k : ℕ) → k < i → IsTrue (list_any (is_that w.caller (w.calls - 1) (suc k) is_data) (history_of w.front))
    data_still k below = stands_still (suc k) is_data (r.has.each k below)

    -- with data: the next part may be asked for
    pub reads_more : what ≡ act.Data → IsReading shape w name count (i + 1)
    reads_more says = record {
      is_open = c.left.0;
      room = c.left.1 says;
      known = ap (λ (h : ℕ). items_by h w.front) c.steps.hand ∙ c.steps.settled;
      has = record {
        opened = stands_still 0 (opens count) r.has.opened;
        each = λ k below. each k below (cases_lt k i);
      };
      there = λ k low. still_there k (block_at shape (told_table shape v.front) name k) refl (r.there k low);
    } where
      each : (k : ℕ) → k < i + 1 → (k < i) ⊎ (i ≤ k) → IsTrue (list_any (is_that w.caller (w.calls - 1) (suc k) is_data) (history_of w.front))
      each k below (inl low) = data_still k low
      each k below (inr high) =
          let last : k ≡ i = omega (arith, high, below) in
          subst (λ (m : ℕ). IsTrue (list_any (is_that w.caller (w.calls - 1) (suc m) is_data) (history_of w.front))) (sym last) (part_new is_data (ap is_data says))

    -- without: the call is broken there
    pub breaks_off : i < count → is_data what ≡ false → MayClose w (act.Broken i)
    breaks_off below off = record {
      asked = deed.Cat name;
      is_open = c.left.0;
      fits = (refl, refl);
      by_parts = (
        count,
        below,
        record { opened = stands_still 0 (opens count) r.has.opened; each = data_still },
        part_new (λ a. not (is_data a)) (ap not off),
      );
    }

-- ---- what may come next

module _ (shape : Shape) (v : PassState) (name : List ℕ) (count : ℕ) where
  due_at : (i : ℕ) → HasDataBelow (history_of v.front) (ended v (deed.Cat name) (length v.front) act.Whole) count i → FollowsData (history_of v.front) (ended v (deed.Cat name) (length v.front) act.Whole) i
  due_at zero has = any_wider (is_that v.caller (v.calls - 1) 0 (opens count)) (is_that v.caller (v.calls - 1) 0 is_opened) wider (history_of v.front) has.opened where
    opened : (a : Act) → opens count a ≡ true → is_opened a ≡ true
    opened (act.Opened len n first) is = refl
    opened _ is = absurd (false≢true is)

    wider : (e : Entry) → is_that v.caller (v.calls - 1) 0 (opens count) e ≡ true → is_that v.caller (v.calls - 1) 0 is_opened e ≡ true
    wider e is =
        let parts = and_parts (((e.line.caller == v.caller) && (e.line.call == (v.calls - 1))) && is_numbered 0 e.line.part) (opens count e.line.act) is in
        rw (parts.0, opened e.line.act parts.1) refl
  due_at (suc k) has = has.each k (omega arith)

  -- the part for the next block
  pub asks_next : (i : ℕ) → i < count → suc i < 2 ^ 32 → IsReading shape v name count i → AsksPart shape v name i
  asks_next i low few r = record { is_open = r.is_open; room = r.room; due = due_at i r.has; there = r.there i low; numbered = few }

  -- or the end
  pub closes_whole : (i : ℕ) → i ≡ count → IsReading shape v name count i → MayClose v act.Whole
  closes_whole i all r = record {
    asked = deed.Cat name;
    is_open = r.is_open;
    fits = (refl, refl);
    by_parts = (count, subst (λ (n : ℕ). HasDataBelow (history_of v.front) (ended v (deed.Cat name) (length v.front) act.Whole) count n) all r.has);
  }

-- ---- the whole call

module _ (shape : Shape) (told : Bool) (u v p w : PassState) (asked : Deed) (what : Act) (given : List ℕ) (parts : List Entry) (began : HasBegun u asked v) (made : HasMade v asked 0 parts p) where
  number : v.calls - 1 ≡ u.calls
  number = omega (arith, began.calls)

  longer : length u.front ≤ length v.front
  longer = prefix_length u.front v.front began.steps.extends

  its_parts : All (IsOfCall u.caller (call_with u.calls asked)) parts
  its_parts =
      subst (λ (n : ℕ). All (IsOfCall u.caller (call_with n asked)) parts) number (subst (λ (k : ℕ). All (IsOfCall k (call_with (v.calls - 1) asked)) parts) began.steps.caller made.own)

  late_parts : All (λ (e : Entry). length u.front ≤ e.line.point) parts
  late_parts = All-weaker (λ (e : Entry). length v.front ≤ e.line.point) (λ (e : Entry). length u.front ≤ e.line.point) (λ (e : Entry) late. omega (arith, longer, late)) parts made.late

  pub called_after : (c : Concludes shape told p asked what given w) → Called shape told u asked parts c.entry w
  called_after c =
      let e : Entry = c.entry in
      let calls : p.calls - 1 ≡ u.calls = omega (arith, made.calls, began.calls) in
      let its : IsOfCall u.caller (call_with u.calls asked) e =
      record { by = c.by ∙ made.steps.caller ∙ began.steps.caller; of_call = c.of_call ∙ ap (λ (n : ℕ). call_with n asked) calls } in
      let late : length u.front ≤ e.line.point = omega (arith, longer, prefix_length v.front p.front made.steps.extends, c.late) in
      record {
        more = began.more ++ (made.more ++ c.more);
        steps = steps_both u v w [] (parts ++ e ∷ []) began.more (made.more ++ c.more) began.steps (steps_both v p w parts (e ∷ []) made.more c.more made.steps c.steps);
        legal = c.legal;
        counted = c.calls ∙ made.calls ∙ began.calls;
        own = All-push (IsOfCall u.caller (call_with u.calls asked)) parts e its_parts its;
        late = All-push (λ (x : Entry). length u.front ≤ x.line.point) parts e late_parts late;
        ends = c.of_part;
        stands = (c.stands.0, c.stands.1 ∙ ap (λ (h : ℕ). c.stands.0 ++ item h e ∷ []) (made.steps.hand ∙ began.steps.hand));
      }

  pub stopped_after : StoppedShort u asked p
  stopped_after = record {
    parts = parts;
    more = began.more ++ made.more;
    steps = steps_both u v p [] parts began.more made.more began.steps made.steps;
    own = its_parts;
    late = late_parts;
    numbered = made.numbered;
    calls = omega (arith, made.calls, began.calls);
  }
