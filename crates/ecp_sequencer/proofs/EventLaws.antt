-- What a meeting teaches, and what each event says.
use Rattle.std.proofs.Common.{◌≡◌, ◌≢◌, ℕ, ◌+◌, ◌-◌, ◌^◌, ◌<◌, ◌≤◌, ◌==◌, Bool, true, cond, List, [], ◌∷◌, ◌++◌, length, map, set, get_or, refl, sym, ◌∙◌, ap, subst, arith, append-nil, get_or-set_same}
use Rattle.std.specs.Prelude.{slice_index}
use mathlib.Core.List.{IsPrefix}
use Rattle.std.proofs.lemmas.Bool.Decides.{nat_tests}
use Rattle.std.proofs.lemmas.List.{set-get_or, map-set, map-append, length-map, length_push}
use Rattle.ecp_shape.specs.declared.shape.Shape.{Shape}
use Rattle.ecp_book.specs.Logs.{Log}
use Rattle.ecp_book.proofs.Prefixes.{prefix_self, prefix_trans, prefix_both}
use Rattle.ecp_entry.specs.declared.deed.Deed.{Deed}
use Rattle.ecp_entry.specs.declared.entry.Entry.{Entry}
use Rattle.ecp_entry.specs.declared.line.Line.{Line}
use Rattle.ecp_entry.specs.Items.{item}
use Rattle.ecp_entry.specs.Told.{history_of, items_by}
use Rattle.ecp_entry.proofs.ToldLaws.{history_of-more, items_by-append, items_by-item}
use Rattle.ecp_history.specs.Journals.{Held}
use Rattle.ecp_history.specs.Legal.{MayFollow, TellsLegal}
use Rattle.ecp_history.specs.Files.{HasBytes}
use Rattle.ecp_sequencer.specs.Hands.{hands_of, IsHandOf}
use Rattle.ecp_sequencer.specs.declared.limits.TheConstants.{ROOM}
use Rattle.ecp_sequencer.specs.Notes.{Call, note, beginning_of, entering_of}
use Rattle.ecp_sequencer.specs.Facts.{HandFacts, facts_of, entries_noted, room_noted}
use Rattle.ecp_sequencer.specs.Histories.{FitsNote, IsKept, notes_at, lines_of}
use Rattle.ecp_sequencer.specs.Passes.{HandNotes, PassState, IsPass, pass_seen, with_note}
use Rattle.ecp_sequencer.specs.Sequencers.{DeskState, SequencerState, IsSequencer, Agrees, notes_of}
use Rattle.ecp_sequencer.specs.Steps.{Event, IsOwn, call_with}
use Rattle.ecp_sequencer.proofs.NoteLaws.{facts-began, facts-entered, facts-other}
use Rattle.ecp_sequencer.proofs.KeptLaws.{items_by-prefix, fits_began, fits_other, kept_by_note, kept_by_entry}
use Rattle.ecp_sequencer.proofs.DeskLaws.{desk_notes, has_desk, room_within, with_desk}
use Rattle.ecp_sequencer.proofs.StepLaws.{pass_next}

-- the items of a hand's entries are all of that hand
pub items_by-items : (hand : ℕ) (mine : List Entry) → items_by hand (map (item hand) mine) ≡ map (item hand) mine
items_by-items hand [] = refl
items_by-items hand (e ∷ mine) =
    let same : hand == hand ≡ true = grind (arith, nat_tests) in
    items_by-append hand (item hand e ∷ []) (map (item hand) mine)
    ∙ ap (λ (xs : Log). xs ++ items_by hand (map (item hand) mine)) (items_by-item hand hand e ∙ ap (λ (b : Bool). cond b (item hand e ∷ []) []) same)
    ∙ ap (λ (xs : Log). item hand e ∷ xs) (items_by-items hand mine)

module _ (shape : Shape) (told : Bool) (callers spares : ℕ) where
  -- the front begins the history, and the notes are equal
  pub agree : (s : SequencerState) (p : PassState) (log : ℕ) → IsKept shape told callers spares s.history s.notes → IsPass callers spares log p
      → IsPrefix p.front s.history → notes_at s.notes p.hand ≡ p.notes → Agrees s p
  agree s p log kept is begins notes =
      let here : p.hand ≢ hands_of callers spares = λ same. omega (arith, is.in_range) in
      let whole : items_by p.hand s.history ≡ entries_noted p.notes = (kept.stand p.hand here).entries ∙ ap entries_noted notes in
      record {
        begins = begins;
        notes = notes;
        known = prefix_both (items_by p.hand p.front) (entries_noted p.notes)
            (subst (IsPrefix (items_by p.hand p.front)) whole (items_by-prefix p.hand p.front s.history begins)) is.noted;
        entered = whole;
      }

  -- one law for all events
  pub event : (s t : SequencerState) (v w : PassState) (mine : List Entry) (more : Log) → Agrees s v → v.hand < length s.notes
      → IsKept shape told callers spares t.history t.notes → t.history ≡ s.history ++ map (item v.hand) mine → t.notes ≡ set s.notes v.hand w.notes
      → w.caller ≡ v.caller → w.hand ≡ v.hand → w.places ≡ v.places → w.spare ≡ v.spare → w.front ≡ t.history → w.notes ≡ v.notes ++ more → v.hand < hands_of callers spares
      → Event shape told s v mine more t w
  event s t v w mine more met within kept history notes caller hand places spare front noted in_range =
      let here : v.hand ≢ hands_of callers spares = λ same. omega (arith, in_range) in
      let at : notes_at t.notes v.hand ≡ w.notes = ap (λ (ns : List Log). notes_at ns v.hand) notes ∙ get_or-set_same s.notes v.hand w.notes [] within in
      let whole : items_by v.hand t.history ≡ entries_noted w.notes = (kept.stand v.hand here).entries ∙ ap entries_noted at in
      let settled : items_by v.hand w.front ≡ entries_noted w.notes = ap (items_by v.hand) front ∙ whole in
      let longer : IsPrefix s.history t.history = (map (item v.hand) mine, sym history) in
      let entered : items_by v.hand w.front ≡ items_by v.hand v.front ++ map (item v.hand) mine =
      ap (items_by v.hand) (front ∙ history) ∙ items_by-append v.hand s.history (map (item v.hand) mine)
      ∙ ap (λ (xs : Log). items_by v.hand s.history ++ xs) (items_by-items v.hand mine)
      ∙ ap (λ (xs : Log). xs ++ map (item v.hand) mine) (met.entered ∙ sym met.known) in
      let of_w : (front : Log) → items_by w.hand front ≡ items_by v.hand front = λ xs. ap (λ (h : ℕ). items_by h xs) hand in
      record {
        history = history;
        notes = notes;
        steps = record {
          caller = caller;
          hand = hand;
          places = places;
          spare = spare;
          extends = subst (IsPrefix v.front) (sym front) (prefix_trans v.front s.history t.history met.begins longer);
          known = met.known;
          entered = entered;
          noted = noted;
          settled = settled;
        };
        front = front;
        legal = subst (λ (xs : Log). TellsLegal shape told xs) (sym front) kept.legal;
        agrees = record {
          begins = subst (λ (xs : Log). IsPrefix xs t.history) (sym front) (prefix_self t.history);
          notes = ap (notes_at t.notes) hand ∙ at;
          known = of_w w.front ∙ settled;
          entered = of_w t.history ∙ whole;
        };
      }

  -- the notes of a hand that noted nothing more
  pub notes_same : (notes : List Log) (hand : ℕ) (mine : Log) → notes_at notes hand ≡ mine → notes ≡ set notes hand mine
  notes_same notes hand mine at = sym (ap (set notes hand) (sym at) ∙ set-get_or notes hand [])

-- a sequencer with this history and these desks
abbrev pub seen : Log → List DeskState → SequencerState
seen history desks = record { history = history; notes = notes_of desks }

module _ (shape : Shape) (told : Bool) (callers spares : ℕ) where
  -- the front becomes the whole history, and nothing is noted
  pub renewed : (s : SequencerState) (v : PassState) (log flog taken : ℕ) (history after longer : Log) (journal : Held) (desks : List DeskState) (caller calls : ℕ) (front : Log)
      (own : HandNotes) (spare : List HandNotes)
      → IsSequencer shape told callers spares log history journal desks taken → seen history desks ≡ s
      → IsPass callers spares flog (pass_seen spares caller calls front own spare) → pass_seen spares caller calls front own spare ≡ v → Agrees s v
      → after ≡ history → longer ≡ history
      → Event shape told s v [] [] (seen after desks) (pass_seen spares caller calls longer own spare)
  renewed s v log flog taken history after longer journal desks caller calls front own spare is is_s ps is_v met kept whole =
      let hand : own.hand ≡ v.hand = ap (λ (p : PassState). p.hand) is_v in
      let notes : own.notes ≡ v.notes = ap (λ (p : PassState). p.notes) is_v in
      let heard : notes_of desks ≡ s.notes = ap (λ (t : SequencerState). t.notes) is_s in
      event shape told callers spares s (seen after desks) v (pass_seen spares caller calls longer own spare) [] [] met
      (omega (arith, is.kept.hands, ps.in_range, hand, ap (λ (ns : List Log). length ns) heard))
      (subst (λ (xs : Log). IsKept shape told callers spares xs (notes_of desks)) (sym kept) is.kept)
      (kept ∙ ap (λ (t : SequencerState). t.history) is_s ∙ sym (append-nil s.history))
      (heard ∙ notes_same shape told callers spares s.notes v.hand v.notes met.notes ∙ ap (set s.notes v.hand) (sym notes))
      (ap (λ (p : PassState). p.caller) is_v) hand (ap (λ (p : PassState). p.places) is_v) (ap (λ (p : PassState). p.spare) is_v) (whole ∙ sym kept) (notes ∙ sym (append-nil v.notes))
      (omega (arith, ps.in_range, hand))

  -- one more note, by a pass whose front is the whole history
  pub noted : (s : SequencerState) (v : PassState) (log flog taken : ℕ) (history : Log) (journal later : Held) (desks : List DeskState) (caller calls next : ℕ) (front : Log)
      (own wrote : HandNotes) (spare : List HandNotes) (n left : ℕ) (d new : DeskState) (point room : ℕ) (what : List ℕ)
      → IsSequencer shape told callers spares log history journal desks taken → seen history desks ≡ s
      → IsPass callers spares flog (pass_seen spares caller calls front own spare) → pass_seen spares caller calls front own spare ≡ record v { front = s.history } → Agrees s v
      → n ≡ own.hand → d ≡ get_or desks n d → new ≡ record { hand = d.hand; notes = d.notes ++ note point room what ∷ []; room = room }
      → wrote ≡ with_note own (note point room what) → point ≡ length history
      → later.lines ≡ journal.lines → left + d.room ≡ taken + room → left ≤ later.spare → length history + left < 2 ^ 32 - 1
      → FitsNote v.hand s.history v.notes (note (length s.history) room what)
      → entries_noted (v.notes ++ note (length s.history) room what ∷ []) ≡ entries_noted v.notes
      → (facts_of (v.notes ++ note (length s.history) room what ∷ [])).calls ≤ next → calls ≤ next
      → IsSequencer shape told callers spares log history later (set desks n new) left
      × IsPass callers spares flog (pass_seen spares caller next front wrote spare)
      × Event shape told s v [] (note (length s.history) room what ∷ []) (seen history (set desks n new)) (pass_seen spares caller next front wrote spare)
  noted s v log flog taken history journal later desks caller calls next front own wrote spare n left d new point room what is is_s ps is_v met at_n at is_new is_wrote is_point
      lines taking fits_lines places fits same numbered rises =
      let hand : own.hand ≡ v.hand = ap (λ (p : PassState). p.hand) is_v in
      let notes : own.notes ≡ v.notes = ap (λ (p : PassState). p.notes) is_v in
      let past : history ≡ s.history = ap (λ (t : SequencerState). t.history) is_s in
      let heard : notes_of desks ≡ s.notes = ap (λ (t : SequencerState). t.notes) is_s in
      let index : n ≡ v.hand = at_n ∙ hand in
      let x : List ℕ = note (length s.history) room what in
      let is_x : note point room what ≡ x = ap (λ (k : ℕ). note k room what) (is_point ∙ ap (λ (xs : Log). length xs) past) in
      let here : n < length desks = has_desk shape told callers spares log history journal desks taken n is (omega (arith, at_n, ps.in_range)) in
      let within : v.hand < length s.notes = omega (arith, here, index, length-map desks (λ (y : DeskState). y.notes), ap (λ (ns : List Log). length ns) heard) in
      let was : d.notes ≡ v.notes =
      sym (desk_notes desks n d here at) ∙ ap (λ (ns : List Log). notes_at ns n) heard ∙ ap (notes_at s.notes) index ∙ met.notes in
      let now : new.notes ≡ v.notes ++ x ∷ [] =
      ap (λ (y : DeskState). y.notes) is_new ∙ ap (λ (ns : Log). ns ++ note point room what ∷ []) was ∙ ap (λ (y : List ℕ). v.notes ++ y ∷ []) is_x in
      let before : IsKept shape told callers spares s.history s.notes = subst (λ (t : SequencerState). IsKept shape told callers spares t.history t.notes) is_s is.kept in
      let more : IsKept shape told callers spares s.history (set s.notes v.hand (notes_at s.notes v.hand ++ x ∷ [])) =
      kept_by_note shape told callers spares s.history s.notes v.hand x before within
      (subst (λ (ns : Log). FitsNote v.hand s.history ns x) (sym met.notes) fits)
      (subst (λ (ns : Log). entries_noted (ns ++ x ∷ []) ≡ entries_noted ns) (sym met.notes) same) in
      let moved : set s.notes v.hand (notes_at s.notes v.hand ++ x ∷ []) ≡ set (notes_of desks) n new.notes =
      ap (λ (ns : Log). set s.notes v.hand (ns ++ x ∷ [])) met.notes ∙ ap (set s.notes v.hand) (sym now)
      ∙ ap (λ (k : ℕ). set s.notes k new.notes) (sym index) ∙ ap (λ (ns : List Log). set ns n new.notes) (sym heard) in
      let kept : IsKept shape told callers spares history (set (notes_of desks) n new.notes) =
      subst (λ (xs : Log). IsKept shape told callers spares xs (set (notes_of desks) n new.notes)) (sym past)
      (subst (IsKept shape told callers spares s.history) moved more) in
      let writes : wrote.notes ≡ v.notes ++ x ∷ [] =
      ap (λ (h : HandNotes). h.notes) is_wrote ∙ ap (λ (ns : Log). ns ++ note point room what ∷ []) notes ∙ ap (λ (y : List ℕ). v.notes ++ y ∷ []) is_x in
      let same_hand : wrote.hand ≡ own.hand = ap (λ (h : HandNotes). h.hand) is_wrote in
      let fronts : front ≡ s.history = ap (λ (p : PassState). p.front) is_v in
      let sequencer : IsSequencer shape told callers spares log history later (set desks n new) left =
      with_desk shape told callers spares log history history journal later desks taken left n d new is here at (ap (λ (y : DeskState). y.hand) is_new)
      (lines ∙ is.lines) kept (omega (arith, taking, ap (λ (y : DeskState). y.room) is_new)) fits_lines places in (
        sequencer,
        pass_next callers spares flog flog caller calls next front front own wrote spare ps ps.on_history same_hand (prefix_self front) rises
            (subst (λ (xs : Log). IsPrefix xs (items_by own.hand front)) (ap entries_noted notes ∙ sym same ∙ ap entries_noted (sym writes)) ps.noted)
            (omega (arith, numbered, ap (λ (ns : Log). (facts_of ns).calls) writes)),
        event shape told callers spares s (seen history (set desks n new)) v (pass_seen spares caller next front wrote spare) [] (x ∷ []) met within sequencer.kept
            (past ∙ sym (append-nil s.history))
            (map-set (λ (y : DeskState). y.notes) desks n new ∙ sym moved ∙ ap (λ (ns : Log). set s.notes v.hand (ns ++ x ∷ [])) met.notes ∙ ap (set s.notes v.hand) (sym writes))
            (ap (λ (p : PassState). p.caller) is_v) (same_hand ∙ hand) (ap (λ (p : PassState). p.places) is_v) (ap (λ (p : PassState). p.spare) is_v) (fronts ∙ sym past) writes
            (omega (arith, ps.in_range, hand)),
      )

  -- one more entry
  pub entered : (s : SequencerState) (v : PassState) (log flog taken : ℕ) (history after longer : Log) (journal later : Held) (desks : List DeskState) (caller calls : ℕ) (front : Log)
      (own wrote : HandNotes) (spare : List HandNotes) (n left : ℕ) (d new : DeskState) (point room hand new_log new_flog : ℕ) (e : Entry)
      → IsSequencer shape told callers spares log history journal desks taken → seen history desks ≡ s
      → IsPass callers spares flog (pass_seen spares caller calls front own spare) → pass_seen spares caller calls front own spare ≡ v → Agrees s v
      → n ≡ own.hand → d ≡ get_or desks n d → new ≡ record { hand = d.hand; notes = d.notes ++ note point room (entering_of hand e) ∷ []; room = room }
      → wrote ≡ with_note own (note point room (entering_of hand e)) → point ≡ length history → hand ≡ own.hand
      → after ≡ history ++ item hand e ∷ [] → longer ≡ after → new_log ≡ log → new_flog ≡ log
      → later.lines ≡ journal.lines ++ e.line ∷ [] → left + d.room ≡ taken + room → left ≤ later.spare → length after + left < 2 ^ 32 - 1
      → IsOwn v.caller v.notes e → MayFollow shape told (history_of s.history) e → HasBytes e
      → IsSequencer shape told callers spares new_log after later (set desks n new) left
      × IsPass callers spares new_flog (pass_seen spares caller calls longer wrote spare)
      × Event shape told s v (e ∷ []) (note (length s.history) room (entering_of v.hand e) ∷ []) (seen after (set desks n new)) (pass_seen spares caller calls longer wrote spare)
  entered s v log flog taken history after longer journal later desks caller calls front own wrote spare n left d new point room hand new_log new_flog e is is_s ps is_v met at_n at is_new is_wrote
      is_point is_hand grows whole same_log on lines taking fits_lines places mine follows bytes =
      let own_is : own.hand ≡ v.hand = ap (λ (p : PassState). p.hand) is_v in
      let notes : own.notes ≡ v.notes = ap (λ (p : PassState). p.notes) is_v in
      let past : history ≡ s.history = ap (λ (t : SequencerState). t.history) is_s in
      let heard : notes_of desks ≡ s.notes = ap (λ (t : SequencerState). t.notes) is_s in
      let index : n ≡ v.hand = at_n ∙ own_is in
      let hands : hand ≡ v.hand = is_hand ∙ own_is in
      let x : List ℕ = note (length s.history) room (entering_of v.hand e) in
      let is_x : note point room (entering_of hand e) ≡ x =
      ap (λ (k : ℕ). note k room (entering_of hand e)) (is_point ∙ ap (λ (xs : Log). length xs) past) ∙ ap (λ (h : ℕ). note (length s.history) room (entering_of h e)) hands in
      let here : n < length desks = has_desk shape told callers spares log history journal desks taken n is (omega (arith, at_n, ps.in_range)) in
      let within : v.hand < length s.notes = omega (arith, here, index, length-map desks (λ (y : DeskState). y.notes), ap (λ (ns : List Log). length ns) heard) in
      let was : d.notes ≡ v.notes =
      sym (desk_notes desks n d here at) ∙ ap (λ (ns : List Log). notes_at ns n) heard ∙ ap (notes_at s.notes) index ∙ met.notes in
      let now : new.notes ≡ v.notes ++ x ∷ [] =
      ap (λ (y : DeskState). y.notes) is_new ∙ ap (λ (ns : Log). ns ++ note point room (entering_of hand e) ∷ []) was ∙ ap (λ (y : List ℕ). v.notes ++ y ∷ []) is_x in
      let before : IsKept shape told callers spares s.history s.notes = subst (λ (t : SequencerState). IsKept shape told callers spares t.history t.notes) is_s is.kept in
      let callers_are : e.line.caller ≡ caller = mine.by ∙ sym (ap (λ (p : PassState). p.caller) is_v) in
      let of_caller : IsHandOf spares e.line.caller v.hand =
      subst (λ (k : ℕ). IsHandOf spares k v.hand) (sym callers_are) (record { from = omega (arith, ps.own, own_is); within = omega (arith, ps.own, own_is) }) in
      let more : IsKept shape told callers spares (s.history ++ item v.hand e ∷ []) (set s.notes v.hand (notes_at s.notes v.hand ++ x ∷ [])) =
      kept_by_entry shape told callers spares s.history s.notes v.hand room e before within (omega (arith, callers_are, ps.session)) of_caller follows bytes
      (ap (λ (ns : Log). (facts_of ns).call) met.notes ∙ mine.of_call) in
      let moved : set s.notes v.hand (notes_at s.notes v.hand ++ x ∷ []) ≡ set (notes_of desks) n new.notes =
      ap (λ (ns : Log). set s.notes v.hand (ns ++ x ∷ [])) met.notes ∙ ap (set s.notes v.hand) (sym now)
      ∙ ap (λ (k : ℕ). set s.notes k new.notes) (sym index) ∙ ap (λ (ns : List Log). set ns n new.notes) (sym heard) in
      let grown : after ≡ s.history ++ item v.hand e ∷ [] =
      grows ∙ ap (λ (xs : Log). xs ++ item hand e ∷ []) past ∙ ap (λ (h : ℕ). s.history ++ item h e ∷ []) hands in
      let kept : IsKept shape told callers spares after (set (notes_of desks) n new.notes) =
      subst (λ (xs : Log). IsKept shape told callers spares xs (set (notes_of desks) n new.notes)) (sym grown)
      (subst (IsKept shape told callers spares (s.history ++ item v.hand e ∷ [])) moved more) in
      let writes : wrote.notes ≡ v.notes ++ x ∷ [] =
      ap (λ (h : HandNotes). h.notes) is_wrote ∙ ap (λ (ns : Log). ns ++ note point room (entering_of hand e) ∷ []) notes ∙ ap (λ (y : List ℕ). v.notes ++ y ∷ []) is_x in
      let same_hand : wrote.hand ≡ own.hand = ap (λ (h : HandNotes). h.hand) is_wrote in
      let facts = facts-entered v.notes (length s.history) room v.hand e in
      let printed : later.lines ≡ lines_of after =
      lines ∙ ap (λ (ls : List Line). ls ++ e.line ∷ []) (is.lines ∙ ap lines_of past)
      ∙ sym (ap lines_of grown ∙ ap (λ (h : List Entry). map (λ (y : Entry). y.line) h) (history_of-more s.history v.hand e)
      ∙ map-append (λ (y : Entry). y.line) (history_of s.history) (e ∷ [])) in
      let sequencer : IsSequencer shape told callers spares log after later (set desks n new) left =
      with_desk shape told callers spares log history after journal later desks taken left n d new is here at (ap (λ (y : DeskState). y.hand) is_new)
      printed kept (omega (arith, taking, ap (λ (y : DeskState). y.room) is_new)) fits_lines places in
      let ev : Event shape told s v (e ∷ []) (x ∷ []) (seen after (set desks n new)) (pass_seen spares caller calls longer wrote spare) =
      event shape told callers spares s (seen after (set desks n new)) v (pass_seen spares caller calls longer wrote spare) (e ∷ []) (x ∷ []) met within sequencer.kept
      grown
      (map-set (λ (y : DeskState). y.notes) desks n new ∙ sym moved ∙ ap (λ (ns : Log). set s.notes v.hand (ns ++ x ∷ [])) met.notes ∙ ap (set s.notes v.hand) (sym writes))
      (ap (λ (p : PassState). p.caller) is_v) (same_hand ∙ own_is) (ap (λ (p : PassState). p.places) is_v) (ap (λ (p : PassState). p.spare) is_v) whole writes
      (omega (arith, ps.in_range, own_is)) in
      let extends : IsPrefix front longer =
      subst (λ (xs : Log). IsPrefix xs longer) (sym (ap (λ (p : PassState). p.front) is_v)) ev.steps.extends in
      let settled : items_by own.hand longer ≡ entries_noted wrote.notes =
      ap (λ (h : ℕ). items_by h longer) own_is ∙ ev.steps.settled in (
        subst (λ (k : ℕ). IsSequencer shape told callers spares k after later (set desks n new) left) (sym same_log) sequencer,
        pass_next callers spares flog new_flog caller calls calls front longer own wrote spare ps (on ∙ is.on_history) same_hand extends (omega arith)
            (subst (IsPrefix (entries_noted wrote.notes)) (sym settled) (prefix_self (entries_noted wrote.notes)))
            (omega (arith, ps.numbered, ap (λ (ns : Log). (facts_of ns).calls) writes, ap (λ (f : HandFacts). f.calls) facts, ap (λ (ns : Log). (facts_of ns).calls) notes)),
        ev,
      )

  -- what a desk heard is what the pass noted
  pub desk_is : (s : SequencerState) (v : PassState) (log taken : ℕ) (history : Log) (journal : Held) (desks : List DeskState) (n : ℕ) (d : DeskState)
      → IsSequencer shape told callers spares log history journal desks taken → seen history desks ≡ s → n ≡ v.hand → v.hand < hands_of callers spares → Agrees s v
      → d ≡ get_or desks n d → d.notes ≡ v.notes
  desk_is s v log taken history journal desks n d is is_s index in_range met at =
      let here : n < length desks = has_desk shape told callers spares log history journal desks taken n is (omega (arith, index, in_range)) in
      sym (desk_notes desks n d here at) ∙ ap (λ (ns : List Log). notes_at ns n) (ap (λ (t : SequencerState). t.notes) is_s) ∙ ap (notes_at s.notes) index ∙ met.notes

  -- a note in one place of the room
  pub noted_one : (s : SequencerState) (v : PassState) (log flog taken : ℕ) (history : Log) (journal : Held) (desks : List DeskState) (caller calls : ℕ) (front : Log)
      (own wrote : HandNotes) (spare : List HandNotes) (n : ℕ) (d new : DeskState) (point room : ℕ) (what : List ℕ)
      → IsSequencer shape told callers spares log history journal desks taken → seen history desks ≡ s
      → IsPass callers spares flog (pass_seen spares caller calls front own spare) → pass_seen spares caller calls front own spare ≡ record v { front = s.history } → Agrees s v
      → n ≡ own.hand → d ≡ get_or desks n d → new ≡ record { hand = d.hand; notes = d.notes ++ note point room what ∷ []; room = room }
      → wrote ≡ with_note own (note point room what) → point ≡ length history
      → d.room ≡ room_noted d.notes → room ≡ d.room - 1 → 1 ≤ room_noted v.notes → 3 ≤ slice_index what 0
      → IsSequencer shape told callers spares log history journal (set desks n new) (taken - 1)
      × IsPass callers spares flog (pass_seen spares caller calls front wrote spare)
      × Event shape told s v [] (note (length s.history) (room_noted v.notes - 1) what ∷ []) (seen history (set desks n new)) (pass_seen spares caller calls front wrote spare)
  noted_one s v log flog taken history journal desks caller calls front own wrote spare n d new point room what is is_s ps is_v met at_n at is_new is_wrote is_point counted less some kind =
      let hand : own.hand ≡ v.hand = ap (λ (p : PassState). p.hand) is_v in
      let in_range : v.hand < hands_of callers spares = omega (arith, ps.in_range, hand) in
      let heard : d.notes ≡ v.notes = desk_is s v log taken history journal desks n d is is_s (at_n ∙ hand) in_range met at in
      let rooms : d.room ≡ room_noted v.notes = counted ∙ ap room_noted heard in
      let here : n < length desks = has_desk shape told callers spares log history journal desks taken n is (omega (arith, at_n, ps.in_range)) in
      let most : d.room ≤ taken = room_within desks n taken d history journal.spare is.room here at in
      let facts = facts-other v.notes (length s.history) room what kind in
      let is_room : room ≡ room_noted v.notes - 1 = less ∙ ap (λ (k : ℕ). k - 1) rooms in
      let done =
      noted s v log flog taken history journal journal desks caller calls calls front own wrote spare n (taken - 1) d new point room what is is_s ps is_v met at_n at is_new is_wrote is_point
      refl (omega (arith, less, rooms, some, most)) (omega (arith, is.room.spare)) (omega (arith, is.room.places))
      (fits_other v.hand s.history v.notes room what met.entered kind) (ap (λ (f : HandFacts). f.entries) facts)
      (omega (arith, ps.numbered, ap (λ (f : HandFacts). f.calls) facts, ap (λ (p : PassState). (facts_of p.notes).calls) is_v)) (omega arith) in (
        done.0,
        done.1,
        subst (λ (k : ℕ). Event shape told s v [] (note (length s.history) k what ∷ []) (seen history (set desks n new)) (pass_seen spares caller calls front wrote spare)) is_room done.2,
      )

  -- a note that makes the room full
  pub noted_full : (s : SequencerState) (v : PassState) (log flog taken : ℕ) (history : Log) (journal later : Held) (desks : List DeskState) (caller calls next : ℕ) (front : Log)
      (own wrote : HandNotes) (spare : List HandNotes) (n left : ℕ) (d new : DeskState) (point : ℕ) (what : List ℕ)
      → IsSequencer shape told callers spares log history journal desks taken → seen history desks ≡ s
      → IsPass callers spares flog (pass_seen spares caller calls front own spare) → pass_seen spares caller calls front own spare ≡ record v { front = s.history } → Agrees s v
      → n ≡ own.hand → d ≡ get_or desks n d → new ≡ record { hand = d.hand; notes = d.notes ++ note point ROOM what ∷ []; room = ROOM }
      → wrote ≡ with_note own (note point ROOM what) → point ≡ length history
      → later.lines ≡ journal.lines → left + d.room ≡ taken + ROOM → left ≤ later.spare → point + left < 2 ^ 32 - 1
      → FitsNote v.hand s.history v.notes (note (length s.history) ROOM what)
      → entries_noted (v.notes ++ note (length s.history) ROOM what ∷ []) ≡ entries_noted v.notes
      → (facts_of (v.notes ++ note (length s.history) ROOM what ∷ [])).calls ≤ next → calls ≤ next
      → IsSequencer shape told callers spares log history later (set desks n new) left
      × IsPass callers spares flog (pass_seen spares caller next front wrote spare)
      × Event shape told s v [] (note (length s.history) ROOM what ∷ []) (seen history (set desks n new)) (pass_seen spares caller next front wrote spare)
  noted_full s v log flog taken history journal later desks caller calls next front own wrote spare n left d new point what is is_s ps is_v met at_n at is_new is_wrote is_point lines taking
      fits_lines places fits same numbered rises =
      noted s v log flog taken history journal later desks caller calls next front own wrote spare n left d new point ROOM what is is_s ps is_v met at_n at is_new is_wrote is_point
      lines taking fits_lines (omega (arith, places, is_point)) fits same numbered rises

  -- the note that the next call began
  pub begun : (s : SequencerState) (v : PassState) (log flog taken : ℕ) (history : Log) (journal later : Held) (desks : List DeskState) (caller calls next : ℕ) (front : Log)
      (own wrote : HandNotes) (spare : List HandNotes) (n left : ℕ) (d new : DeskState) (point number : ℕ) (asked : Deed)
      → IsSequencer shape told callers spares log history journal desks taken → seen history desks ≡ s
      → IsPass callers spares flog (pass_seen spares caller calls front own spare) → pass_seen spares caller calls front own spare ≡ record v { front = s.history } → Agrees s v
      → n ≡ own.hand → d ≡ get_or desks n d → number ≡ calls
      → new ≡ record { hand = d.hand; notes = d.notes ++ note point ROOM (beginning_of (call_with number asked)) ∷ []; room = ROOM }
      → wrote ≡ with_note own (note point ROOM (beginning_of (call_with number asked))) → point ≡ length history
      → later.lines ≡ journal.lines → left + d.room ≡ taken + ROOM → left ≤ later.spare → point + left < 2 ^ 32 - 1 → next ≡ number + 1
      → IsSequencer shape told callers spares log history later (set desks n new) left
      × IsPass callers spares flog (pass_seen spares caller next front wrote spare)
      × Event shape told s v [] (note (length s.history) ROOM (beginning_of (call_with v.calls asked)) ∷ []) (seen history (set desks n new)) (pass_seen spares caller next front wrote spare)
  begun s v log flog taken history journal later desks caller calls next front own wrote spare n left d new point number asked is is_s ps is_v met at_n at is_number is_new is_wrote is_point
      lines taking fits_lines places is_next =
      let now : number ≡ v.calls = is_number ∙ ap (λ (p : PassState). p.calls) is_v in
      let c : Call = call_with number asked in
      let facts = facts-began v.notes (length s.history) ROOM c in
      let rises : (facts_of v.notes).calls ≤ number = omega (arith, ps.numbered, ap (λ (p : PassState). (facts_of p.notes).calls) is_v, is_number) in
      let done =
      noted_full s v log flog taken history journal later desks caller calls next front own wrote spare n left d new point (beginning_of c) is is_s ps is_v met at_n at is_new is_wrote is_point
      lines taking fits_lines places
      (fits_began v.hand s.history v.notes ROOM c met.entered rises) (ap (λ (f : HandFacts). f.entries) facts)
      (omega (arith, ap (λ (f : HandFacts). f.calls) facts, is_next)) (omega (arith, is_number, is_next)) in (
        done.0,
        done.1,
        subst (λ (k : ℕ). Event shape told s v [] (note (length s.history) ROOM (beginning_of (call_with k asked)) ∷ []) (seen history (set desks n new)) (pass_seen spares caller next front wrote spare)) now done.2,
      )

  -- an entry in one place of the room
  pub entered_one : (s : SequencerState) (v : PassState) (log flog taken : ℕ) (history after longer : Log) (journal later : Held) (desks : List DeskState) (caller calls : ℕ) (front : Log)
      (own wrote : HandNotes) (spare : List HandNotes) (n : ℕ) (d new : DeskState) (point room hand new_log new_flog : ℕ) (e : Entry)
      → IsSequencer shape told callers spares log history journal desks taken → seen history desks ≡ s
      → IsPass callers spares flog (pass_seen spares caller calls front own spare) → pass_seen spares caller calls front own spare ≡ v → Agrees s v
      → n ≡ own.hand → d ≡ get_or desks n d → new ≡ record { hand = d.hand; notes = d.notes ++ note point room (entering_of hand e) ∷ []; room = room }
      → wrote ≡ with_note own (note point room (entering_of hand e)) → point ≡ length history → hand ≡ own.hand
      → after ≡ history ++ item hand e ∷ [] → longer ≡ after → new_log ≡ log → new_flog ≡ log
      → later.lines ≡ journal.lines ++ e.line ∷ [] → later.spare + 1 ≡ journal.spare
      → d.room ≡ room_noted d.notes → room ≡ d.room - 1 → 1 ≤ room_noted v.notes
      → IsOwn v.caller v.notes e → MayFollow shape told (history_of s.history) e → HasBytes e
      → IsSequencer shape told callers spares new_log after later (set desks n new) (taken - 1)
      × IsPass callers spares new_flog (pass_seen spares caller calls longer wrote spare)
      × Event shape told s v (e ∷ []) (note (length s.history) (room_noted v.notes - 1) (entering_of v.hand e) ∷ []) (seen after (set desks n new)) (pass_seen spares caller calls longer wrote spare)
  entered_one s v log flog taken history after longer journal later desks caller calls front own wrote spare n d new point room hand new_log new_flog e is is_s ps is_v met at_n at is_new is_wrote
      is_point is_hand grows whole same_log on lines took counted less some mine follows bytes =
      let own_is : own.hand ≡ v.hand = ap (λ (p : PassState). p.hand) is_v in
      let in_range : v.hand < hands_of callers spares = omega (arith, ps.in_range, own_is) in
      let heard : d.notes ≡ v.notes = desk_is s v log taken history journal desks n d is is_s (at_n ∙ own_is) in_range met at in
      let rooms : d.room ≡ room_noted v.notes = counted ∙ ap room_noted heard in
      let here : n < length desks = has_desk shape told callers spares log history journal desks taken n is (omega (arith, at_n, ps.in_range)) in
      let most : d.room ≤ taken = room_within desks n taken d history journal.spare is.room here at in
      let is_room : room ≡ room_noted v.notes - 1 = less ∙ ap (λ (k : ℕ). k - 1) rooms in
      let longer_by : length after ≡ length history + 1 = ap (λ (xs : Log). length xs) grows ∙ length_push history (item hand e) in
      let done =
      entered s v log flog taken history after longer journal later desks caller calls front own wrote spare n (taken - 1) d new point room hand new_log new_flog e is is_s ps is_v met at_n at is_new is_wrote
      is_point is_hand grows whole same_log on lines (omega (arith, less, rooms, some, most)) (omega (arith, took, is.room.spare, rooms, some, most))
      (omega (arith, is.room.places, longer_by, rooms, some, most)) mine follows bytes in (
        done.0,
        done.1,
        subst (λ (k : ℕ). Event shape told s v (e ∷ []) (note (length s.history) k (entering_of v.hand e) ∷ []) (seen after (set desks n new)) (pass_seen spares caller calls longer wrote spare)) is_room done.2,
      )
