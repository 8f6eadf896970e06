-- What is found by opening a file, and the entry that says it.
use Rattle.std.proofs.Common.{◌≡◌, ◌≢◌, ℕ, ◌-◌, ◌<◌, ◌≤◌, Bool, false, List, [], ◌∷◌, ◌++◌, length, Option, Some, None, refl, sym, ◌∙◌, ap, subst, arith, inl, inr}
use Rattle.std.specs.Prelude.{IsSomeAnd}
use Rattle.std.specs.Option.{option_map_or}
use Rattle.ecp_shape.specs.declared.shape.Shape.{Shape}
use Rattle.ecp_book.specs.Logs.{Log}
use Rattle.ecp_entry.specs.declared.act.Act.{Act}
use Rattle.ecp_entry.specs.declared.act.Act.TheVariants as act
use Rattle.ecp_entry.specs.declared.deed.Deed.{Deed}
use Rattle.ecp_entry.specs.declared.deed.Deed.TheVariants.{Cat}
use Rattle.ecp_entry.specs.declared.entry.Entry.{Entry}
use Rattle.ecp_entry.specs.declared.part.Part.TheVariants as part
use Rattle.ecp_entry.specs.Entries.{deed_name}
use Rattle.ecp_entry.specs.ReadBack.{entry_with, line_with}
use Rattle.ecp_entry.specs.Told.{history_of}
use Rattle.ecp_history.specs.declared.table.file.File.{File}
use Rattle.ecp_history.specs.Acts as acts
use Rattle.ecp_history.specs.Follows.{is_same_caller}
use Rattle.ecp_history.specs.Legal.{MayFollow}
use Rattle.ecp_history.specs.Parts.{IsAlone}
use Rattle.ecp_history.specs.table.Steps.{table_of}
use Rattle.ecp_history.specs.table.Tables.{PlainTable, block_count, file_of}
use Rattle.ecp_catalog.specs.Outline.{changes}
use Rattle.ecp_catalog.proofs.OutlineLaws.{unchanged}
use Rattle.ecp_sequencer.specs.Facts.{HandFacts, facts_of, room_noted}
use Rattle.ecp_sequencer.specs.Hands.{hands_of}
use Rattle.ecp_sequencer.specs.Notes.{note, entering_of}
use Rattle.ecp_sequencer.specs.Passes.{IsWhole, PassState}
use Rattle.ecp_sequencer.specs.Sequencers.{SequencerState}
use Rattle.ecp_sequencer.specs.Steps.{call_with}
use Rattle.ecp_sequencer.proofs.NoteLaws.{facts-entered, with_entry}
use Rattle.ecp_coord.specs.declared.opened.Opened.{Opened}
use Rattle.ecp_coord.specs.declared.opened.Opened.TheVariants as found
use Rattle.ecp_coord.specs.Calls.{Enters, IsFresh, IsOpen, ended, part_of}
use Rattle.ecp_coord.specs.Coords.{CoordParts, HasRoom, IsCoord, asks_loss}
use Rattle.ecp_coord.specs.Numbers.{open_numbers}
use Rattle.ecp_coord.specs.Opening.{Opens, found_by_opening, opened_of, opening}
use Rattle.ecp_coord.proofs.BookLaws.{serves_same}
use Rattle.ecp_coord.proofs.CallLaws.{ended_kept}
use Rattle.ecp_coord.proofs.CoverLaws.{covered_free, open_fresh}
use Rattle.ecp_coord.proofs.EndLaws.{after_last_within, may_end}
use Rattle.ecp_coord.proofs.FollowLaws.{IsMet}
use Rattle.ecp_coord.proofs.KeepLaws.{IsPlain, entered_kept}
use Rattle.ecp_coord.proofs.LoseLaws.{length_told}
use Rattle.ecp_coord.proofs.RoomLaws.{asks_open, room_kept}
use Rattle.ecp_coord.proofs.SeekLaws.{fresh_alone}

-- ---- what is found, as the catalog says it

pub opened_found : (shape : Shape) (t : PlainTable) (name : List ℕ) (f : File) (count : ℕ) → file_of t name ≡ Some f → count ≡ block_count shape f
    → found.Opened f.len count f.first ≡ found_by_opening shape t name
opened_found shape t name f count at counted =
    ap (λ (n : ℕ). found.Opened f.len n f.first) counted ∙ ap (λ (o : Option File). option_map_or (opened_of shape) o found.NoSuchFile) (sym at)

pub none_opened : (shape : Shape) (t : PlainTable) (name : List ℕ) → file_of t name ≡ None → found.NoSuchFile ≡ found_by_opening shape t name
none_opened shape t name at = ap (λ (o : Option File). option_map_or (opened_of shape) o found.NoSuchFile) (sym at)

-- ---- an entry of a part leaves the call open

-- the entry with these fields
abbrev pub part_entry : ℕ → ℕ → ℕ → Deed → ℕ → Act → Entry
part_entry caller calls point asked j what = entry_with (line_with caller (calls - 1) point (part.Part j) what) (Some asked) (deed_name (Some asked)) []

pub part_same : (v : PassState) (asked : Deed) (j position : ℕ) (what : Act) (caller calls point : ℕ) → caller ≡ v.caller → calls ≡ v.calls → point ≡ position
    → part_of v asked j position what ≡ part_entry caller calls point asked j what
part_same v asked j position what caller calls point by number at =
    ap (λ (k : ℕ). part_entry k v.calls position asked j what) (sym by)
    ∙ ap (λ (n : ℕ). part_entry caller n position asked j what) (sym number)
    ∙ ap (λ (n : ℕ). part_entry caller calls n asked j what) (sym at)

module _ (v w : PassState) (asked : Deed) (open_call : IsOpen v asked) (j position : ℕ) (what : Act)
    (noted : w.notes ≡ v.notes ++ note position (room_noted v.notes - 1) (entering_of v.hand (part_of v asked j position what)) ∷ []) where
  facts_is : facts_of w.notes ≡ with_entry (facts_of v.notes) v.hand position (part_of v asked j position what) (room_noted v.notes - 1)
  facts_is = ap (λ (ns : Log). facts_of ns) noted ∙ facts-entered v.notes position (room_noted v.notes - 1) v.hand (part_of v asked j position what)

  part_call : (facts_of w.notes).call ≡ Some (call_with (v.calls - 1) asked)
  part_call = ap (λ (f : HandFacts). f.call) facts_is ∙ open_call.call

  pub part_open : w.calls ≡ v.calls → IsWhole w → 2 ≤ room_noted v.notes → IsOpen w asked
  part_open calls whole some =
      let room : room_noted w.notes ≡ room_noted v.notes - 1 = ap (λ (f : HandFacts). f.room) facts_is in
      record {
        whole = whole;
        begun = subst (λ (n : ℕ). 1 ≤ n) (sym calls) open_call.begun;
        call = part_call ∙ ap (λ (n : ℕ). Some (call_with (n - 1) asked)) (sym calls);
        room = omega (arith, room, some);
      }

module _ (shape : Shape) (told : Bool) (callers spares : ℕ) (s : SequencerState) (v : PassState) (p : CoordParts) (is : IsCoord shape told callers spares s p) (met : IsMet shape told callers spares s v) where
  -- what holds of every coordinator, as a hand enters a part of a call that loses no node and took no number
  pub part_kept : (t : SequencerState) (w : PassState) (asked : Deed) (j : ℕ) (what : Act) → IsOpen v asked → ((m : ℕ) → asks_loss m (Some asked) ≡ false) → changes what ≡ false
      → IsPlain (part_of v asked j (length s.history) what) → open_numbers shape v.notes ≡ 0 → Enters shape told s v asked j what t w → IsCoord shape told callers spares t p
  part_kept t w asked j what open_call loses same plain free enters =
      let e : Entry = part_of v asked j (length s.history) what in
      let call = part_call v w asked open_call j (length s.history) what enters.event.steps.noted in
      let within : v.hand < length s.notes = omega (arith, met.in_range, met.kept.hands) in
      entered_kept shape told callers spares s t v w p p.catalog e (room_noted v.notes - 1) is met enters.event plain (covered_free shape s v e free)
      (unchanged shape told p.catalog (history_of s.history) e is.outline same) (serves_same p.catalog)
      (subst (HasRoom shape.nodes p.catalog) (sym enters.event.notes)
      (room_kept shape.nodes p.catalog s.notes v.hand w.notes is.room within (λ m. ap (asks_open m) call ∙ loses m)))

  -- ---- the whole event

  module _ (name : List ℕ) (fresh : IsFresh v (Cat name)) where
    apart : v.hand ≢ hands_of callers spares
    apart = λ same. omega (arith, same, met.in_range)

    alone : (position : ℕ) (what : Act) → IsAlone (history_of s.history) (ended v (Cat name) position what)
    alone position what = fresh_alone shape told callers spares s v (Cat name) position what met is.idle fresh apart

    -- what is entered may follow
    pub opening_goes : (what : Opened) → what ≡ found_by_opening shape (table_of shape (history_of s.history)) name
        → MayFollow shape told (history_of s.history) (opening v name (length s.history) what)
    opening_goes what found_is =
        subst (λ (n : ℕ). MayFollow shape told before (opening v name n what)) (length_told s.history)
        (subst (λ (o : Opened). MayFollow shape told before (opening v name (length before) o)) (sym found_is) (one (file_of t name) refl))
      where
        before : List Entry
        before = history_of s.history

        t : PlainTable
        t = table_of shape before

        one : (o : Option File) → file_of t name ≡ o → MayFollow shape told before (opening v name (length before) (option_map_or (opened_of shape) o found.NoSuchFile))
        one None none = may_end shape told before v (Cat name) act.NoSuchFile met.session (inr (inl refl), refl) refl (λ yes. alone (length before) act.NoSuchFile) none
        one (Some f) at =
            let what : Act = act.Opened f.len (block_count shape f) f.first in
            let e : Entry = part_of v (Cat name) 0 (length before) what in
            record {
              point = record {
                late = after_last_within (is_same_caller e) before;
                early = omega arith;
                own = λ _. refl;
              };
              agrees = record {
                call = (refl, refl);
                caller = met.session;
                name = refl;
                bytes = refl;
              };
              part = alone (length before) what;
              holds = subst (λ (o : Option File). IsSomeAnd o (λ g. acts.Opens shape g f.len (block_count shape f) f.first)) (sym at) (record { bytes = refl; blocks = refl; stripe = refl });
            }

    pub opening_kept : (t : SequencerState) (w : PassState) (what : Opened) → Opens shape told s v name what t w → IsCoord shape told callers spares t p
    opening_kept t w (found.Opened len count first) enters =
        part_kept t w (Cat name) 0 (act.Opened len count first) fresh.is_open (λ m. refl) refl (record { stores = refl; drops = refl; spends = λ m. refl }) (open_fresh shape v.notes fresh.none) enters
    opening_kept t w found.NoSuchFile ends =
        let e : Entry = ended v (Cat name) (length s.history) act.NoSuchFile in
        ended_kept shape told callers spares s t v w p is met e (room_noted v.notes - 1) refl refl (record { stores = refl; drops = refl; spends = λ m. refl })
        (covered_free shape s v e (open_fresh shape v.notes fresh.none)) ends.event
