-- What one more note makes of the facts of a hand.
use Rattle.std.proofs.Common.{◌≡◌, ℕ, ◌+◌, ◌==◌, ◌≤◌, Bool, cond, true, false, List, [], ◌∷◌, ◌++◌, Option, Some, None, refl, ◌∙◌, ap, arith}
use Rattle.std.specs.Prelude.{flat_map, slice_index}
use Rattle.std.proofs.lemmas.Bool.Decides.{nat_tests}
use Rattle.std.proofs.lemmas.List.Sums.{fold_push}
use Rattle.ecp_book.specs.Logs.{Log}
use Rattle.ecp_entry.specs.declared.deed.Deed.{Deed}
use Rattle.ecp_entry.specs.declared.entry.Entry.{Entry}
use Rattle.ecp_entry.specs.Entries.{deed_word, deed_name, deed_numbers}
use Rattle.ecp_entry.specs.Items.{item, sized}
use Rattle.ecp_entry.specs.ReadBack.{deed_from, unsized, at}
use Rattle.ecp_entry.specs.Told.{Made}
use Rattle.ecp_entry.proofs.EntryLaws.{deed_from-words}
use Rattle.ecp_entry.proofs.ItemLaws.{unsized-flat_map, made_from-item}
use Rattle.ecp_sequencer.specs.Notes.{Call, note, says_of, beginning_of, being_over, entering_of, call_from}
use Rattle.ecp_sequencer.specs.Facts.{HandFacts, no_facts, after_note, after_began, after_entered, after_over, after_other, is_end, facts_of, room_noted}

-- a note that a call began gives back the call
pub call_from-beginning : (c : Call) (point room : ℕ) → call_from (says_of (note point room (beginning_of c))) ≡ c
unfolding call_from
call_from-beginning c point room =
    let parts : List (List ℕ) = deed_word c.deed ∷ deed_name c.deed ∷ deed_numbers c.deed ∷ [] in
    let fields : unsized 3 (flat_map sized parts) ≡ parts = unsized-flat_map parts in
    let made : Option Deed → Call = λ d. record { number = c.number; deed = d } in
    ap (λ (fs : List (List ℕ)). made (deed_from (at fs 0) (at fs 1) (at fs 2))) fields ∙ ap made (deed_from-words c.deed)

pub facts_of-none : facts_of [] ≡ no_facts
unfolding facts_of
facts_of-none = refl

pub facts_of-more : (notes : Log) (x : List ℕ) → facts_of (notes ++ x ∷ []) ≡ after_note (facts_of notes) x
unfolding facts_of
facts_of-more notes x = fold_push after_note no_facts notes x

-- the facts once this call began
abbrev pub with_call : HandFacts → Call → ℕ → HandFacts
with_call f c room = record { calls = c.number + 1; call = Some c; entries = f.entries; since = []; room = room }

pub facts-began : (notes : Log) (point room : ℕ) (c : Call) → facts_of (notes ++ note point room (beginning_of c) ∷ []) ≡ with_call (facts_of notes) c room
facts-began notes point room c =
    facts_of-more notes (note point room (beginning_of c)) ∙ ap (λ (d : Call). with_call (facts_of notes) d room) (call_from-beginning c point room)

-- the facts once this entry was made
abbrev pub with_entry : HandFacts → ℕ → ℕ → Entry → ℕ → HandFacts
with_entry f hand point e room = record {
  calls = f.calls;
  call = cond (is_end e.line.part) None f.call;
  entries = f.entries ++ item hand e ∷ [];
  since = f.since ++ note point room (entering_of hand e) ∷ [];
  room = room;
}

pub facts-entered : (notes : Log) (point room hand : ℕ) (e : Entry) → facts_of (notes ++ note point room (entering_of hand e) ∷ []) ≡ with_entry (facts_of notes) hand point e room
facts-entered notes point room hand e =
    let f : HandFacts = facts_of notes in
    facts_of-more notes (note point room (entering_of hand e))
    ∙ ap (λ (m : Made). record {
      calls = f.calls;
      call = cond (is_end m.entry.line.part) None f.call;
      entries = f.entries ++ item hand e ∷ [];
      since = f.since ++ note point room (entering_of hand e) ∷ [];
      room = room;
    }) (made_from-item hand e)

-- the facts once the caller ended the call
pub facts-over : (notes : Log) (point room : ℕ) → facts_of (notes ++ note point room being_over ∷ []) ≡ after_over (facts_of notes) (note point room being_over)
facts-over notes point room = facts_of-more notes (note point room being_over)

-- the kind of a note of the layer above is none of the others
other_kind : {X : Type 0} (k : ℕ) (a b c d : X) → 3 ≤ k → cond (k == 0) a (cond (k == 1) b (cond (k == 2) c d)) ≡ d
other_kind k a b c d le =
    let first : k == 0 ≡ false = grind (arith, nat_tests) in
    let second : k == 1 ≡ false = grind (arith, nat_tests) in
    let third : k == 2 ≡ false = grind (arith, nat_tests) in
    rw (first, second, third) refl

pub facts-other : (notes : Log) (point room : ℕ) (what : List ℕ) → 3 ≤ slice_index what 0
    → facts_of (notes ++ note point room what ∷ []) ≡ after_other (facts_of notes) (note point room what)
facts-other notes point room what le = facts_of-more notes (note point room what) ∙ other_kind (slice_index what 0) _ _ _ _ le

-- whatever a note says, the hand's room is the one in it
room_after : (k room : ℕ) (a b c d : HandFacts) → a.room ≡ room → b.room ≡ room → c.room ≡ room → d.room ≡ room
    → (cond (k == 0) a (cond (k == 1) b (cond (k == 2) c d))).room ≡ room
room_after k room a b c d is_a is_b is_c is_d = either (k == 0) (k == 1) (k == 2) where
  either : (p q r : Bool) → (cond p a (cond q b (cond r c d))).room ≡ room
  either true q r = is_a
  either false true r = is_b
  either false false true = is_c
  either false false false = is_d

pub room-more : (notes : Log) (point room : ℕ) (what : List ℕ) → room_noted (notes ++ note point room what ∷ []) ≡ room
room-more notes point room what =
    let f : HandFacts = facts_of notes in
    let x : List ℕ = note point room what in
    ap (λ (y : HandFacts). y.room) (facts_of-more notes x) ∙ room_after (slice_index what 0) room (after_began f x) (after_entered f x) (after_over f x) (after_other f x) refl refl refl refl
