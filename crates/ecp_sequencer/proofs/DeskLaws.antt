-- The desks of a sequencer, of which one changes.
use Rattle.std.proofs.Common.{◌≡◌, ◌≢◌, ℕ, ◌+◌, ◌-◌, ◌^◌, ◌<◌, ◌≤◌, Bool, List, [], length, set, get_or, sym, ◌∙◌, ap, subst, arith, get_or-set_same, get_or-set_other}
use mathlib.Core.Logic.{dite}
use native.Mathlib.Decide.{ℕ_discrete}
use Rattle.std.proofs.lemmas.List.{length-map, length-set, map-set, get_or-map}
use Rattle.std.proofs.lemmas.List.Sums.{sum_by-set, get_or-le-sum_by}
use Rattle.ecp_shape.specs.declared.shape.Shape.{Shape}
use Rattle.ecp_book.specs.Logs.{Log}
use Rattle.ecp_history.specs.Journals.{Held}
use Rattle.ecp_sequencer.specs.Hands.{hands_of}
use Rattle.ecp_sequencer.specs.Histories.{IsKept, notes_at, lines_of}
use Rattle.ecp_sequencer.specs.Sequencers.{DeskState, HasRoom, IsSequencer, notes_of}

-- what a desk heard is what is known of its hand
pub desk_notes : (desks : List DeskState) (hand : ℕ) (d : DeskState) → hand < length desks → d ≡ get_or desks hand d → notes_at (notes_of desks) hand ≡ d.notes
desk_notes desks hand d within is = get_or-map (λ (x : DeskState). x.notes) desks hand d [] within ∙ ap (λ (x : DeskState). x.notes) (sym is)

-- no hand has more room than is taken
pub room_within : (desks : List DeskState) (hand taken : ℕ) (d : DeskState) (history : Log) (lines : ℕ) → HasRoom history lines desks taken → hand < length desks
    → d ≡ get_or desks hand d → d.room ≤ taken
room_within desks hand taken d history lines room within is =
    let most = get_or-le-sum_by (λ (x : DeskState). x.room) desks hand d within in
    omega (arith, most, room.counted, ap (λ (x : DeskState). x.room) is)

module _ (shape : Shape) (told : Bool) (callers spares : ℕ) where
  -- there is a desk for each hand
  pub has_desk : (log : ℕ) (history : Log) (journal : Held) (desks : List DeskState) (taken hand : ℕ) → IsSequencer shape told callers spares log history journal desks taken
      → hand < hands_of callers spares → hand < length desks
  has_desk log history journal desks taken hand is within = omega (arith, is.kept.hands, length-map desks (λ (x : DeskState). x.notes), within)

  -- one desk changes, and the history and the room with it
  pub with_desk : (log : ℕ) (history after : Log) (journal later : Held) (desks : List DeskState) (taken left hand : ℕ) (d new : DeskState)
      → IsSequencer shape told callers spares log history journal desks taken → hand < length desks → d ≡ get_or desks hand d → new.hand ≡ d.hand
      → later.lines ≡ lines_of after → IsKept shape told callers spares after (set (notes_of desks) hand new.notes)
      → left + d.room ≡ taken + new.room → left ≤ later.spare → length after + left < 2 ^ 32 - 1
      → IsSequencer shape told callers spares log after later (set desks hand new) left
  with_desk log history after journal later desks taken left hand d new is within at same lines kept room spare places = record {
    on_history = is.on_history;
    lines = lines;
    numbered = λ k x below. dite (ℕ_discrete k hand)
        (λ (e : k ≡ hand).
        subst (λ (j : ℕ). (get_or (set desks hand new) j x).hand ≡ j) (sym e)
        (ap (λ (y : DeskState). y.hand) (get_or-set_same desks hand new x within) ∙ same ∙ ap (λ (y : DeskState). y.hand) at ∙ is.numbered hand d within))
        (λ (off : k ≢ hand).
        ap (λ (y : DeskState). y.hand) (get_or-set_other desks hand k new x off) ∙ is.numbered k x (omega (arith, below, length-set desks hand new)));
    kept = subst (IsKept shape told callers spares after) (sym (map-set (λ (x : DeskState). x.notes) desks hand new)) kept;
    room = record {
      counted = omega (arith, room, is.room.counted, sum_by-set (λ (x : DeskState). x.room) desks hand new d within, ap (λ (x : DeskState). x.room) at);
      spare = spare;
      places = places;
    };
  }
