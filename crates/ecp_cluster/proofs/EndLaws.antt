-- A call begins, and an event ends it.
use Rattle.std.proofs.Common.{◌≡◌, ℕ, ◌-◌, ◌≤◌, Bool, [], ◌∷◌, ◌++◌, length, Some, refl, sym, ◌∙◌, ap, subst, arith}
use Rattle.std.proofs.lemmas.List.Elements.{All-nil, All-push}
use Rattle.ecp_shape.specs.declared.shape.Shape.{Shape}
use Rattle.ecp_book.specs.Logs.{Log}
use Rattle.ecp_book.proofs.Prefixes.{prefix_length, prefix_trans}
use Rattle.ecp_entry.specs.declared.act.Act.{Act}
use Rattle.ecp_entry.specs.declared.deed.Deed.{Deed}
use Rattle.ecp_entry.specs.declared.entry.Entry.{Entry}
use Rattle.ecp_entry.specs.declared.part.Part.TheVariants as part
use Rattle.ecp_entry.specs.Entries.{deed_name}
use Rattle.ecp_entry.specs.Items.{item}
use Rattle.ecp_entry.specs.ReadBack.{line_with, entry_with}
use Rattle.ecp_sequencer.specs.Facts.{facts_of, room_noted}
use Rattle.ecp_sequencer.specs.Notes.{note, entering_of}
use Rattle.ecp_sequencer.specs.Passes.{PassState}
use Rattle.ecp_sequencer.specs.Rounds.{Raised}
use Rattle.ecp_sequencer.specs.Sequencers.{SequencerState}
use Rattle.ecp_sequencer.specs.Steps.{Steps, IsOfCall, call_with}
use Rattle.ecp_sequencer.proofs.StepLaws.{steps_both, steps_raised, whole_by}
use Rattle.ecp_coord.specs.Calls.{IsOpen, ended}
use Rattle.ecp_cluster.specs.Answered.{Answered, Finishes, HasBegun}
use Rattle.ecp_cluster.proofs.CallLaws.{open_same}

-- the one entry of the next call of a pass, which ends it
abbrev only_entry : PassState → Deed → ℕ → Act → Entry
only_entry v asked point act = entry_with (line_with v.caller v.calls point part.End act) (Some asked) (deed_name (Some asked)) []

-- a call that began, whose pass was raised, and that an event ended, is one call with its one entry
pub answered_by : (shape : Shape) (told : Bool) (v u w : PassState) (asked : Deed) (act : Act) → HasBegun v asked u → Finishes shape told u asked act w
    → Answered shape told v asked act [] w
answered_by shape told v u w asked act began fin =
    let r : PassState = fin.raised in
    let s : SequencerState = fin.before in
    let p : ℕ = length s.history in
    let e : Entry = ended r asked p act in
    let mine : Entry = only_entry v asked p act in
    let calls : r.calls ≡ u.calls = ap (λ (x : PassState). x.calls) fin.rises.same in
    let caller : r.caller ≡ v.caller = ap (λ (x : PassState). x.caller) fin.rises.same ∙ began.steps.caller in
    let number : r.calls - 1 ≡ v.calls = omega (arith, began.calls, calls) in
    let same : e ≡ mine =
    ap (λ (k : ℕ). entry_with (line_with k (r.calls - 1) p part.End act) (Some asked) (deed_name (Some asked)) []) caller
    ∙ ap (λ (n : ℕ). entry_with (line_with v.caller n p part.End act) (Some asked) (deed_name (Some asked)) []) number in
    let noted : Log = note p (room_noted r.notes - 1) (entering_of r.hand e) ∷ [] in
    let up : Steps u (e ∷ []) noted w =
    steps_raised u r w (e ∷ []) noted (ap (λ (x : PassState). x.caller) fin.rises.same) (ap (λ (x : PassState). x.hand) fin.rises.same) (ap (λ (x : PassState). x.places) fin.rises.same)
    (ap (λ (x : PassState). x.spare) fin.rises.same)
    (ap (λ (x : PassState). x.notes) fin.rises.same) fin.rises.longer fin.rises.noted fin.ends.event.steps in
    let hand : r.hand ≡ v.hand = ap (λ (x : PassState). x.hand) fin.rises.same ∙ began.steps.hand in
    let late : length v.front ≤ p =
    omega (arith, prefix_length v.front u.front began.steps.extends, prefix_length u.front r.front fin.rises.longer, prefix_length r.front s.history fin.ends.begins) in
    record {
      entry = mine;
      called = record {
        more = began.more ++ noted;
        steps = subst (λ (x : Entry). Steps v (x ∷ []) (began.more ++ noted) w) same (steps_both v u w [] (e ∷ []) began.more noted began.steps up);
        legal = fin.ends.event.legal;
        counted = fin.ends.calls ∙ calls ∙ began.calls;
        own = All-push (IsOfCall v.caller (call_with v.calls asked)) [] mine (All-nil (IsOfCall v.caller (call_with v.calls asked))) (record { by = refl; of_call = refl });
        late = All-push (λ (x : Entry). length v.front ≤ x.line.point) [] mine (All-nil (λ (x : Entry). length v.front ≤ x.line.point)) late;
        ends = refl;
        stands = (s.history, fin.ends.event.front ∙ fin.ends.event.history ∙ ap (λ (h : ℕ). s.history ++ item h e ∷ []) hand ∙ ap (λ (x : Entry). s.history ++ item v.hand x ∷ []) same);
      };
      act = refl;
      bytes = refl;
    }

-- the call of a raised pass is the pass's
pub raised_finishes : (shape : Shape) (told : Bool) (v r w : PassState) (asked : Deed) (act : Act) → Raised v r → Finishes shape told r asked act w
    → Finishes shape told v asked act w
raised_finishes shape told v r w asked act rises fin = record {
  raised = fin.raised;
  before = fin.before;
  after = fin.after;
  rises = record {
    same = fin.rises.same ∙ ap (λ (x : PassState). record x { front = fin.raised.front }) rises.same;
    longer = prefix_trans v.front r.front fin.raised.front rises.longer fin.rises.longer;
    noted = rises.noted;
  };
  ends = fin.ends;
}

-- its call is open as before
pub raised_open : (v r : PassState) (asked : Deed) → Raised v r → IsOpen v asked → IsOpen r asked
raised_open v r asked rises is = open_same v r asked (ap (λ (x : PassState). x.notes) rises.same) (ap (λ (x : PassState). x.calls) rises.same)
    (whole_by v r (ap (λ (x : PassState). x.caller) rises.same) (ap (λ (x : PassState). x.hand) rises.same) (ap (λ (x : PassState). x.places) rises.same)
    (ap (λ (x : PassState). x.spare) rises.same) is.whole) is
