-- Calls that lose nodes, one behind another.
use Rattle.std.proofs.Common.{◌≡◌, ℕ, ◌+◌, ◌-◌, ◌<◌, ◌≤◌, Bool, List, [], ◌∷◌, ◌++◌, length, get_or, Some, Result, Ok, Err, OnOk, OnErr, refl, sym, ◌∙◌, ap, subst, arith}
use Rattle.std.specs.Prelude.{All, IfOk}
use Rattle.std.proofs.lemmas.List.Elements.{All-nil, All-push}
use Rattle.ecp_shape.specs.declared.shape.Shape.{Shape}
use Rattle.ecp_book.specs.Logs.{Log}
use Rattle.ecp_book.proofs.Prefixes.{prefix_length}
use Rattle.ecp_entry.specs.declared.deed.Deed.{Deed}
use Rattle.ecp_entry.specs.declared.deed.Deed.TheVariants as deed
use Rattle.ecp_entry.specs.declared.entry.Entry.{Entry}
use Rattle.ecp_entry.specs.declared.part.Part.TheVariants as part
use Rattle.ecp_entry.specs.Items.{item}
use Rattle.ecp_entry.specs.ReadBack.{line_with, entry_with}
use Rattle.ecp_sequencer.specs.Facts.{room_noted}
use Rattle.ecp_sequencer.specs.Notes.{note, entering_of}
use Rattle.ecp_sequencer.specs.Passes.{IsWhole, PassState, first_passes}
use Rattle.ecp_sequencer.specs.Sequencers.{SequencerState}
use Rattle.ecp_sequencer.specs.Steps.{Steps, Event, IsOfCall, call_with}
use Rattle.ecp_sequencer.specs.Rounds.{Began, Raised, Worked}
use Rattle.ecp_sequencer.proofs.StepLaws.{first_whole, steps_both, steps_whole, whole_by}
use Rattle.ecp_sequencer.proofs.RoundLaws.{first_of_two, worked_none}
use Rattle.ecp_coord.specs.declared.node_act.NodeAct.{NodeAct}
use Rattle.ecp_coord.specs.Calls.{Begins, Ends, IsOpen, ended}
use Rattle.ecp_coord.specs.Losing.{act_of}
use Rattle.ecp_coord.specs.Rounds.{CalledLose, losing_entry}

-- a call that began, as the pass alone has it
began : (shape : Shape) (told : Bool) (s t : SequencerState) (v w : PassState) (asked : Deed) → Begins shape told s v asked t w → w.calls ≡ v.calls + 1 → IsOpen w asked
    → Began v asked w
began shape told s t v w asked begins counted is = record {
  more = _;
  steps = begins.steps;
  calls = counted;
  call = is.call ∙ ap (λ (n : ℕ). Some (call_with n asked)) (let n : w.calls - 1 ≡ v.calls = omega (arith, counted) in n);
  room = is.room;
}

-- whether it found memory or not
pub began_either : {R E : Type 0} (result : Result R E) (shape : Shape) (told : Bool) (s t : SequencerState) (v w : PassState) (asked : Deed)
    → OnOk result (Begins shape told s v asked t w) → OnOk result (w.calls ≡ v.calls + 1) → OnOk result (IsOpen w asked) → OnOk result (Began v asked w)
began_either (Ok r) shape told s t v w asked begins counted is = began shape told s t v w asked begins counted is
began_either (Err e) shape told s t v w asked begins counted is = tt

pub refused_either : {R E : Type 0} (result : Result R E) (shape : Shape) (told : Bool) (s t : SequencerState) (v w : PassState)
    → OnErr result (Event shape told s v [] [] t w) → v.calls ≤ w.calls → OnErr result (Worked v w)
refused_either (Ok r) shape told s t v w event le = tt
refused_either (Err e) shape told s t v w event le = worked_none shape told s t v w event le

-- a call that began is open
pub began_open : (v w : PassState) (asked : Deed) → IsWhole v → Began v asked w → IsOpen w asked
began_open v w asked whole is = record {
  whole = steps_whole v w [] is.more is.steps whole;
  begun = omega (arith, is.calls);
  call = is.call ∙ ap (λ (n : ℕ). Some (call_with n asked)) (let n : v.calls ≡ w.calls - 1 = omega (arith, is.calls) in n);
  room = is.room;
}

-- a call that began and was ended is one call, with its one entry
pub called_lose : (shape : Shape) (told : Bool) (s t : SequencerState) (v u w : PassState) (node : ℕ) (found : NodeAct) → Began v (deed.Lose node) u
    → Ends shape told s u (deed.Lose node) (act_of found) t w → CalledLose shape told v node found w
called_lose shape told s t v u w node found began ends =
    let e : Entry = ended u (deed.Lose node) (length s.history) (act_of found) in
    let mine : Entry = losing_entry v node (length s.history) found in
    let number : u.calls - 1 ≡ v.calls = omega (arith, began.calls) in
    let same : e ≡ mine =
    ap (λ (k : ℕ). entry_with (line_with k (u.calls - 1) (length s.history) part.End (act_of found)) (Some (deed.Lose node)) [] []) began.steps.caller
    ∙ ap (λ (n : ℕ). entry_with (line_with v.caller n (length s.history) part.End (act_of found)) (Some (deed.Lose node)) [] []) number in
    let more : Log = began.more ++ note (length s.history) (room_noted u.notes - 1) (entering_of u.hand e) ∷ [] in
    let late : length v.front ≤ length s.history =
    omega (arith, prefix_length v.front u.front began.steps.extends, prefix_length u.front s.history ends.begins) in
    record {
      point = length s.history;
      called = record {
        more = more;
        steps = subst (λ (x : Entry). Steps v (x ∷ []) more w) same
            (steps_both v u w [] (e ∷ []) began.more (note (length s.history) (room_noted u.notes - 1) (entering_of u.hand e) ∷ []) began.steps ends.event.steps);
        legal = ends.event.legal;
        counted = ends.calls ∙ began.calls;
        own = All-push (IsOfCall v.caller (call_with v.calls (deed.Lose node))) [] mine (All-nil (IsOfCall v.caller (call_with v.calls (deed.Lose node)))) (record { by = refl; of_call = refl });
        late = All-push (λ (x : Entry). length v.front ≤ x.line.point) [] mine (All-nil (λ (x : Entry). length v.front ≤ x.line.point)) late;
        ends = refl;
        stands = (s.history, ends.event.front ∙ ends.event.history ∙ ap (λ (h : ℕ). s.history ++ item h e ∷ []) began.steps.hand ∙ ap (λ (x : Entry). s.history ++ item v.hand x ∷ []) same);
      };
    }

-- it is work of one call
worked_lose : (shape : Shape) (told : Bool) (v w : PassState) (node : ℕ) (found : NodeAct) → CalledLose shape told v node found w → Worked v w
worked_lose shape told v w node found is = record {
  mine = losing_entry v node is.point found ∷ [];
  more = is.called.more;
  steps = is.called.steps;
  numbered = (omega arith, omega (arith, is.called.counted));
}

-- whether it found memory or not
pub worked_either : {E : Type 0} (result : Result NodeAct E) (shape : Shape) (told : Bool) (v w : PassState) (node : ℕ) → IfOk result (λ found. CalledLose shape told v node found w)
    → OnErr result (Worked v w) → Worked v w
worked_either (Ok found) shape told v w node ok err = worked_lose shape told v w node found ok
worked_either (Err e) shape told v w node ok err = err

-- ---- passes that stay whole

pub worked_whole : (v w : PassState) → Worked v w → IsWhole v → IsWhole w
worked_whole v w did is = steps_whole v w did.mine did.more did.steps is

pub raised_whole : (v w : PassState) → Raised v w → IsWhole v → IsWhole w
raised_whole v w r is =
    whole_by v w (ap (λ (p : PassState). p.caller) r.same) (ap (λ (p : PassState). p.hand) r.same) (ap (λ (p : PassState). p.places) r.same) (ap (λ (p : PassState). p.spare) r.same) is

-- those of two callers that did nothing yet
pub firsts_whole : (passes : List PassState) → passes ≡ first_passes 1 2 → All IsWhole passes
firsts_whole passes firsts = λ k p lt.
    let two : length passes ≡ 2 = ap (λ (ps : List PassState). length ps) firsts in
    subst (λ (v : PassState). IsWhole v) (sym (ap (λ (ps : List PassState). get_or ps k p) firsts ∙ first_of_two k p (omega (arith, lt, two)))) (first_whole 1 k)
