-- A call, from its beginning to its end.
use Rattle.std.proofs.Common.{◌≡◌, ℕ, ◌+◌, ◌-◌, ◌≤◌, Bool, List, [], ◌∷◌, ◌++◌, length, Option, Some, Result, Ok, Err, IfOk, OnOk, OnErr, refl, sym, ◌∙◌, ap, arith}
use Rattle.std.specs.Prelude.{option_and_then, unwrap_or}
use Rattle.std.proofs.lemmas.List.Elements.{All-nil, All-push}
use Rattle.ecp_shape.specs.declared.shape.Shape.{Shape}
use Rattle.ecp_book.specs.Logs.{Log}
use Rattle.ecp_book.proofs.Prefixes.{prefix_length}
use Rattle.ecp_entry.specs.declared.act.Act.{Act}
use Rattle.ecp_entry.specs.declared.deed.Deed.{Deed}
use Rattle.ecp_entry.specs.declared.entry.Entry.{Entry}
use Rattle.ecp_entry.specs.Items.{item}
use Rattle.ecp_sequencer.specs.Facts.{facts_of, room_noted}
use Rattle.ecp_sequencer.specs.Notes.{Call}
use Rattle.ecp_sequencer.specs.Passes.{IsWhole, PassState}
use Rattle.ecp_sequencer.specs.Sequencers.{SequencerState}
use Rattle.ecp_sequencer.specs.Steps.{Event, IsOfCall, call_with}
use Rattle.ecp_sequencer.proofs.StepLaws.{steps_both}
use Rattle.ecp_coord.specs.Calls.{Begins, Ends, IsFresh, IsOpen, ended}
use Rattle.ecp_coord.proofs.ClosingLaws.{begun_with}
use Rattle.ecp_cluster.specs.Answered.{Answered, FoundNone, HasBegun}
use Rattle.ecp_cluster.specs.Concluded.{Concludes, GoesFrom, WentOn}

-- ---- what an open call asks for

abbrev asked_of : Option Call → Deed → Deed
asked_of o d = unwrap_or (option_and_then (λ (c : Call). c.deed) o) d

-- an open call asks for one thing
pub same_asked : (o : Option Call) (n m : ℕ) (a b : Deed) → o ≡ Some (call_with n a) → o ≡ Some (call_with m b) → a ≡ b
same_asked o n m a b first second = ap (λ (x : Option Call). asked_of x a) (sym first ∙ second)

-- a pass that noted nothing more has its call open as before
pub open_same : (v w : PassState) (asked : Deed) → w.notes ≡ v.notes → w.calls ≡ v.calls → IsWhole w → IsOpen v asked → IsOpen w asked
open_same v w asked notes calls whole is = record {
  whole = whole;
  begun = omega (arith, is.begun, calls);
  call = ap (λ (ns : Log). (facts_of ns).call) notes ∙ is.call ∙ ap (λ (n : ℕ). Some (call_with (n - 1) asked)) (sym calls);
  room = omega (arith, is.room, ap (λ (ns : Log). room_noted ns) notes);
}

-- ---- of one event

-- that begins it
pub begun_either : {R E : Type 0} (shape : Shape) (told : Bool) (s t : SequencerState) (v w : PassState) (asked : Deed) (result : Result R E) → OnOk result (Begins shape told s v asked t w) → OnOk result (IsFresh w asked)
    → OnOk result (w.calls ≡ v.calls + 1) → OnOk result (HasBegun v asked w)
begun_either shape told s t v w asked (Ok r) begins fresh counted = record {
  more = _;
  steps = begins.steps;
  calls = counted;
  fresh = fresh;
  room = omega (arith, begun_with shape told s t v w asked begins);
}
begun_either shape told s t v w asked (Err e) begins fresh counted = tt

-- that notes nothing
pub waited : (shape : Shape) (told : Bool) (s t : SequencerState) (v w : PassState) → Event shape told s v [] [] t w → w.calls ≡ v.calls → WentOn v w
waited shape told s t v w event calls = record { more = []; steps = event.steps; calls = calls }

-- that ends it
pub concluded : (shape : Shape) (told : Bool) (s t : SequencerState) (v w : PassState) (asked : Deed) (what : Act) → Ends shape told s v asked what t w → Concludes shape told v asked what [] w
concluded shape told s t v w asked what ends = record {
  entry = ended v asked (length s.history) what;
  more = _;
  steps = ends.event.steps;
  legal = ends.event.legal;
  calls = ends.calls;
  by = refl;
  of_call = refl;
  late = prefix_length v.front s.history ends.begins;
  of_part = refl;
  stands = (s.history, ends.event.front ∙ ends.event.history);
  act = refl;
  bytes = refl;
  left = tt;
}

-- ---- of several steps

-- a call that went on and then was concluded was concluded
pub concludes_past : (shape : Shape) (told : Bool) (v p w : PassState) (asked : Deed) (what : Act) (given : List ℕ) → GoesFrom v asked p → Concludes shape told p asked what given w
    → Concludes shape told v asked what given w
concludes_past shape told v p w asked what given goes c = record {
  entry = c.entry;
  more = goes.more ++ c.more;
  steps = steps_both v p w [] (c.entry ∷ []) goes.more c.more goes.steps c.steps;
  legal = c.legal;
  calls = c.calls ∙ goes.calls;
  by = c.by ∙ goes.steps.caller;
  of_call = c.of_call ∙ ap (λ (n : ℕ). call_with (n - 1) asked) goes.calls;
  late = omega (arith, prefix_length v.front p.front goes.steps.extends, c.late);
  of_part = c.of_part;
  stands = (c.stands.0, c.stands.1 ∙ ap (λ (h : ℕ). c.stands.0 ++ item h c.entry ∷ []) goes.steps.hand);
  act = c.act;
  bytes = c.bytes;
  left = tt;
}

-- ---- the whole call

pub answered_after : (shape : Shape) (told : Bool) (u v w : PassState) (asked : Deed) (what : Act) (given : List ℕ) → HasBegun u asked v → Concludes shape told v asked what given w
    → Answered shape told u asked what given w
answered_after shape told u v w asked what given began c =
    let e : Entry = c.entry in
    let number : v.calls - 1 ≡ u.calls = omega (arith, began.calls) in
    let its : IsOfCall u.caller (call_with u.calls asked) e = record { by = c.by ∙ began.steps.caller; of_call = c.of_call ∙ ap (λ (n : ℕ). call_with n asked) number } in
    let late : length u.front ≤ e.line.point = omega (arith, prefix_length u.front v.front began.steps.extends, c.late) in
    record {
      entry = e;
      called = record {
        more = began.more ++ c.more;
        steps = steps_both u v w [] (e ∷ []) began.more c.more began.steps c.steps;
        legal = c.legal;
        counted = c.calls ∙ began.calls;
        own = All-push (IsOfCall u.caller (call_with u.calls asked)) [] e (All-nil (IsOfCall u.caller (call_with u.calls asked))) its;
        late = All-push (λ (x : Entry). length u.front ≤ x.line.point) [] e (All-nil (λ (x : Entry). length u.front ≤ x.line.point)) late;
        ends = c.of_part;
        stands = (c.stands.0, c.stands.1 ∙ ap (λ (h : ℕ). c.stands.0 ++ item h e ∷ []) began.steps.hand);
      };
      act = c.act;
      bytes = c.bytes;
    }

pub none_after : (u v w : PassState) (asked : Deed) → HasBegun u asked v → WentOn v w → FoundNone u w
none_after u v w asked began goes = record {
  more = began.more ++ goes.more;
  steps = steps_both u v w [] [] began.more goes.more began.steps goes.steps;
  calls = omega (arith, began.calls, goes.calls);
}

-- what is said of an error, whether there is one
pub on_err : {R E : Type 0} (result : Result R E) {P : Type 0} → P → OnErr result P
on_err (Ok r) p = tt
on_err (Err e) p = p

-- whether it was answered or found no memory
pub answered_either : {A E : Type 0} (what : A → Act) (given : A → List ℕ) (shape : Shape) (told : Bool) (u v w : PassState) (asked : Deed) (result : Result A E) → HasBegun u asked v
    → IfOk result (λ a. Concludes shape told v asked (what a) (given a) w) → IfOk result (λ a. Answered shape told u asked (what a) (given a) w)
answered_either what given shape told u v w asked (Ok a) began c = answered_after shape told u v w asked (what a) (given a) began c
answered_either what given shape told u v w asked (Err e) began c = tt

pub none_either : {A E : Type 0} (u v w : PassState) (asked : Deed) (result : Result A E) → HasBegun u asked v → OnErr result (WentOn v w) → OnErr result (FoundNone u w)
none_either u v w asked (Ok a) began goes = tt
none_either u v w asked (Err e) began goes = none_after u v w asked began goes
