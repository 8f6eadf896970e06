-- Calls one behind another.
use Rattle.std.proofs.Common.{◌≡◌, ℕ, Bool, List, [], ◌∷◌, Result, Ok, Err, OnErr, ap, arith}
use Rattle.std.specs.Prelude.{IfOk}
use Rattle.ecp_shape.specs.declared.shape.Shape.{Shape}
use Rattle.ecp_entry.specs.declared.act.Act.{Act}
use Rattle.ecp_entry.specs.declared.deed.Deed.{Deed}
use Rattle.ecp_entry.specs.declared.entry.Entry.{Entry}
use Rattle.ecp_sequencer.specs.Notes.{Call}
use Rattle.ecp_sequencer.specs.Passes.{PassState}
use Rattle.ecp_sequencer.specs.Rounds.{Worked}
use Rattle.ecp_sequencer.specs.Steps.{IsOfCall, call_with}
use Rattle.ecp_cluster.specs.Answered.{Answered, FoundNone}

-- a call that was answered is work of one call
worked_answered : (shape : Shape) (told : Bool) (v w : PassState) (asked : Deed) (what : Act) (given : List ℕ) → Answered shape told v asked what given w → Worked v w
worked_answered shape told v w asked what given is =
    let e : Entry = is.entry in
    let own : IsOfCall v.caller (call_with v.calls asked) e = is.called.own 0 e (omega arith) in
    let number : e.line.call ≡ v.calls = ap (λ (c : Call). c.number) own.of_call in
    record {
      mine = e ∷ [];
      more = is.called.more;
      steps = is.called.steps;
      numbered = (omega (arith, number), omega (arith, number, is.called.counted));
    }

-- whether it was answered or found no memory
pub worked_either : {E : Type 0} (result : Result Act E) (shape : Shape) (told : Bool) (v w : PassState) (asked : Deed) → IfOk result (λ what. Answered shape told v asked what [] w)
    → OnErr result (FoundNone v w) → Worked v w
worked_either (Ok what) shape told v w asked ok err = worked_answered shape told v w asked what [] ok
worked_either (Err e) shape told v w asked ok err = record { mine = []; more = err.more; steps = err.steps; numbered = err.calls }
