-- A call leaves a pass whole, whether it was answered or found no memory.
use Rattle.std.specs.Prelude.{ℕ, Bool, List, [], ◌∷◌, ◌++◌, IfOk, OnErr, Result, Ok, Err}
use Rattle.ecp_shape.specs.declared.shape.Shape.{Shape}
use Rattle.ecp_entry.specs.declared.act.Act.{Act}
use Rattle.ecp_entry.specs.declared.deed.Deed.{Deed}
use Rattle.ecp_sequencer.specs.Passes.{IsWhole, PassState}
use Rattle.ecp_sequencer.proofs.StepLaws.{steps_whole}
use Rattle.ecp_cluster.specs.declared.answer.Answer.{Answer}
use Rattle.ecp_cluster.specs.Answered.{Answered, FoundNone}
use Rattle.ecp_cluster.specs.Whole.{ReadWhole, StoppedShort}

pub answered_whole : {E : Type 0} (shape : Shape) (told : Bool) (v w : PassState) (asked : Deed) (result : Result Answer E) → IfOk result (λ a. Answered shape told v asked a.act a.bytes w)
    → OnErr result (FoundNone v w) → IsWhole v → IsWhole w
answered_whole shape told v w asked (Ok a) ok err is = steps_whole v w (ok.entry ∷ []) ok.called.more ok.called.steps is
answered_whole shape told v w asked (Err e) ok err is = steps_whole v w [] err.more err.steps is

pub read_whole : {E : Type 0} (shape : Shape) (told : Bool) (v w : PassState) (name : List ℕ) (asked : Deed) (result : Result Answer E) → IfOk result (λ a. ReadWhole shape told v name a w)
    → OnErr result (StoppedShort v asked w) → IsWhole v → IsWhole w
read_whole shape told v w name asked (Ok a) ok err is = steps_whole v w (ok.parts ++ ok.last ∷ []) ok.called.more ok.called.steps is
read_whole shape told v w name asked (Err e) ok err is = steps_whole v w err.parts err.more err.steps is
