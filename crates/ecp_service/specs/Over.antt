-- Sessions that were served over nodes by a service of their own.
use Rattle.std.specs.Prelude.{◌≡◌, ℕ, Bool, List, drop, length, map, max, take}
use Rattle.ecp_book.specs.Names.{StoreStart}
use Rattle.ecp_cluster.specs.Ended.{Ended}
use Rattle.ecp_cluster.specs.Opening.{starting}
use Rattle.ecp_cluster.specs.declared.answer.Answer.{Answer}
use Rattle.ecp_command.specs.Input.Accepted.{Content}
use Rattle.ecp_command.specs.Input.Calls.{SessionCalls}
use Rattle.ecp_command.specs.Input.Settings.{shape_of}
use Rattle.ecp_command.specs.declared.input.head.Head.{Head}
use Rattle.ecp_entry.specs.declared.line.Line.{Line}
use Rattle.ecp_sequencer.specs.Passes.{PassState}
use Rattle.ecp_service.specs.Printed.{ArePrintable}
use Rattle.ecp_service.specs.Served.{EachServed, answers_by}
use Rattle.ecp_service.specs.declared.serving.replies.Replies.{Replies}
use Rattle.ecp_shape.specs.declared.shape.Shape.{Shape}

-- The calls of the sessions were answered so, and the service was closed with this journal and these stores
pub record IsServedBy {S : Type 0} (shape : Shape) (told : Bool) (callers spares : ℕ) (sessions : List SessionCalls) (failed : S → ℕ) (starts : List StoreStart) (answers : ℕ → List Answer) (lines : List Line) (stores : List S) : Type 0 where
  pub passes : List PassState
  pub served : EachServed shape told spares callers sessions answers passes
  pub ended : Ended shape told callers spares failed starts lines passes stores

-- stores as a name states them
abbrev pub starts_of : {S : Type 0} → (S → ℕ) → (S → Bool) → List S → List StoreStart
starts_of faults faultless stores = map (λ s. starting (faults s) (faultless s)) stores

-- The sessions were served over as many of the stores as the head has nodes, with so many callers
abbrev pub IsServedOn : {S : Type 0} → Head → Bool → (S → ℕ) → (S → Bool) → ℕ → List SessionCalls → List S → (ℕ → List Answer) → List Line → List S → Type 0
IsServedOn head told faults faultless callers sessions old answers lines new =
    IsServedBy (shape_of head) told callers (max head.workers 1) sessions faults
    (starts_of faults faultless (take head.nodes old)) answers lines (take head.nodes new)

-- The sessions of the content were served over the first of the stores. All stores came back, those past the nodes as they were
pub record RanOver {S : Type 0} (told : Bool) (faults : S → ℕ) (faultless : S → Bool) (content : Content) (old : List S) (numbers : List ℕ) (replies : List Replies) (lines : List Line) (new : List S) : Type 0 where
  pub callers : ℕ
  pub numbers_are : numbers ≡ map (λ s. s.number) content.sessions
  pub served : IsServedOn content.head told faults faultless callers content.sessions old (answers_by replies) lines new
  pub back : length new ≡ length old
  pub unused : drop content.head.nodes new ≡ drop content.head.nodes old
  pub printable : ArePrintable lines
