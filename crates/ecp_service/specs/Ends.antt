-- What every command promises of its three ends: the input, the output and the diagnostic sink. Each word takes the
-- members of their types, and which commands are wanted.
use Rattle.std.specs.Prelude.{ℕ, ◌≡◌, ◌≢◌, ◌⊎◌, ◌≤◌, IsTrue, List, length}
use Rattle.ecp_command.specs.Input.Accepted.{MayRefuse}
use Rattle.ecp_command.specs.declared.words.commands.Command.{Command}
use Rattle.ecp_command.specs.declared.input.refusal.Refusal.{Refusal}
use Rattle.ecp_command.specs.declared.input.refusal.Refusal.TheVariants as refusal
use Rattle.ecp_service.specs.Answers.{Wanted, NothingWanted, WantsScript, IsAnswer, Takes}
use Rattle.ecp_service.specs.Paid.{Storage}
use Rattle.ecp_service.specs.Sinks.{GotAll, GotPart}
use Rattle.ecp_service.specs.Sources.{IsRead, GaveTooMuch, GaveFew}
use Rattle.ecp_service.specs.Stops.{code_of, line_of, IsReason}
use Rattle.ecp_service.specs.declared.answer.TheConstants.{DONE, WRITE_FAULT}
use Rattle.ecp_service.specs.declared.stop.Stop.{Stop}
use Rattle.ecp_service.specs.declared.stop.Stop.TheVariants as stop
use Rattle.ecp_shape.specs.declared.limits.TheConstants.{MAX_INPUT}
use Rattle.ecp_store.specs.Faults.{Rose}
use Rattle.ecp_store.specs.declared.sink.Sink as sink
use Rattle.ecp_store.specs.declared.source.Source as source

-- the three ends of a command
pub record Ends (R W E : Type 0) : Type 0 where
  pub input : R
  pub out : W
  pub diag : E

abbrev pub ends : {R W E : Type 0} → R → W → E → Ends R W E
ends input out diag = record { input = input; out = out; diag = diag }

-- the input was read to its end, and the text is the answer of a wanted command to it
pub record Answers {R : Type 0} (s : source.Ghosts R) (wanted : Wanted) (d : Storage) (old new : R) (text : List ℕ) : Type 0 where
  pub bytes : List ℕ
  pub read : IsRead s old new bytes
  pub command : Command
  pub asked : wanted command
  pub answer : IsAnswer d command bytes text

-- done: the output got the answer, flushed, no end failed, and nothing was said on the diagnostic sink
pub record IsDone {R W E : Type 0} (s : source.Ghosts R) (w : sink.Ghosts W) (wanted : Wanted) (d : Storage) (old new : Ends R W E) : Type 0 where
  pub text : List ℕ
  pub answer : Answers s wanted d old.input new.input text
  pub got : GotAll w old.out new.out text
  pub quiet : new.diag ≡ old.diag

-- stopped: for a reason that holds, which has this status and which the diagnostic sink got as a line, flushed. The output
-- is as it was
pub record IsStopped {R W E : Type 0} (s : source.Ghosts R) (e : sink.Ghosts E) (wanted : Wanted) (old new : Ends R W E) (status : ℕ) : Type 0 where
  pub stop : Stop
  pub coded : status ≡ code_of stop
  pub reason : IsReason s wanted old.input new.input stop
  pub said : GotAll e old.diag new.diag (line_of stop)
  pub nothing : new.out ≡ old.out

-- the output failed and got a part of the answer, and nothing was said
pub record IsAnswerCut {R W E : Type 0} (s : source.Ghosts R) (w : sink.Ghosts W) (wanted : Wanted) (d : Storage) (old new : Ends R W E) : Type 0 where
  pub text : List ℕ
  pub answer : Answers s wanted d old.input new.input text
  pub got : GotPart w old.out new.out text
  pub quiet : new.diag ≡ old.diag

-- the diagnostic sink failed and got a part of the line of a reason that holds, and the output is as it was
pub record IsLineCut {R W E : Type 0} (s : source.Ghosts R) (e : sink.Ghosts E) (wanted : Wanted) (old new : Ends R W E) : Type 0 where
  pub stop : Stop
  pub reason : IsReason s wanted old.input new.input stop
  pub said : GotPart e old.diag new.diag (line_of stop)
  pub nothing : new.out ≡ old.out

-- cut short by a failed write
abbrev pub IsCutShort : {R W E : Type 0} → source.Ghosts R → sink.Ghosts W → sink.Ghosts E → Wanted → Storage → Ends R W E → Ends R W E → Type 0
IsCutShort s w e wanted d old new = IsAnswerCut s w wanted d old new ⊎ IsLineCut s e wanted old new

-- the status is that of this reason, or the line of a reason could not be written
abbrev pub IsToldAs : Stop → ℕ → Type 0
IsToldAs stop status = (status ≡ code_of stop) ⊎ (status ≡ WRITE_FAULT)

-- what is told whenever it can be: that nothing is wanted, that the input is too long, and the first fault of a script
pub record IsTold {R : Type 0} (s : source.Ghosts R) (wanted : Wanted) (old new : R) (status : ℕ) : Type 0 where
  pub usage : NothingWanted wanted → IsToldAs stop.Usage status
  pub too_long : IsTrue s.tells → GaveTooMuch s old new → IsToldAs stop.TooLong status
  pub refused : WantsScript wanted → IsTrue s.tells → length (s.left old) ≤ MAX_INPUT → ¬ Rose (s.faults old) (s.faults new)
      → (r : Refusal) → r ≢ refusal.NoMemory → MayRefuse (s.left old) r
      → IsToldAs (stop.Refused r) status ⊎ (status ≡ code_of stop.NoMemory)

-- what was taken of the input: at most a byte more than an input may have, and nothing where nothing is wanted
pub record IsTakenFrom {R : Type 0} (s : source.Ghosts R) (wanted : Wanted) (old new : R) : Type 0 where
  pub few : GaveFew s old new
  pub untouched : NothingWanted wanted → new ≡ old

-- none of the three failed
pub record NoneFailed {R W E : Type 0} (s : source.Ghosts R) (w : sink.Ghosts W) (e : sink.Ghosts E) (old new : Ends R W E) : Type 0 where
  pub input : ¬ Rose (s.faults old.input) (s.faults new.input)
  pub out : ¬ Rose (w.faults old.out) (w.faults new.out)
  pub diag : ¬ Rose (e.faults old.diag) (e.faults new.diag)

-- with an input that a wanted command takes, and where no end failed, only memory can keep it from its answer
abbrev pub IsComplete : {R W E : Type 0} → source.Ghosts R → sink.Ghosts W → sink.Ghosts E → Wanted → Ends R W E → Ends R W E → ℕ → Type 0
IsComplete s w e wanted old new status = (command : Command) → wanted command
    → IsTrue s.tells → length (s.left old.input) ≤ MAX_INPUT → Takes command (s.left old.input)
    → NoneFailed s w e old new → (status ≡ DONE) ⊎ (status ≡ code_of stop.NoMemory)
