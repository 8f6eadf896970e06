-- Why a command stops with nothing on its output, and what it says then.
use Rattle.std.specs.Prelude.{ℕ, ◌≡◌, IsTrue, List, [], ◌++◌, codes}
use Rattle.ecp_command.specs.Input.Accepted.{MayRefuse}
use Rattle.ecp_command.specs.Input.Refusals.{refusal_text}
use Rattle.ecp_command.specs.declared.input.refusal.Refusal.{Refusal}
use Rattle.ecp_command.specs.declared.input.refusal.Refusal.TheVariants as refusal
use Rattle.ecp_service.specs.Answers.{Wanted, NothingWanted, WantsScript}
use Rattle.ecp_service.specs.Sources.{GaveTooMuch}
use Rattle.ecp_service.specs.declared.stop.Stop.{Stop}
use Rattle.ecp_service.specs.declared.stop.Stop.TheVariants.{Usage, Refused, ReadFault, NoMemory, TooLong}
use Rattle.ecp_store.specs.Faults.{Rose}
use Rattle.ecp_store.specs.declared.source.Source.{Ghosts}

-- the status for an input that is not accepted: 3 for its head and 4 for a line of its script
abbrev pub refusal_code : Refusal → ℕ
refusal_code (refusal.Line number) = 4
refusal_code refusal.NoMemory = 7
refusal_code _ = 3

-- the status of the program
abbrev pub code_of : Stop → ℕ
code_of Usage = 2
code_of (Refused r) = refusal_code r
code_of ReadFault = 5
code_of NoMemory = 7
code_of TooLong = 8

-- the line on the diagnostic sink
abbrev pub line_of : Stop → List ℕ
line_of Usage = codes "usage: ecpipe run | run-dir PATH | mend K N ROW | check | soak SEED\n"
line_of (Refused r) = refusal_text r ++ codes "\n"
line_of ReadFault = codes "input: read fault\n"
line_of NoMemory = codes "no memory\n"
line_of TooLong = codes "input: too long\n"

-- the reason to stop at this refusal
abbrev pub stop_at : Refusal → Stop
stop_at refusal.NoMemory = NoMemory
stop_at r = Refused r

-- where it tells, the source was read to its end, and what it had left is refused so
abbrev pub GaveRefused : {R : Type 0} → Ghosts R → R → R → Refusal → Type 0
GaveRefused g old new r = IsTrue g.tells → MayRefuse (g.left old) r × (g.left new ≡ [])

-- why a read stops before the end of the input: it failed, or gave too many bytes. Memory may run out at any time
abbrev pub StopsRead : {R : Type 0} → Ghosts R → R → R → Stop → Type 0
StopsRead g old new Usage = ⊥
StopsRead g old new (Refused r) = ⊥
StopsRead g old new ReadFault = Rose (g.faults old) (g.faults new)
StopsRead g old new NoMemory = Unit {0}
StopsRead g old new TooLong = GaveTooMuch g old new

-- why no script is read: the read stops, or what it gave is refused
abbrev pub StopsScript : {R : Type 0} → Ghosts R → R → R → Stop → Type 0
StopsScript g old new (Refused r) = GaveRefused g old new r
StopsScript g old new Usage = StopsRead g old new Usage
StopsScript g old new ReadFault = StopsRead g old new ReadFault
StopsScript g old new NoMemory = StopsRead g old new NoMemory
StopsScript g old new TooLong = StopsRead g old new TooLong

-- the reason holds: no command is wanted; one is that reads a script, and the input is refused; or the read stopped
abbrev pub IsReason : {R : Type 0} → Ghosts R → Wanted → R → R → Stop → Type 0
IsReason g wanted old new Usage = NothingWanted wanted
IsReason g wanted old new (Refused r) = WantsScript wanted × GaveRefused g old new r
IsReason g wanted old new ReadFault = StopsRead g old new ReadFault
IsReason g wanted old new NoMemory = StopsRead g old new NoMemory
IsReason g wanted old new TooLong = StopsRead g old new TooLong
