-- What a command answers on its output.
use Rattle.std.specs.Prelude.{◌≡◌, ◌⊎◌, ℕ, true, IsTrue, List, ◌++◌, length, codes, decimal, ⊤}
use Rattle.ecp_code.specs.Rows.{row}
use Rattle.ecp_code.specs.Stripes.{blocks, stripe_len}
use Rattle.ecp_command.specs.Input.Accepted.{Content, IsAccepted}
use Rattle.ecp_command.specs.Input.Calls.{SessionCalls, call_count}
use Rattle.ecp_command.specs.Words.{IsSpelled}
use Rattle.ecp_command.specs.declared.words.commands.Command.{Command}
use Rattle.ecp_command.specs.declared.words.commands.Command.TheVariants.{Run, RunDir, Mend, Check, Soak}
use Rattle.ecp_entry.specs.declared.entry.Entry.{Entry}
use Rattle.ecp_entry.specs.declared.line.Line.{Line}
use Rattle.ecp_shape.specs.declared.shape.Shape.{Shape}
use Rattle.ecp_history.specs.Legal.{IsLegal}
use Rattle.ecp_command.specs.Input.Settings.{shape_of}
use Rattle.ecp_service.specs.Paid.{Storage}
use Rattle.ecp_service.specs.Past.{past}
use Rattle.ecp_service.specs.Printed.{ArePrintable}
use Rattle.ecp_service.specs.RunText.{run_text}
use Rattle.ecp_service.specs.Serves.{Serves}

-- a row of these bytes as one stripe of k blocks, each as short as can hold them, filled with zeros
abbrev pub rebuilt : ℕ → ℕ → List ℕ → List ℕ
rebuilt k t bytes = row (blocks k (stripe_len k (length bytes)) bytes) t

-- a legal history that serves the input, and whose failures of stores the stores paid for
pub record IsHistoryOf (paid : List Entry → Type 0) (shape : Shape) (content : Content) (history : List Entry) : Type 0 where
  pub legal : IsLegal shape true history
  pub serves : Serves shape content history
  pub paid_for : paid history

-- the text is that of the history which the content has with the lines of some journal
pub record IsTextOf (paid : List Entry → Type 0) (content : Content) (text : List ℕ) : Type 0 where
  pub journal : List Line
  pub printable : ArePrintable journal
  pub written : text ≡ run_text content (past (shape_of content.head) content journal)
  pub history : IsHistoryOf paid (shape_of content.head) content (past (shape_of content.head) content journal)

-- the bytes are an accepted input, and the text is that of a history of it, where the stores tell what they hold
pub record IsRunOf (d : Storage) (bytes text : List ℕ) : Type 0 where
  pub content : Content
  pub accepted : IsAccepted bytes content
  pub text_of : IsTrue d.tells → IsTextOf d.paid content text

-- the line that says how many calls the sessions of an input have
abbrev pub accepted_line : List SessionCalls → List ℕ
accepted_line sessions = codes "accepted " ++ decimal (call_count sessions) ++ codes "\n"

-- the bytes are an accepted input, and the text says how many calls it has
pub record IsCountOf (bytes text : List ℕ) : Type 0 where
  pub content : Content
  pub accepted : IsAccepted bytes content
  pub says : text ≡ accepted_line content.sessions

-- the text is the answer of the command to an input of these bytes, over these stores
abbrev pub IsAnswer : Storage → Command → List ℕ → List ℕ → Type 0
IsAnswer d (Mend k n t) bytes text = text ≡ rebuilt k t bytes
IsAnswer d Run bytes text = IsRunOf d bytes text
IsAnswer d Check bytes text = IsCountOf bytes text
IsAnswer d (RunDir path) bytes text = ⊥
IsAnswer d (Soak seed) bytes text = ⊥

-- the commands that are wanted: by the words of a command line, or one alone
abbrev pub Wanted : Type 1
Wanted = Command → Type 0

-- this command alone is wanted
abbrev pub Only : Command → Wanted
Only command other = other ≡ command

-- the words ask for a command that the program serves
abbrev pub Asks : List (List ℕ) → Wanted
Asks words (Mend k n t) = IsSpelled words (Mend k n t)
Asks words Run = IsSpelled words Run
Asks words Check = IsSpelled words Check
Asks words (RunDir path) = ⊥
Asks words (Soak seed) = ⊥

-- no command is wanted
abbrev pub NothingWanted : Wanted → Type 0
NothingWanted wanted = (command : Command) → ¬ wanted command

-- a command is wanted that reads a script
abbrev pub WantsScript : Wanted → Type 0
WantsScript wanted = wanted Run ⊎ wanted Check

-- the command takes these bytes as its input: `run` and `check` an accepted input, `mend` any
abbrev pub Takes : Command → List ℕ → Type 0
Takes Run bytes = (content : Content) × IsAccepted bytes content
Takes Check bytes = (content : Content) × IsAccepted bytes content
Takes (Mend k n t) bytes = ⊤
Takes (RunDir path) bytes = ⊤
Takes (Soak seed) bytes = ⊤
