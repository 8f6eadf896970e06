-- What a run writes: the replies by session, then the journal.
use Rattle.std.specs.Prelude.{ℕ, ◌+◌, List, [], ◌++◌, length, take, flat_map, find, codes, decimal}
use Rattle.std.specs.List.{enumerate_from, range_with_len}
use Rattle.std.specs.Option.{option_map_or}
use Rattle.sha2.specs.Sha256.{sha256}
use Rattle.ecp_cluster.specs.Whole.{opened_bytes}
use Rattle.ecp_command.specs.Input.Accepted.{Content}
use Rattle.ecp_command.specs.Input.Calls.{SessionCalls}
use Rattle.ecp_command.specs.declared.input.planned.Planned.{Planned}
use Rattle.ecp_entry.specs.declared.act.Act.{Act}
use Rattle.ecp_entry.specs.declared.act.Act.TheVariants.{Whole, Broken}
use Rattle.ecp_entry.specs.declared.entry.Entry.{Entry}
use Rattle.ecp_entry.specs.JournalText.{journal_line}
use Rattle.ecp_entry.specs.ReplyText.{reply_of, reply_line}
use Rattle.ecp_service.specs.Asked.{deed_of}
use Rattle.ecp_history.specs.Spans.{ends, is_part}
use Rattle.ecp_service.specs.Serves.{opened_blocks}

-- the length of the file that a call opened in its part 0
abbrev pub opened_len : List Entry → ℕ → ℕ → ℕ
opened_len history caller call = option_map_or (λ e. opened_bytes e.line.act) (find (is_part caller call 0) history) 0

-- the bytes of a part of a call
abbrev pub part_bytes : List Entry → ℕ → ℕ → ℕ → List ℕ
part_bytes history caller call j = option_map_or (λ e. e.bytes) (find (is_part caller call j) history) []

-- the file that a call read: as many bytes as it has of the blocks of its parts from 1 on
abbrev pub file_bytes : List Entry → ℕ → ℕ → List ℕ
file_bytes history caller call =
    take (opened_len history caller call) (flat_map (part_bytes history caller call) (range_with_len 1 (opened_blocks history caller call)))

-- the bytes whose digest the end of a call answers: those of the file that it read whole, else those of its block
abbrev pub digested : List Entry → Entry → Act → List ℕ
digested history e Whole = file_bytes history e.line.caller e.line.call
digested history e _ = e.bytes

-- how the part ended that broke a call off; its own act where none did
abbrev pub cause_of : List Entry → Entry → Act → Act
cause_of history e (Broken index) =
    option_map_or (λ x. x.line.act) (find (is_part e.line.caller e.line.call (index + 1)) history) e.line.act
cause_of history e act = act

-- the reply to a call, by the entry that ended it
abbrev pub ending_reply : List Entry → Planned → Entry → List ℕ
ending_reply history planned e =
    reply_line (reply_of (deed_of planned.call) e.line.act (opened_len history e.line.caller e.line.call) (cause_of history e e.line.act))
    e.bytes (sha256 (digested history e e.line.act))

-- the reply to a call
abbrev pub reply_to : List Entry → ℕ → ℕ → Planned → List ℕ
reply_to history caller call planned = option_map_or (ending_reply history planned) (find (ends caller call) history) []

-- a line for the session, and one for each of its calls
abbrev pub session_text : List Entry → SessionCalls → List ℕ
session_text history s =
    codes "session " ++ decimal s.number ++ codes "\n" ++ flat_map (λ p. reply_to history s.number p.0 p.1) (enumerate_from 0 s.calls)

-- the lines of a journal
abbrev pub journal_text : List Entry → List ℕ
journal_text history = flat_map (λ p. journal_line p.0 p.1.line) (enumerate_from 0 history)

-- what a run of the input writes, if this is its history
abbrev pub run_text : Content → List Entry → List ℕ
run_text input history =
    flat_map (session_text history) input.sessions
    ++ (codes "journal " ++ decimal (length history) ++ codes "\n" ++ (journal_text history ++ codes "end\n"))
