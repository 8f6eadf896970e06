-- The history that an input and the lines of a journal make.
use Rattle.std.specs.Prelude.{ℕ, List, [], ◌∷◌, ◌++◌, Option, option_map}
use Rattle.std.specs.Option.{option_map_or}
use Rattle.ecp_command.specs.Input.Accepted.{Content}
use Rattle.ecp_entry.specs.declared.act.Act.{Act}
use Rattle.ecp_entry.specs.declared.act.Act.TheVariants.{Stored, Data}
use Rattle.ecp_entry.specs.declared.deed.Deed.{Deed}
use Rattle.ecp_entry.specs.declared.entry.Entry.{Entry}
use Rattle.ecp_entry.specs.declared.line.Line.{Line}
use Rattle.ecp_shape.specs.declared.shape.Shape.{Shape}
use Rattle.ecp_entry.specs.Entries.{deed_name}
use Rattle.ecp_history.specs.Named.{deed_block}
use Rattle.ecp_history.specs.table.Steps.{table_at}
use Rattle.ecp_history.specs.table.Tables.{PlainTable, block}
use Rattle.ecp_service.specs.Asked.{deed_of, put_bytes, call_at}

-- what the call of a line asks for
abbrev pub deed_for : Content → Line → Option Deed
deed_for input line = option_map (λ p. deed_of p.call) (call_at input line.caller line.call)

-- the bytes of the block that a line with this deed speaks of, in the table at its point
abbrev pub block_for : Shape → PlainTable → Line → Option Deed → List ℕ
block_for shape t line deed = option_map_or (λ b. block t b.stripe b.row) (deed_block shape t line.part deed) []

-- the bytes of an entry: the put's for a stored file, the block's for data
abbrev pub bytes_for : Shape → Content → List Entry → Line → Act → List ℕ
bytes_for shape input before line (Stored first stripes up) = option_map_or (λ p. put_bytes p.call) (call_at input line.caller line.call) []
bytes_for shape input before line Data = block_for shape (table_at shape before line.point) line (deed_for input line)
bytes_for shape input before line _ = []

-- the entry of a line, behind these entries
abbrev pub entry_for : Shape → Content → List Entry → Line → Entry
entry_for shape input before line = record {
  line = line;
  deed = deed_for input line;
  name = deed_name (deed_for input line);
  bytes = bytes_for shape input before line line.act;
}

-- these entries, and behind them those of the lines
abbrev pub past_behind : Shape → Content → List Entry → List Line → List Entry
past_behind shape input before [] = before
past_behind shape input before (line ∷ lines) = past_behind shape input (before ++ entry_for shape input before line ∷ []) lines

-- the history with these lines
abbrev pub past : Shape → Content → List Line → List Entry
past shape input lines = past_behind shape input [] lines
