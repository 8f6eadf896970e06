-- Logs, and what is known of one.
use Rattle.std.specs.Prelude.{ℕ, ◌+◌, List, []}
use Rattle.atomic_table.specs.Seated.{TableId}

-- the items of a log, the oldest first; an item is a list of whole numbers
abbrev pub Log : Type 0
Log = List (List ℕ)

-- what a keeper or a tag knows: the number of its log, and a list of items. A keeper's is the log's whole list, and a tag's is a prefix of that
pub record Known : Type 0 where
  pub log : ℕ
  pub items : Log

-- the log of a service that has the items of its history
abbrev pub history_log : ℕ
history_log = 0

-- the log of a node
abbrev pub node_log : ℕ → ℕ
node_log node = node + 1

-- how many logs a book has
abbrev pub logs_of : TableId → ℕ
logs_of book = book.words

-- an empty log
abbrev pub empty_log : ℕ → Known
empty_log log = record { log = log; items = [] }
