-- Which journals a program can print.
use Rattle.std.specs.Prelude.{◌^◌, ◌<◌, All, List, length}
use Rattle.ecp_entry.specs.declared.line.Line.{Line}
use Rattle.ecp_entry.specs.JournalText.{line_numbers}

-- each number of the lines, and how many there are, fits 32 bits
pub record ArePrintable (lines : List Line) : Type 0 where
  pub few : length lines < 2 ^ 32
  pub small : All (λ line. All (λ n. n < 2 ^ 32) (line_numbers line)) lines
