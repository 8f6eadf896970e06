use Rattle.std.proofs.Common.{List, ap}
use Rattle.std.specs.Prelude.{find, bytes_eq, nat_lt, option_and_then, if◌then◌else◌, Some, None}
use Rattle.ecp_history.specs.declared.table.file.File.{File}
use Rattle.ecp_history.specs.table.Tables.{block_count, file_block}
use Rattle.ecp_catalog.proofs.laws.files_are_the_tables.Goals as goal

pub returns : goal.returns
returns c = record {
  file = λ shape told c history name is. ap (λ (fs : List File). find (λ f. bytes_eq f.name name) fs) is.files;
  block = λ shape told c history name j is.
      ap (λ (fs : List File). option_and_then (λ f. if nat_lt j (block_count shape f) then Some (file_block shape f j) else None) (find (λ f. bytes_eq f.name name) fs)) is.files;
}
