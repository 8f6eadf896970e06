use Rattle.std.proofs.Common.{◌≡◌, ℕ, ◌<◌, [], Some, vec_len, slice_get}
use Rattle.ecp_book.specs.Logs.{empty_log}
use Rattle.ecp_book.specs.Rules.{opener_of}
use Rattle.ecp_book.proofs.book.Book.open.Given as goal

abbrev pub invariant-loop-log : goal.invariant-loop-log
invariant-loop-log g l = record {
  seat : l.seat.table_id ≡ g.N.Names.book;
  view : l.seat.me ≡ (opener_of l.log, []);
  count : vec_len l.keepers ≡ l.log;
  empty : (m : ℕ) → m < l.log → slice_get l.keepers.items m ≡ Some (empty_log m);
}
