-- A till whose log has the payments, for the worked caller in the tests.
use Rattle.std.specs.Prelude.{ℕ, slice_index}
use Rattle.std.specs.List.{sum_by}
use Rattle.ecp_book.specs.Logs.{Log}

-- the money that these payments bring
abbrev pub money_of : Log → ℕ
money_of items = sum_by (λ item. slice_index item 0) items
