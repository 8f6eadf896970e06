-- The positions of the history at which attempts came to nothing.
use Rattle.std.specs.Prelude.{◌≡◌, ℕ, ◌+◌, ◌-◌, ◌<◌, Bool, List, [], length, set, take, drop, replicate, All, IsTrue}
use Rattle.std.specs.List.Sorted.{IsStrictlyIncreasing}
use Rattle.ecp_shape.specs.declared.limits.TheConstants.{MAX_ATTEMPTS}
use Rattle.ecp_shape.specs.declared.shape.Shape.{Shape}
use Rattle.ecp_book.specs.Logs.{Log}
use Rattle.ecp_entry.specs.declared.entry.Entry.{Entry}
use Rattle.ecp_entry.specs.Told.{history_of, items_by}
use Rattle.ecp_history.specs.Follows.{passes_at}
use Rattle.ecp_history.specs.table.Tables.{PlainTable}
use Rattle.ecp_plan.specs.declared.voids.Voids.{Voids}

-- the positions, in their order
abbrev pub positions_of : Voids → List ℕ
positions_of voids = take voids.len voids.at

-- Rising positions within a front, each of an entry that passes the test of the table before it and the entry, and none before an entry of
-- this hand
pub record AreVoids (shape : Shape) (test : PlainTable → Entry → Bool) (hand : ℕ) (front : Log) (voids : Voids) : Type 0 where
  pub rising : IsStrictlyIncreasing (positions_of voids)
  pub within : All (λ v. v < length front) (positions_of voids)
  pub each : All (λ v. IsTrue (passes_at shape (history_of front) test v)) (positions_of voids)
  pub late : All (λ v. items_by hand (drop v front) ≡ []) (positions_of voids)
  pub rest : drop voids.len voids.at ≡ replicate (MAX_ATTEMPTS - voids.len) 0

-- the positions, and one more behind them
abbrev pub with_void : Voids → ℕ → Voids
with_void voids at = record { len = voids.len + 1; at = set voids.at voids.len at }
