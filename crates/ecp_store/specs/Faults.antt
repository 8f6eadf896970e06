-- Counts of faults. A count never falls, and stands still at its last value, 2 ^ 64 - 1.
use Rattle.std.specs.Prelude.{◌≡◌, ℕ, ◌+◌, ◌-◌, ◌^◌, ◌<◌, ◌≤◌, if◌then◌else◌, nat_lt, Result, OnOk, OnErr}

-- the count is higher than before, unless it stands at its last value
abbrev pub Rose : ℕ → ℕ → Type 0
Rose before after = after < 2 ^ 64 - 1 → before < after

-- the call failed only where the count rose
abbrev pub HasCause : {T E : Type 0} → Result T E → ℕ → ℕ → Type 0
HasCause result before after = OnErr result (Rose before after)

-- how calls count their faults: the count never falls, it stays where they are `Ok`, and it rose where they failed
pub record Counts {T E : Type 0} (result : Result T E) (before after : ℕ) : Type 0 where
  pub never_falls : before ≤ after
  pub kept : OnOk result (after ≡ before)
  pub cause : HasCause result before after

-- a count after one more, which stands still at its last value
abbrev pub one_more : ℕ → ℕ
one_more n = if nat_lt n (2 ^ 64 - 1) then n + 1 else n
