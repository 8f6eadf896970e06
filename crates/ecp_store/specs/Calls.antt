-- The calls of an object of which some are to fail.
use Rattle.std.specs.Prelude.{ℕ, List, Contains}
use Rattle.ecp_store.specs.Faults.{one_more}

-- the numbers of the calls that are to fail, how many calls there were, and how many of them failed
pub record Calls : Type 0 where
  pub fail : List ℕ
  pub made : ℕ
  pub faults : ℕ

-- no call was made so far
abbrev pub no_calls : List ℕ → Calls
no_calls fail = record { fail = fail; made = 0; faults = 0 }

-- the call that comes next is to fail
abbrev pub IsListed : Calls → Type 0
IsListed calls = Contains calls.fail calls.made

-- the calls after one that did what was asked
abbrev pub after_success : Calls → Calls
after_success calls = record calls { made = one_more calls.made }

-- the calls after one that failed
abbrev pub after_failure : Calls → Calls
after_failure calls = record calls { made = one_more calls.made; faults = one_more calls.faults }
