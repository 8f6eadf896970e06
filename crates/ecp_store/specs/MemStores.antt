-- What contracts see of a store that is kept in memory.
use Rattle.std.specs.Prelude.{ℕ, ◌-◌, ◌^◌, ◌<◌, ◌==◌, Bool, ◌&&◌, nat_lt, IsTrue, List, length, Option, Result, Ok, Err}
use Rattle.std.proofs.Common.{rules}
use Rattle.std.specs.Map.{lookup}
use Rattle.ecp_store.specs.declared.key.Key.{Key}
use Rattle.ecp_store.specs.declared.keep_fault.KeepFault.{KeepFault}
use Rattle.ecp_store.specs.declared.keep_fault.KeepFault.TheVariants.{Failed, NoMemory}
use Rattle.ecp_store.specs.Calls.{Calls, after_success, after_failure}

-- its blocks by their keys, in some order; how many bytes it served; and its calls
pub record MemStoreState : Type 0 where
  pub blocks : List (Key × List ℕ)
  pub served : ℕ
  pub calls : Calls

-- whether two keys are one
abbrev pub same_key : Key → Key → Bool
same_key a b = a.stripe == b.stripe && (a.row == b.row && a.serial == b.serial)

-- the bytes of the block with this key
abbrev pub block_at : List (Key × List ℕ) → Key → Option (List ℕ)
block_at blocks key = lookup (same_key key) blocks

-- whether no call fails, and none failed so often that the count stands still
abbrev pub no_call_fails : Calls → Bool
no_call_fails calls = length calls.fail == 0 && nat_lt calls.faults (2 ^ 64 - 1)

-- so their count of faults is below its last value
pub no_call_fails_counts : (calls : Calls) → IsTrue (no_call_fails calls) → calls.faults < 2 ^ 64 - 1
no_call_fails_counts calls sure = search rules

-- the calls after a keep with this answer: want of memory is no failure
abbrev pub after_keep : Result (Unit {0}) KeepFault → Calls → Calls
after_keep (Ok _) calls = after_success calls
after_keep (Err NoMemory) calls = after_success calls
after_keep (Err Failed) calls = after_failure calls
