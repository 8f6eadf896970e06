-- What a store holds, and what its calls change of it.
use Rattle.std.specs.Prelude.{◌≡◌, ◌≢◌, ℕ, ◌+◌, ◌-◌, ◌^◌, ◌≤◌, min, List, length, take, drop, Option, Result, Ok, Err, IfSome, MatchOption}
use Rattle.ecp_store.specs.declared.key.Key.{Key}
use Rattle.ecp_store.specs.declared.keep_fault.KeepFault.{KeepFault}
use Rattle.ecp_store.specs.declared.keep_fault.KeepFault.TheVariants.{Failed, NoMemory}
use Rattle.ecp_store.specs.Faults.{Rose}

-- the bytes at each key, where there are any
abbrev pub Held : Type 0
Held = Key → Option (List ℕ)

-- the key has this, and each other key has what it had
pub record Puts (key : Key) (bytes : Option (List ℕ)) (before after : Held) : Type 0 where
  pub here : after key ≡ bytes
  pub others : (other : Key) → other ≢ key → after other ≡ before other

-- each key has what it had
abbrev pub Stays : Held → Held → Type 0
Stays before after = (key : Key) → after key ≡ before key

-- so many bytes from an offset on
abbrev pub part : List ℕ → ℕ → ℕ → List ℕ
part bytes off len = take len (drop off bytes)

-- there are bytes, and so many of them from the offset on
abbrev pub HasPart : Option (List ℕ) → ℕ → ℕ → Type 0
HasPart held off len = MatchOption held ⊥ (λ bytes. off + len ≤ length bytes)

-- these are the bytes from the offset on
abbrev pub IsPart : Option (List ℕ) → ℕ → List ℕ → Type 0
IsPart held off read = IfSome held (λ bytes. read ≡ part bytes off (length read))

-- how many bytes were served after so many more; the count stands still at its last value
abbrev pub and_served : ℕ → ℕ → ℕ
and_served served more = min (served + more) (2 ^ 64 - 1)

-- how a keep counts its faults: the count rose where it failed, and stayed else; want of memory is no fault
abbrev pub KeepCounts : Result (Unit {0}) KeepFault → ℕ → ℕ → Type 0
KeepCounts (Ok _) before after = after ≡ before
KeepCounts (Err NoMemory) before after = after ≡ before
KeepCounts (Err Failed) before after = (before ≤ after) × Rose before after
