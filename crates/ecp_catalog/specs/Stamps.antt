-- When each node helped last.
use Rattle.std.specs.Prelude.{◌≡◌, ℕ, ◌+◌, ◌-◌, ◌^◌, ◌<◌, ◌==◌, min, if◌then◌else◌, List, length, slice_index}
use Rattle.std.specs.List.{list_any}
use Rattle.ecp_shape.specs.declared.limits.TheConstants.{MAX_NODES}

-- the stamp of each node, by its number, and the counter
pub record StampsSeen : Type 0 where
  pub stamps : List ℕ
  pub counter : ℕ

-- one more, up to the greatest 64-bit number, where a counter stands still
abbrev pub one_more : ℕ → ℕ
one_more counter = min (counter + 1) (2 ^ 64 - 1)

-- the counter is one more, and these nodes have it as their stamp; all others keep theirs
pub record IsRaised (old new : StampsSeen) (nodes : List ℕ) : Type 0 where
  pub counter : new.counter ≡ one_more old.counter
  pub size : length new.stamps ≡ length old.stamps
  pub stamped : (m : ℕ) → m < MAX_NODES →
      slice_index new.stamps m ≡ (if list_any (λ x. x == m) nodes then new.counter else slice_index old.stamps m)
