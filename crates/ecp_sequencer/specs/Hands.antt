-- The hands of the callers, and the logs that tie each to the keeper of the history.
use Rattle.std.specs.Prelude.{ℕ, ◌+◌, ◌*◌, ◌<◌, ◌≤◌}

-- the hand of a caller's own; its spare ones have the numbers behind it
abbrev pub own_hand : ℕ → ℕ → ℕ
own_hand spare caller = caller * (1 + spare)

-- how many hands so many callers have. Entries of nodes carry this number, which is no hand's
abbrev pub hands_of : ℕ → ℕ → ℕ
hands_of callers spare = callers * (1 + spare)

-- the hand is the caller's own, or a spare one of it
pub record IsHandOf (spare caller hand : ℕ) : Type 0 where
  pub from : own_hand spare caller ≤ hand
  pub within : hand < own_hand spare caller + (1 + spare)

-- the log that a hand adds to, behind those of the history and of the nodes
abbrev pub spoken_log : ℕ → ℕ → ℕ
spoken_log nodes hand = 1 + nodes + 2 * hand

-- the log that it hears, which the sequencer adds to
abbrev pub heard_log : ℕ → ℕ → ℕ
heard_log nodes hand = 1 + nodes + 2 * hand + 1
