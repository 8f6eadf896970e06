-- What a command took of its input. Each word takes the members of the source's type.
use Rattle.std.specs.Prelude.{ℕ, ◌≡◌, ◌+◌, ◌≤◌, IsTrue, List, [], length}
use Rattle.ecp_command.specs.Input.Accepted.{Content, IsAccepted}
use Rattle.ecp_store.specs.declared.source.Source.{Ghosts}
use Rattle.ecp_shape.specs.declared.limits.TheConstants.{MAX_INPUT}

-- it was read to its end without a failure and gave these bytes: where it tells, what it had left
pub record IsRead {R : Type 0} (g : Ghosts R) (old new : R) (bytes : List ℕ) : Type 0 where
  pub given : IsTrue g.tells → bytes ≡ g.left old
  pub whole : IsTrue g.tells → g.left new ≡ []
  pub short : length bytes ≤ MAX_INPUT
  pub sound : g.faults new ≡ g.faults old

-- it was read to its end, and gave an accepted input with this content
pub record IsScript {R : Type 0} (g : Ghosts R) (old new : R) (content : Content) : Type 0 where
  pub bytes : List ℕ
  pub read : IsRead g old new bytes
  pub accepted : IsAccepted bytes content

-- where it tells, it gave one byte more than an input may have
abbrev pub GaveTooMuch : {R : Type 0} → Ghosts R → R → R → Type 0
GaveTooMuch g old new = IsTrue g.tells → length (g.left old) ≡ length (g.left new) + (MAX_INPUT + 1)

-- where it tells, it gave at most one byte more than an input may have
abbrev pub GaveFew : {R : Type 0} → Ghosts R → R → R → Type 0
GaveFew g old new = IsTrue g.tells → length (g.left old) ≤ length (g.left new) + (MAX_INPUT + 1)
