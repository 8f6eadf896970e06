-- The outcomes of the office in the tests.
use Rattle.std.specs.Prelude.{ℕ, ◌==◌, if◌then◌else◌}
use Rattle.ecp_entry.specs.declared.act.Act.TheVariants.{AlreadyLive}
use Rattle.ecp_history.specs.declared.task.Task.{Task}
use Rattle.ecp_rebuild.specs.declared.outcome.Outcome.{Outcome}
use Rattle.ecp_rebuild.specs.declared.outcome.Outcome.TheVariants.{Ended, NoMemory}

-- each block is live, but in one part memory runs out
abbrev pub outcome_of : ℕ → Task → Outcome
outcome_of short t = if t.part == short then NoMemory else Ended (AlreadyLive t.stripe t.row)
