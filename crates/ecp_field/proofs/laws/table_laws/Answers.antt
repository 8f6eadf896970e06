-- Each clause was computed, or follows from what was.
use Rattle.ecp_field.proofs.Computed.{power-log, log_of-lt}
use Rattle.ecp_field.proofs.FieldLaws.{power_of_two-is}
use Rattle.ecp_field.proofs.laws.table_laws.Goals as goal

pub returns-clause-powers : goal.returns-clause-powers
returns-clause-powers c = power_of_two-is

pub returns-clause-logarithms : goal.returns-clause-logarithms
returns-clause-logarithms c = power-log

pub returns-clause-in_range : goal.returns-clause-in_range
returns-clause-in_range c = log_of-lt
