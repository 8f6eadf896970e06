use Rattle.std.proofs.Common.{inr}
use Rattle.ecp_history.proofs.laws.live_rows_suffice.Goals as goal

pub returns : goal.returns
returns c = λ shape t s r enough. inr enough
