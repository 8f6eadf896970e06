use Rattle.ecp_history.proofs.StripeLaws.{stripe_stays}
use Rattle.ecp_history.proofs.laws.stripes_stay.Goals as goal

pub returns : goal.returns
returns c = record {
  there = λ shape told history more s legal there. (stripe_stays shape told history more s legal there).0;
  same_data = λ shape told history more s legal there. (stripe_stays shape told history more s legal there).1;
}
