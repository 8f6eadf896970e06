use Rattle.ecp_code.proofs.DecodeLaws.{row-decoded}
use Rattle.ecp_code.proofs.laws.decoding_law.Goals as goal

pub returns : goal.returns
returns c = row-decoded
