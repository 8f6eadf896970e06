use Rattle.ecp_code.proofs.BlockLaws.{IsData-blocks}
use Rattle.ecp_code.proofs.DataLaws.{row-data}
use Rattle.ecp_code.proofs.laws.data_row_law.Goals as goal

pub returns-clause-row : goal.returns-clause-row
returns-clause-row c = row-data

pub returns-clause-filled : goal.returns-clause-filled
returns-clause-filled c = IsData-blocks
