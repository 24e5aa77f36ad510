-- The theorem that the contract names.
use Rattle.rows.proofs.Keys.{same_rows}
use Rattle.rows.proofs.laws.rows_stands.Goals as goal

pub returns : goal.returns
returns c = same_rows 0
