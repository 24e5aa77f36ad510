-- The theorem that the contract names.
use Rattle.model.proofs.Answering.{short_rows}
use Rattle.model.proofs.laws.short_rows_stands.Goals as goal

pub returns : goal.returns
returns c = short_rows
