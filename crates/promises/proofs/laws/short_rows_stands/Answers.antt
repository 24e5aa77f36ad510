-- The theorem that the contract names.
use Rattle.promises.proofs.Effects.{short_rows}
use Rattle.promises.proofs.laws.short_rows_stands.Goals as goal

pub returns : goal.returns
returns c = short_rows
