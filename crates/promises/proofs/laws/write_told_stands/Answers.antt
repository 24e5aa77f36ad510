-- The theorem that the contract names.
use Rattle.promises.proofs.Effects.{write_told}
use Rattle.promises.proofs.laws.write_told_stands.Goals as goal

pub returns : goal.returns
returns c = write_told
