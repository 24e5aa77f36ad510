-- The theorem that the contract names.
use Rattle.promises.proofs.Effects.{again}
use Rattle.promises.proofs.laws.again_stands.Goals as goal

pub returns : goal.returns
returns c = again
