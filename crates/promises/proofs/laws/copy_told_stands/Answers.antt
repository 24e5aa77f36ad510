-- The theorem that the contract names.
use Rattle.promises.proofs.Effects.{copy_told}
use Rattle.promises.proofs.laws.copy_told_stands.Goals as goal

pub returns : goal.returns
returns c = copy_told
