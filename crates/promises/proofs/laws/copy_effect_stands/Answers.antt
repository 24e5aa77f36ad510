-- The theorem that the contract names.
use Rattle.promises.proofs.Effects.{copy_effect}
use Rattle.promises.proofs.laws.copy_effect_stands.Goals as goal

pub returns : goal.returns
returns c = copy_effect
