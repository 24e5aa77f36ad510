-- The theorem that the contract names.
use Rattle.promises.proofs.Effects.{write_effect}
use Rattle.promises.proofs.laws.write_effect_stands.Goals as goal

pub returns : goal.returns
returns c = write_effect
