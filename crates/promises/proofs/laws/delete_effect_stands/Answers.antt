-- The theorem that the contract names.
use Rattle.promises.proofs.Effects.{delete_effect}
use Rattle.promises.proofs.laws.delete_effect_stands.Goals as goal

pub returns : goal.returns
returns c = delete_effect
