-- The theorem that the contract names.
use Rattle.model.proofs.Changes.{copy_effect}
use Rattle.model.proofs.laws.copy_effect_stands.Goals as goal

pub returns : goal.returns
returns c = copy_effect
