-- The theorem that the contract names.
use Rattle.model.proofs.Changes.{delete_effect}
use Rattle.model.proofs.laws.delete_effect_stands.Goals as goal

pub returns : goal.returns
returns c = delete_effect
