-- The theorem that the contract names.
use Rattle.model.proofs.Changes.{write_effect}
use Rattle.model.proofs.laws.write_effect_stands.Goals as goal

pub returns : goal.returns
returns c = write_effect
