-- The theorem that the contract names.
use Rattle.memory_query.proofs.Staying.{compartments_stay}
use Rattle.memory_query.proofs.laws.compartments_stay_stands.Goals as goal

pub returns : goal.returns
returns c = compartments_stay
