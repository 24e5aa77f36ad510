-- The theorem that the contract names.
use Rattle.model.proofs.Example.{worked}
use Rattle.model.proofs.laws.example_stands.Goals as goal

pub returns : goal.returns
returns c = worked
