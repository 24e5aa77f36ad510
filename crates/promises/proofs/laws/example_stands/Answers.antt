-- The theorem that the contract names.
use Rattle.promises.proofs.Example.{worked_on_memory}
use Rattle.promises.proofs.laws.example_stands.Goals as goal

pub returns : goal.returns
returns c = worked_on_memory
