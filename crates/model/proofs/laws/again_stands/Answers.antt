-- The theorem that the contract names.
use Rattle.model.proofs.Answering.{again}
use Rattle.model.proofs.laws.again_stands.Goals as goal

pub returns : goal.returns
returns c = again
