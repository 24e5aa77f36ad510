-- The theorem that the contract names.
use Rattle.model.proofs.Interference.{noninterference}
use Rattle.model.proofs.laws.noninterference_stands.Goals as goal

pub returns : goal.returns
returns c = noninterference
