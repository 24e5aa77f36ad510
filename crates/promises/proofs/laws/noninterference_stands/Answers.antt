-- The theorem that the contract names.
use Rattle.promises.proofs.Proved.{noninterference}
use Rattle.promises.proofs.laws.noninterference_stands.Goals as goal

pub returns : goal.returns
returns c = noninterference
