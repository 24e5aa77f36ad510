-- The theorem that the contract names.
use Rattle.promises.proofs.Effects.{only_writers}
use Rattle.promises.proofs.laws.only_writers_stands.Goals as goal

pub returns : goal.returns
returns c = only_writers
