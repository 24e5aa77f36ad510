-- The theorem that the contract names.
use Rattle.model.proofs.Changes.{only_writers}
use Rattle.model.proofs.laws.only_writers_stands.Goals as goal

pub returns : goal.returns
returns c = only_writers
