-- The theorem that the contract names.
use Rattle.model.proofs.Changes.{write_told}
use Rattle.model.proofs.laws.write_told_stands.Goals as goal

pub returns : goal.returns
returns c = write_told
