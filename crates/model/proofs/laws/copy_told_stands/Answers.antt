-- The theorem that the contract names.
use Rattle.model.proofs.Changes.{copy_told}
use Rattle.model.proofs.laws.copy_told_stands.Goals as goal

pub returns : goal.returns
returns c = copy_told
