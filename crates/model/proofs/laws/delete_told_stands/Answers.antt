-- The theorem that the contract names.
use Rattle.model.proofs.Changes.{delete_told}
use Rattle.model.proofs.laws.delete_told_stands.Goals as goal

pub returns : goal.returns
returns c = delete_told
