-- The theorem that the contract names.
use Rattle.model.proofs.Changes.{absent_users}
use Rattle.model.proofs.laws.absent_users_stands.Goals as goal

pub returns : goal.returns
returns c = absent_users
