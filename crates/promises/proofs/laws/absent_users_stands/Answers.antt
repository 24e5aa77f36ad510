-- The theorem that the contract names.
use Rattle.promises.proofs.Effects.{absent_users}
use Rattle.promises.proofs.laws.absent_users_stands.Goals as goal

pub returns : goal.returns
returns c = absent_users
