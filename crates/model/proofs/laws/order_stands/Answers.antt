-- The theorem that the contract names.
use Rattle.model.proofs.Orderly.{ordered}
use Rattle.model.proofs.laws.order_stands.Goals as goal

pub returns : goal.returns
returns c = ordered
