-- The theorem that the contract names.
use Rattle.promises.proofs.Orders.{either_order}
use Rattle.promises.proofs.laws.either_order_stands.Goals as goal

pub returns : goal.returns
returns c = either_order
