-- The theorem that the contract names.
use Rattle.model.proofs.Changes.{either_order}
use Rattle.model.proofs.laws.either_order_stands.Goals as goal

pub returns : goal.returns
returns c = either_order
