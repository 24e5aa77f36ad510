-- The theorem that the contract names.
use Rattle.promises.proofs.Effects.{order}
use Rattle.promises.proofs.laws.order_stands.Goals as goal

pub returns : goal.returns
returns c = order
