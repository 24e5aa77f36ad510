-- The theorem that the contract names.
use Rattle.store.proofs.Following.{open_holds}
use Rattle.store.proofs.laws.open_stands.Goals as goal

pub returns : goal.returns
returns c = open_holds
