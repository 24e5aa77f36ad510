-- The theorem that the contract names.
use Rattle.promises.proofs.Places.{rest_stays}
use Rattle.promises.proofs.laws.rest_stays_stands.Goals as goal

pub returns : goal.returns
returns c = rest_stays
