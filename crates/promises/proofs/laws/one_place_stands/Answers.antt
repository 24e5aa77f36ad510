-- The theorem that the contract names.
use Rattle.promises.proofs.Places.{one_place}
use Rattle.promises.proofs.laws.one_place_stands.Goals as goal

pub returns : goal.returns
returns c = one_place
