-- The theorem that the contract names.
use Rattle.model.proofs.Orderly.{caches}
use Rattle.model.proofs.laws.caches_stands.Goals as goal

pub returns : goal.returns
returns c = caches
