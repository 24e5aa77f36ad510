-- The theorem that the contract names.
use Rattle.promises.proofs.Effects.{not_seen}
use Rattle.promises.proofs.laws.not_seen_stands.Goals as goal

pub returns : goal.returns
returns c = not_seen
