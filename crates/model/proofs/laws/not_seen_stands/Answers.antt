-- The theorem that the contract names.
use Rattle.model.proofs.Answering.{not_seen_told}
use Rattle.model.proofs.laws.not_seen_stands.Goals as goal

pub returns : goal.returns
returns c = not_seen_told
