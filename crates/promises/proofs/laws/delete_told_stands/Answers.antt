-- The theorem that the contract names.
use Rattle.promises.proofs.Effects.{delete_told}
use Rattle.promises.proofs.laws.delete_told_stands.Goals as goal

pub returns : goal.returns
returns c = delete_told
