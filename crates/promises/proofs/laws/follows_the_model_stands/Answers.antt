-- The theorem that the contract names.
use Rattle.promises.proofs.Proved.{follows_the_model}
use Rattle.promises.proofs.laws.follows_the_model_stands.Goals as goal

pub returns : goal.returns
returns c = follows_the_model
