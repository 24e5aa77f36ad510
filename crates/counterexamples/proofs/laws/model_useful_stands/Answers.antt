-- The theorem that the contract names.
use Rattle.counterexamples.proofs.Framed.{useful}
use Rattle.counterexamples.proofs.laws.model_useful_stands.Goals as goal

pub returns : goal.returns
returns c = useful
