-- The theorem that the contract names.
use Rattle.counterexamples.proofs.Failures.{raises_first}
use Rattle.counterexamples.proofs.useless.raises_first_stands.Goals as goal

pub returns : goal.returns
returns c = raises_first
