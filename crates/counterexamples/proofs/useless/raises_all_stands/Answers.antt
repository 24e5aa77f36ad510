-- The theorem that the contract names.
use Rattle.counterexamples.proofs.Failures.{raises_all}
use Rattle.counterexamples.proofs.useless.raises_all_stands.Goals as goal

pub returns : goal.returns
returns c = raises_all
