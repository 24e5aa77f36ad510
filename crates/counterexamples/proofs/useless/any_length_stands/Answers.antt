-- The theorem that the contract names.
use Rattle.counterexamples.proofs.Failures.{any_length}
use Rattle.counterexamples.proofs.useless.any_length_stands.Goals as goal

pub returns : goal.returns
returns c = any_length
