-- The theorem that the contract names.
use Rattle.counterexamples.proofs.Failures.{deletes_two}
use Rattle.counterexamples.proofs.useless.deletes_two_stands.Goals as goal

pub returns : goal.returns
returns c = deletes_two
