-- The theorem that the contract names.
use Rattle.counterexamples.proofs.Failures.{none_examined}
use Rattle.counterexamples.proofs.useless.none_examined_stands.Goals as goal

pub returns : goal.returns
returns c = none_examined
