-- The theorem that the contract names.
use Rattle.counterexamples.proofs.Failures.{keeps_every}
use Rattle.counterexamples.proofs.useless.keeps_every_stands.Goals as goal

pub returns : goal.returns
returns c = keeps_every
