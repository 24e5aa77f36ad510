-- The theorem that the contract names.
use Rattle.counterexamples.proofs.Failures.{answers_nothing}
use Rattle.counterexamples.proofs.useless.answers_nothing_stands.Goals as goal

pub returns : goal.returns
returns c = answers_nothing
