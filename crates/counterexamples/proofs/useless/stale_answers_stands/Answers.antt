-- The theorem that the contract names.
use Rattle.counterexamples.proofs.Failures.{stale_answers}
use Rattle.counterexamples.proofs.useless.stale_answers_stands.Goals as goal

pub returns : goal.returns
returns c = stale_answers
