-- The theorem that the contract names.
use Rattle.counterexamples.proofs.Failures.{one_count}
use Rattle.counterexamples.proofs.useless.one_count_stands.Goals as goal

pub returns : goal.returns
returns c = one_count
