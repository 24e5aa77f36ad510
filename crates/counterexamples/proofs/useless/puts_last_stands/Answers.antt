-- The theorem that the contract names.
use Rattle.counterexamples.proofs.Failures.{puts_last}
use Rattle.counterexamples.proofs.useless.puts_last_stands.Goals as goal

pub returns : goal.returns
returns c = puts_last
