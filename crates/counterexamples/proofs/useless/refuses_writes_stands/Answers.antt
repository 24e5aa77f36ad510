-- The theorem that the contract names.
use Rattle.counterexamples.proofs.Failures.{refuses_writes}
use Rattle.counterexamples.proofs.useless.refuses_writes_stands.Goals as goal

pub returns : goal.returns
returns c = refuses_writes
