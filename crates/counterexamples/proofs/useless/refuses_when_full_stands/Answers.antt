-- The theorem that the contract names.
use Rattle.counterexamples.proofs.Failures.{refuses_when_full}
use Rattle.counterexamples.proofs.useless.refuses_when_full_stands.Goals as goal

pub returns : goal.returns
returns c = refuses_when_full
