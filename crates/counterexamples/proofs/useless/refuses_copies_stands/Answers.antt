-- The theorem that the contract names.
use Rattle.counterexamples.proofs.Failures.{refuses_copies}
use Rattle.counterexamples.proofs.useless.refuses_copies_stands.Goals as goal

pub returns : goal.returns
returns c = refuses_copies
