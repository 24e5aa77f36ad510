-- The theorem that the contract names.
use Rattle.counterexamples.proofs.Failures.{refuses_all}
use Rattle.counterexamples.proofs.useless.refuses_all_stands.Goals as goal

pub returns : goal.returns
returns c = refuses_all
