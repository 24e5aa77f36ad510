-- The theorem that the contract names.
use Rattle.counterexamples.proofs.Failures.{says_done}
use Rattle.counterexamples.proofs.useless.says_done_stands.Goals as goal

pub returns : goal.returns
returns c = says_done
