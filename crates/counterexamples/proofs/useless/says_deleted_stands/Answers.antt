-- The theorem that the contract names.
use Rattle.counterexamples.proofs.Failures.{says_deleted}
use Rattle.counterexamples.proofs.useless.says_deleted_stands.Goals as goal

pub returns : goal.returns
returns c = says_deleted
