-- The theorem that the contract names.
use Rattle.counterexamples.proofs.Failures.{serves_absent}
use Rattle.counterexamples.proofs.useless.serves_absent_stands.Goals as goal

pub returns : goal.returns
returns c = serves_absent
