-- The theorem that the contract names.
use Rattle.counterexamples.proofs.Failures.{seven_kept}
use Rattle.counterexamples.proofs.useless.seven_kept_stands.Goals as goal

pub returns : goal.returns
returns c = seven_kept
