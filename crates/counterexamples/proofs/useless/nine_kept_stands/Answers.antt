-- The theorem that the contract names.
use Rattle.counterexamples.proofs.Failures.{nine_kept}
use Rattle.counterexamples.proofs.useless.nine_kept_stands.Goals as goal

pub returns : goal.returns
returns c = nine_kept
