-- The theorem that the contract names.
use Rattle.counterexamples.proofs.Failures.{empties_caches}
use Rattle.counterexamples.proofs.useless.empties_caches_stands.Goals as goal

pub returns : goal.returns
returns c = empties_caches
