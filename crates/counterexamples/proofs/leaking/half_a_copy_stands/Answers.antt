-- The theorem that the contract names.
use Rattle.counterexamples.proofs.Leaks.{half_a_copy}
use Rattle.counterexamples.proofs.leaking.half_a_copy_stands.Goals as goal

pub returns : goal.returns
returns c = half_a_copy
