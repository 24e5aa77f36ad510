-- The theorem that the contract names.
use Rattle.counterexamples.proofs.Leaks.{allowed_if_empty}
use Rattle.counterexamples.proofs.leaking.allowed_if_empty_stands.Goals as goal

pub returns : goal.returns
returns c = allowed_if_empty
