-- The theorem that the contract names.
use Rattle.counterexamples.proofs.Leaks.{looking_first}
use Rattle.counterexamples.proofs.leaking.looking_first_stands.Goals as goal

pub returns : goal.returns
returns c = looking_first
