-- The theorem that the contract names.
use Rattle.counterexamples.proofs.Leaks.{all_examined}
use Rattle.counterexamples.proofs.leaking.all_examined_stands.Goals as goal

pub returns : goal.returns
returns c = all_examined
