-- The theorem that the contract names.
use Rattle.counterexamples.proofs.Leaks.{one_of_each_key}
use Rattle.counterexamples.proofs.leaking.one_of_each_key_stands.Goals as goal

pub returns : goal.returns
returns c = one_of_each_key
