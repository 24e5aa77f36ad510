-- The theorem that the contract names.
use Rattle.counterexamples.proofs.Leaks.{one_capacity}
use Rattle.counterexamples.proofs.leaking.one_capacity_stands.Goals as goal

pub returns : goal.returns
returns c = one_capacity
