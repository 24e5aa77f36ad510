-- The theorem that the contract names.
use Rattle.counterexamples.proofs.Leaks.{some_idle_count}
use Rattle.counterexamples.proofs.leaking.some_idle_count_stands.Goals as goal

pub returns : goal.returns
returns c = some_idle_count
