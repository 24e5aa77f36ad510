-- The theorem that the contract names.
use Rattle.counterexamples.proofs.Failures.{copies_nothing}
use Rattle.counterexamples.proofs.useless.copies_nothing_stands.Goals as goal

pub returns : goal.returns
returns c = copies_nothing
