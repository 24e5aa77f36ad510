-- The theorem that the contract names.
use Rattle.counterexamples.proofs.Failures.{long_row_first}
use Rattle.counterexamples.proofs.useless.long_row_first_stands.Goals as goal

pub returns : goal.returns
returns c = long_row_first
