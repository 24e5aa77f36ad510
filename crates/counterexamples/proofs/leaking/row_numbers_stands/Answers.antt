-- The theorem that the contract names.
use Rattle.counterexamples.proofs.Leaks.{row_numbers}
use Rattle.counterexamples.proofs.leaking.row_numbers_stands.Goals as goal

pub returns : goal.returns
returns c = row_numbers
