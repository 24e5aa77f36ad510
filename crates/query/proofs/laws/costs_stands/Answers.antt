-- The theorem that the contract names.
use Rattle.query.proofs.Written.{costs_are_rows}
use Rattle.query.proofs.laws.costs_stands.Goals as goal

pub returns : goal.returns
returns c = costs_are_rows
