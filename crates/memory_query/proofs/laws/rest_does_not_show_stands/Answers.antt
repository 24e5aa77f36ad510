-- The theorem that the contract names.
use Rattle.memory_query.proofs.Resting.{rest_does_not_show}
use Rattle.memory_query.proofs.laws.rest_does_not_show_stands.Goals as goal

pub returns : goal.returns
returns c = rest_does_not_show
