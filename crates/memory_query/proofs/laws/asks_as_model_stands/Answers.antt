-- The theorem that the contract names.
use Rattle.memory_query.proofs.Tied.{queries_as_model}
use Rattle.memory_query.proofs.laws.asks_as_model_stands.Goals as goal

pub returns : goal.returns
returns c = queries_as_model
