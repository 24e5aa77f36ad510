-- The theorem that the contract names.
use Rattle.model.proofs.Sameness.{rules_alike}
use Rattle.model.proofs.laws.rules_alike_stands.Goals as goal

pub returns : goal.returns
returns c = rules_alike
