-- The theorem that the contract names.
use Rattle.model.proofs.Changes.{refusals_change_nothing}
use Rattle.model.proofs.laws.refusals_stands.Goals as goal

pub returns : goal.returns
returns c = refusals_change_nothing
