-- The theorem that the contract names.
use Rattle.model.proofs.Example.{soundness_needed}
use Rattle.model.proofs.laws.soundness_needed_stands.Goals as goal

pub returns : goal.returns
returns c = soundness_needed
