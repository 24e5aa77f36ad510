-- The proof of what `compartments_apart_stands` carries.
use Rattle.policy.proofs.Proved.{compartments_apart}
use Rattle.policy.proofs.laws.compartments_apart_stands.Goals as goal

pub returns : goal.returns
returns c = compartments_apart
