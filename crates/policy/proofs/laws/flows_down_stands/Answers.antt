-- The proof of what `flows_down_stands` carries.
use Rattle.policy.proofs.Proved.{flows_down}
use Rattle.policy.proofs.laws.flows_down_stands.Goals as goal

pub returns : goal.returns
returns c = flows_down
