-- The proof of what `flows_both_ways_stands` carries.
use Rattle.policy.proofs.Proved.{flows_both_ways}
use Rattle.policy.proofs.laws.flows_both_ways_stands.Goals as goal

pub returns : goal.returns
returns c = flows_both_ways
