-- The theorems that the contract names.
use Rattle.compartment.proofs.Held.{refusal_leaves, copy_refused}
use Rattle.compartment.proofs.laws.refusal_stands.Goals as goal

pub returns : goal.returns
returns c = record { change = refusal_leaves; copy = copy_refused }
