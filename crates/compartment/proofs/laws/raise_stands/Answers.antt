-- The theorems that the contract names.
use Rattle.compartment.proofs.Held.{raise_tells, raise_holds}
use Rattle.compartment.proofs.laws.raise_stands.Goals as goal

pub returns : goal.returns
returns c = record { tells = raise_tells; holds = raise_holds }
