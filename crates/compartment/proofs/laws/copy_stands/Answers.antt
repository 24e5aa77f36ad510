-- The theorems that the contract names.
use Rattle.compartment.proofs.Held.{copy_tells, copy_holds}
use Rattle.compartment.proofs.laws.copy_stands.Goals as goal

pub returns : goal.returns
returns c = record { tells = copy_tells; holds = copy_holds }
