-- The theorems that the contract names.
use Rattle.compartment.proofs.Held.{delete_tells, delete_holds}
use Rattle.compartment.proofs.laws.delete_stands.Goals as goal

pub returns : goal.returns
returns c = record { tells = delete_tells; holds = delete_holds }
