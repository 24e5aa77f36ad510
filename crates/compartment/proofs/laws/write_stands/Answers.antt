-- The theorems that the contract names.
use Rattle.compartment.proofs.Held.{write_tells, write_holds}
use Rattle.compartment.proofs.laws.write_stands.Goals as goal

pub returns : goal.returns
returns c = record { tells = write_tells; holds = write_holds }
