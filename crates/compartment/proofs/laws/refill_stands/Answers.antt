-- The theorems that the contract names.
use Rattle.compartment.proofs.Held.{refill_tells, refill_leaves, refill_holds, refilled_holds}
use Rattle.compartment.proofs.laws.refill_stands.Goals as goal

pub returns : goal.returns
returns c = record { tells = refill_tells; leaves = refill_leaves; holds = refill_holds; refilled = refilled_holds }
