-- The law is proved in Faults.
use Rattle.request.proofs.Faults.{lowest_fault}
use Rattle.request.proofs.laws.lowest_fault_stands.Goals as goal

pub returns : goal.returns
returns c = lowest_fault
