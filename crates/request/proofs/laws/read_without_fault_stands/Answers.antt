-- The law is proved in Faults.
use Rattle.request.proofs.Faults.{read_without_fault}
use Rattle.request.proofs.laws.read_without_fault_stands.Goals as goal

pub returns : goal.returns
returns c = read_without_fault
