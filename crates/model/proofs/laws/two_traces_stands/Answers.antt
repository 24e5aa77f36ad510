-- The theorem that the contract names.
use Rattle.model.proofs.Interference.{two_traces}
use Rattle.model.proofs.laws.two_traces_stands.Goals as goal

pub returns : goal.returns
returns c = two_traces
