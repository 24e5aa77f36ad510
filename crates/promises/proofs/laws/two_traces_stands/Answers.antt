-- The theorem that the contract names.
use Rattle.promises.proofs.Proved.{two_traces}
use Rattle.promises.proofs.laws.two_traces_stands.Goals as goal

pub returns : goal.returns
returns c = two_traces
