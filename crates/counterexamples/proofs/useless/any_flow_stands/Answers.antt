-- The theorem that the contract names.
use Rattle.counterexamples.proofs.Failures.{any_flow}
use Rattle.counterexamples.proofs.useless.any_flow_stands.Goals as goal

pub returns : goal.returns
returns c = any_flow
