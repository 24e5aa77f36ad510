-- The proof of what `policies_valid_stands` carries.
use Rattle.policy.proofs.Proved.{policies_valid}
use Rattle.policy.proofs.laws.policies_valid_stands.Goals as goal

pub returns : goal.returns
returns c = policies_valid
