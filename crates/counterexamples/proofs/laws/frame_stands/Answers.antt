-- The theorem that the contract names.
use Rattle.counterexamples.proofs.Framed.{fits}
use Rattle.counterexamples.proofs.laws.frame_stands.Goals as goal

pub returns : goal.returns
returns c = fits
