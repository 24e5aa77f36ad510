-- The theorem that the contract names.
use Rattle.counterexamples.proofs.Failures.{copies_what_fits}
use Rattle.counterexamples.proofs.useless.copies_what_fits_stands.Goals as goal

pub returns : goal.returns
returns c = copies_what_fits
