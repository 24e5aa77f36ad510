-- What is kept is found, and the others stay.
use Rattle.cache.proofs.Theorems.{kept_is_found, others_stay}
use Rattle.cache.proofs.laws.keep_stands.Goals as goal

pub returns : goal.returns
returns c = record { found = kept_is_found; others = others_stay }
