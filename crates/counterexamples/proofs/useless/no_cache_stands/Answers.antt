-- The theorem that the contract names.
use Rattle.counterexamples.proofs.Failures.{no_cache}
use Rattle.counterexamples.proofs.useless.no_cache_stands.Goals as goal

pub returns : goal.returns
returns c = no_cache
