-- The theorem that the contract names.
use Rattle.counterexamples.proofs.Leaks.{one_cache}
use Rattle.counterexamples.proofs.leaking.one_cache_stands.Goals as goal

pub returns : goal.returns
returns c = one_cache
