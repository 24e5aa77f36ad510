-- The theorems that the contract names.
use Rattle.cache.proofs.Theorems.{found_is_there, empty_finds_nothing}
use Rattle.cache.proofs.laws.look_up_stands.Goals as goal

pub returns : goal.returns
returns c = record { found = found_is_there; empty = empty_finds_nothing }
