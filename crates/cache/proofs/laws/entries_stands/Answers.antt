-- Memory holds entries.
use Rattle.cache.proofs.Theorems.{look_up_is_find}
use Rattle.cache.proofs.Stored.{keep_held}
use Rattle.cache.proofs.laws.entries_stands.Goals as goal

pub returns : goal.returns
returns c = record { finds = look_up_is_find; keeps = keep_held }
