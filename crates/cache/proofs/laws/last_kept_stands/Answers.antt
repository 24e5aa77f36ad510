-- Of what was kept the last is found.
use Rattle.cache.proofs.Theorems.{last_kept, found_was_kept}
use Rattle.cache.proofs.laws.last_kept_stands.Goals as goal

pub returns : goal.returns
returns c = record { last = last_kept; among = found_was_kept }
