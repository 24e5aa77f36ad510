-- As many rows more as new keys.
use Rattle.merge.proofs.Proved.{new_keys_counts, counts_after}
use Rattle.merge.proofs.laws.new_keys_stands.Goals as goal

pub returns : goal.returns
returns c = record { all = new_keys_counts; range = counts_after }
