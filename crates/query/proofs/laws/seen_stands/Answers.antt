-- The theorems that the contract names.
use Rattle.query.proofs.Seen.{only_seen}
use Rattle.query.proofs.Written.{lent_is_seen}
use Rattle.query.proofs.laws.seen_stands.Goals as goal

pub returns : goal.returns
returns c = record { only = only_seen; lent = lent_is_seen }
