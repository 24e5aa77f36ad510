-- The theorems that the contract names.
use Rattle.query.proofs.More.{more_seen, answers_append}
use Rattle.query.proofs.laws.more_stands.Goals as goal

pub returns : goal.returns
returns c = record { more = more_seen; append = answers_append }
