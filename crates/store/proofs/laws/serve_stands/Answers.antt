-- The theorems that the contract names.
use Rattle.store.proofs.Serving.{serve_follows}
use Rattle.store.proofs.Refused.{refusal_leaves}
use Rattle.store.proofs.laws.serve_stands.Goals as goal

pub returns : goal.returns
returns c = record { follows = serve_follows; refusals = refusal_leaves }
