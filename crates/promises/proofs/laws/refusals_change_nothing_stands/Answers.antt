-- The theorem that the contract names.
use Rattle.store.proofs.Refused.{refusal_leaves}
use Rattle.promises.proofs.laws.refusals_change_nothing_stands.Goals as goal

pub returns : goal.returns
returns c = refusal_leaves
