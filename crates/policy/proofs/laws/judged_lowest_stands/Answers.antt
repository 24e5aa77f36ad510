-- The proof of what `judged_lowest_stands` carries.
use Rattle.policy.proofs.Proved.{judged_lowest}
use Rattle.policy.proofs.laws.judged_lowest_stands.Goals as goal

pub returns : goal.returns
returns c = judged_lowest
