-- The plan finds the rows of the range.
use Rattle.merge.proofs.Proved.{plan_is_range}
use Rattle.merge.proofs.laws.plan_stands.Goals as goal

pub returns : goal.returns
returns c = plan_is_range
