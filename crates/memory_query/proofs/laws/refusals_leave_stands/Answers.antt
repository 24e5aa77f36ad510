-- The theorem that the contract names.
use Rattle.memory_query.proofs.Refused.{refusals_leave}
use Rattle.memory_query.proofs.laws.refusals_leave_stands.Goals as goal

pub returns : goal.returns
returns c = refusals_leave
