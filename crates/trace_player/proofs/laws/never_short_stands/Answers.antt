-- The law is proved in Sufficient.
use Rattle.trace_player.proofs.Sufficient.{never_short}
use Rattle.trace_player.proofs.laws.never_short_stands.Goals as goal

pub returns : goal.returns
returns c = never_short
