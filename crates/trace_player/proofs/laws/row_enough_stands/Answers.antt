-- The law is proved in Sufficient.
use Rattle.trace_player.proofs.Sufficient.{row_enough}
use Rattle.trace_player.proofs.laws.row_enough_stands.Goals as goal

pub returns : goal.returns
returns c = row_enough
