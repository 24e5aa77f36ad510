-- The law is proved in Sufficient.
use Rattle.trace_player.proofs.Sufficient.{memory_enough}
use Rattle.trace_player.proofs.laws.memory_enough_stands.Goals as goal

pub returns : goal.returns
returns c = memory_enough
