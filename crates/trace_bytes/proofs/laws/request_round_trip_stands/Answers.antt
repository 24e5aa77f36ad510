-- The law is proved in Writing.
use Rattle.trace_bytes.proofs.Writing.{request_round_trip}
use Rattle.trace_bytes.proofs.laws.request_round_trip_stands.Goals as goal

pub returns : goal.returns
returns c = request_round_trip
