-- The law is proved in Reading.
use Rattle.request.proofs.Reading.{round_trip}
use Rattle.request.proofs.laws.round_trip_stands.Goals as goal

pub returns : goal.returns
returns c = round_trip
