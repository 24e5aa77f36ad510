-- The law is proved in Reading.
use Rattle.request.proofs.Reading.{reads_what_stands}
use Rattle.request.proofs.laws.reads_what_stands.Goals as goal

pub returns : goal.returns
returns c = reads_what_stands
