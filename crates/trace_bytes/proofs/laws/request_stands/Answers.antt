-- The law is proved in Standing.
use Rattle.trace_bytes.proofs.Standing.{request_stands}
use Rattle.trace_bytes.proofs.laws.request_stands.Goals as goal

pub returns : goal.returns
returns c = request_stands
