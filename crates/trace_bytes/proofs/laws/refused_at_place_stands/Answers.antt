-- The law is proved in Standing.
use Rattle.trace_bytes.proofs.Standing.{refused_at_place}
use Rattle.trace_bytes.proofs.laws.refused_at_place_stands.Goals as goal

pub returns : goal.returns
returns c = refused_at_place
