-- What is written is what the reason says.
use Rattle.trace_text.proofs.fault.ReasonDisplay.fmt.Goals as goal

pub returns-in-SeesNothing-clause-writes : goal.returns-in-SeesNothing-clause-writes
returns-in-SeesNothing-clause-writes g c = rw c.in-SeesNothing.is c.write-in-SeesNothing.ensures.writes

pub returns-in-SeenTwice-clause-writes : goal.returns-in-SeenTwice-clause-writes
returns-in-SeenTwice-clause-writes g c = rw c.in-SeenTwice.is c.write-in-SeenTwice.ensures.writes
