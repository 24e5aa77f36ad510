-- What is written and what is still to come are the whole.
use Rattle.trace_bytes.proofs.Filling.{Filled}
use Rattle.trace_bytes.proofs.numbers.fill.Given as goal

abbrev pub invariant-loop-place : goal.invariant-loop-place
invariant-loop-place l = Filled l.width l.bytes l.initial.numbers l.numbers l.rest l.place
