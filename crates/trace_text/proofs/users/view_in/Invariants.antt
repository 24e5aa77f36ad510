-- The view so far and the numbers still to come are what the line says.
use Rattle.trace_text.proofs.Viewing.{Viewed}
use Rattle.trace_text.proofs.users.view_in.Given as goal

abbrev pub invariant-loop-place : goal.invariant-loop-place
invariant-loop-place l = Viewed l.line.bytes.now l.view.items l.place
