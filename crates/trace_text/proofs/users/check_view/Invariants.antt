-- What is left of the view decides.
use Rattle.std.proofs.Common.{◌≡◌, drop}
use Rattle.trace_text.specs.Lines.{check_view}
use Rattle.trace_text.proofs.users.check_view.Given as goal

abbrev pub invariant-loop-place : goal.invariant-loop-place
invariant-loop-place l =
    check_view l.compartments l.user (drop l.place l.view) ≡ check_view l.compartments l.user l.view
