-- What is left of the view decides.
use Rattle.std.proofs.Common.{◌≡◌, length}
use Rattle.policy.specs.Views.{distinct_below}
use Rattle.policy.proofs.contract.judge.is_distinct.Given as goal

abbrev pub invariant-loop-view : goal.invariant-loop-view
invariant-loop-view l = distinct_below l.compartments l.view ≡ distinct_below l.compartments l.fn.view

abbrev pub decreases-loop-view : goal.decreases-loop-view
decreases-loop-view l = length l.view
