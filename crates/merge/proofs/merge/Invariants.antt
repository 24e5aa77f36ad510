-- What is left of the merge gives what the whole gives.
use Rattle.std.proofs.Common.{◌≡◌, ◌*◌, ◌≤◌, length, reverse, map}
use Rattle.rows.specs.Halving.{pair_row}
use Rattle.merge.specs.Numbers.{merging}
use Rattle.merge.proofs.merge.Given as goal

abbrev pub invariant-loop-row : goal.invariant-loop-row
invariant-loop-row l = record {
  count : 2 * l.left.count ≤ length l.destination;
  total : 2 * l.left.total ≤ length l.destination;
  same : merging l.left.total (reverse (map pair_row l.waiting)) l.left l.destination
      ≡ merging l.initial.left.total (reverse (map pair_row l.initial.waiting)) l.initial.left l.initial.destination;
}

abbrev pub decreases-loop-row : goal.decreases-loop-row
decreases-loop-row l = l.left.total
