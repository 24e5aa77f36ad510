-- The pieces that are not left are gathered.
use Rattle.std.proofs.Common.{◌≡◌, ◌≤◌, length, drop}
use Rattle.output.specs.Output.{bytes_of}
use Rattle.output.proofs.gather.Given as goal

abbrev pub invariant-loop-left : goal.invariant-loop-left
invariant-loop-left l = record {
  within : l.start ≤ length l.room;
  places : l.left ≤ length l.pieces;
  gathered : drop l.start l.room ≡ bytes_of (drop l.left l.pieces);
}

abbrev pub decreases-loop-left : goal.decreases-loop-left
decreases-loop-left l = l.left
