-- What is left of the halving gives what the whole gives; the fuel is any number that suffices.
use Rattle.std.proofs.Common.{◌≡◌, ℕ, ◌-◌, ◌*◌, ◌≤◌, length}
use Rattle.rows.specs.Halving.{bisect, position}
use Rattle.rows.proofs.halve.Given as goal

abbrev pub invariant-loop-low : goal.invariant-loop-low
invariant-loop-low l =
    (l.low ≤ l.high) × (2 * l.high ≤ length l.rows)
    × ((n : ℕ) × (l.high - l.low ≤ n) × (bisect n l.low l.high l.rows l.key ≡ position l.key l.rows))

abbrev pub decreases-loop-low : goal.decreases-loop-low
decreases-loop-low l = l.high - l.low
