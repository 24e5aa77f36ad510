-- The sum so far and that of the rows left make the whole, modulo 2^64.
use Rattle.std.proofs.Common.{◌≡◌, ◌+◌, ◌%◌, ◌^◌, drop, map}
use Rattle.rows.specs.Rows.{sum}
use Rattle.rows.specs.Halving.{pair_row, rows_of}
use Rattle.rows.proofs.add_up.Given as goal

abbrev pub invariant-loop-amount : goal.invariant-loop-amount
invariant-loop-amount l = (l.sum + sum (map pair_row (drop l.amount-index l.amount-items))) % 2 ^ 64 ≡ sum (rows_of l.rows) % 2 ^ 64
