-- Where the pass stands, and what it has written.
use Rattle.rows.specs.Halving.{rows_of}
use Rattle.rows.specs.Numbers.{intersection}
use Rattle.rows.specs.Passes.{shared_rows}
use Rattle.rows.proofs.Passes.{Passed}
use Rattle.rows.proofs.merge.Given as goal

abbrev pub invariant-loop-row : goal.invariant-loop-row
invariant-loop-row l =
    (goal.iterator-loop-row).can_next l.row-iterator
    × (goal.iterator-loop-row).is_finite l.row-iterator
    × Passed (intersection (rows_of l.a) (rows_of l.b)) (shared_rows l.row-iterator) l.initial.out l.written l.out
