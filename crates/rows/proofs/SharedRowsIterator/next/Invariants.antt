-- What is passed over is not shared.
use Rattle.std.proofs.Common.{◌≡◌, length}
use Rattle.rows.specs.Passes.{shared_rows}
use Rattle.rows.proofs.SharedRowsIterator.next.Given as goal

abbrev pub invariant-loop-self : goal.invariant-loop-self
invariant-loop-self l = shared_rows l.self ≡ shared_rows l.initial.self

abbrev pub decreases-loop-self : goal.decreases-loop-self
decreases-loop-self l = length l.self.rows.now
