-- A turn writes one of the rows that are still to come.
use Rattle.std.proofs.Common.{arith}
use Rattle.rows.proofs.Passes.{length_shared, still_room, passed_one, passed_all}
use Rattle.rows.proofs.merge.Goals as goal

pub set_row-requires : goal.set_row-requires
set_row-requires c =
    let n = still_room _ _ _ _ _ _ (rw c.in-Some.ensures.steps at c.loop-row.invariant.2) in
    omega (arith, length_shared c.args.a.now c.args.b.now)

pub overflow_add-written : goal.overflow_add-written
overflow_add-written c =
    let n = still_room _ _ _ _ _ _ (rw c.in-Some.ensures.steps at c.loop-row.invariant.2) in
    omega (arith, length_shared c.args.a.now c.args.b.now)

pub loop-row-preserved : goal.loop-row-preserved
loop-row-preserved c =
    let so = rw c.in-Some.ensures.steps at c.loop-row.invariant.2 in
    (tt, tt, rw c.set_row.ensures (passed_one _ _ _ _ _ _ so (omega (arith, length_shared c.args.a.now c.args.b.now))))

pub returns-clause-within : goal.returns-clause-within
returns-clause-within c =
    let d = passed_all _ _ _ _ (rw c.in-None.ensures.steps.0 at c.loop-row.invariant.2) in omega (arith, d.0, length_shared c.args.a.now c.args.b.now)
