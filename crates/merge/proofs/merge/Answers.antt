-- Each turn takes one step of the definition.
use Rattle.std.proofs.Common.{sym, ◌∙◌, arith}
use Rattle.rows.specs.Halving.{pair_row}
use Rattle.merge.proofs.Turns.{length_written, stepped_total, stepped_count, turn_copied, turn_kept, merging_none, merging_full, nothing_waits}
use Rattle.merge.proofs.merge.Goals as goal

pub loop-row-preserved-then-turn : goal.loop-row-preserved-then-turn
loop-row-preserved-then-turn c =
    let row = pair_row c.in-Some.row.now in
    let fewer = stepped_count row c.loop-row.left c.loop-row.destination in
    let one_less = stepped_total row c.loop-row.left c.loop-row.destination in
    let long = length_written row c.loop-row.left c.loop-row.destination in
    rw (c.turn.ensures.next, c.turn.ensures.after)
    record {
      count = omega (arith, c.loop-row.invariant.count);
      total = omega (arith, c.loop-row.invariant.total);
      same =
          sym (turn_copied _ _ _ _ _ c.in-Some.ensures.cases.0 (omega arith) (sym c.if-turn.true ∙ c.turn.ensures.told))
          ∙ c.loop-row.invariant.same;
    }

pub loop-row-preserved : goal.loop-row-preserved
loop-row-preserved c =
    let row = pair_row c.in-Some.row.now in
    let fewer = stepped_count row c.loop-row.left c.loop-row.destination in
    let one_less = stepped_total row c.loop-row.left c.loop-row.destination in
    let long = length_written row c.loop-row.left c.loop-row.destination in
    rw (c.turn.ensures.next, c.turn.ensures.after)
    record {
      count = omega (arith, c.loop-row.invariant.count);
      total = omega (arith, c.loop-row.invariant.total);
      same =
          sym (turn_kept _ _ _ _ _ c.in-Some.ensures.cases.0 (omega arith) (sym c.if-turn.false ∙ c.turn.ensures.told))
          ∙ c.loop-row.invariant.same;
    }

pub returns-then-left-eq0 : goal.returns-then-left-eq0
returns-then-left-eq0 c = sym (merging_full _ _ _ _ c.if-left-eq0.true) ∙ (c.loop-row.invariant.same ∙ rw c.pairs-waiting.ensures)

pub returns : goal.returns
returns c =
    sym (merging_none c.loop-row.left.total c.loop-row.left c.loop-row.destination)
    ∙ (rw (nothing_waits c.loop-row.waiting.now c.in_default.ensures.cases) at c.loop-row.invariant.same ∙ rw c.pairs-waiting.ensures)
