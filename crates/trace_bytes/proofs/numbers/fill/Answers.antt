-- Each turn writes the next number, and the loop ends where no more are there.
use Rattle.std.proofs.Common.{◌<◌, length, refl, inl, inr, arith}
use Rattle.std.proofs.lemmas.List.{set-get_or}
use Rattle.trace_bytes.proofs.Filling.{filled_more, filled_done, words_most, words_bytes}
use Rattle.trace_bytes.proofs.numbers.fill.Goals as goal

pub returns-in_default : goal.returns-in_default
returns-in_default c =
    let short : length c.loop-place.rest.now < c.args.width = c.in_default.ensures.cases in
    let done = filled_done _ _ _ _ _ _ c.loop-place.invariant c.loop-place.auto.numbers _ refl (inr short) (omega arith) in
    record {
      within = (omega arith, rw done.0 (words_bytes _ _ _));
      count = done.0;
      after = rw (set-get_or c.loop-place.numbers c.loop-place.place 0) done.1;
    }

pub loop-place-preserved : goal.loop-place-preserved
loop-place-preserved c =
    let split = c.in-Some.ensures.cases in
    rw split.2 (filled_more _ _ _ _ _ _ c.loop-place.invariant c.loop-place.auto.numbers _ (rw split.1 at c.low_first.ensures) c.loop-place-test.true split.0)

pub returns : goal.returns
returns c =
    let done = filled_done _ _ _ _ _ _ c.loop-place.invariant c.loop-place.auto.numbers _ (omega arith) (inl (omega arith)) (omega arith) in
    record { within = (rw done.0 (words_most _ _ _), rw done.0 (words_bytes _ _ _)); count = done.0; after = done.1 }
