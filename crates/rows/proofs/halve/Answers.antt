-- Each turn takes one step of the definition.
use Rattle.std.proofs.Common.{◌/◌, length, refl, arith}
use Rattle.rows.specs.Halving.{position}
use Rattle.rows.proofs.Halves.{upper_half, lower_half, no_half}
use Rattle.rows.proofs.halve.Goals as goal

pub loop-low-init : goal.loop-low-init
unfolding position
loop-low-init c = (omega arith, omega arith, (length c.args.rows.now / 2, omega arith, refl))

pub loop-low-preserved-then-rows-mid : goal.loop-low-preserved-then-rows-mid
loop-low-preserved-then-rows-mid c =
    let i = c.loop-low.invariant in
    (omega arith, omega arith, upper_half _ _ _ _ _ i.2.0 (omega arith) i.2.1 (omega arith) i.2.2)

pub loop-low-preserved : goal.loop-low-preserved
loop-low-preserved c =
    let i = c.loop-low.invariant in
    (omega arith, omega arith, lower_half _ _ _ _ _ i.2.0 (omega arith) i.2.1 (omega arith) i.2.2)

pub returns-clause-value : goal.returns-clause-value
returns-clause-value c = let i = c.loop-low.invariant in no_half _ _ _ _ _ i.2.0 (omega arith) i.2.2
