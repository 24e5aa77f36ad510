-- What is written in a turn comes behind what was written, and where it fails, nothing does.
use Rattle.std.proofs.Common.{◌-◌, ◌++◌, length, take, drop, sym, ap, subst, ◌∙◌, arith, length-take}
use lib.Seq.{take-add, take-take}
use Rattle.std.specs.Io.KnownBytes.{Appends}
use Rattle.std.proofs.KnownBytes.{Appends-trans}
use Rattle.output.proofs.write_all.Goals as goal

pub loop-written-preserved : goal.loop-written-preserved
loop-written-preserved g c =
    let done = c.loop-written.written in
    let n = c.in_ok-count.count in
    let xs = c.args.bytes.now in
    let before = c.loop-written.invariant in
    let fits = c.in_ok-count.ensures.bound in
    let most = length-take (length xs - done) (drop done xs) in
    let joined = ap (λ l. take done xs ++ l) (take-take n (length xs - done) (drop done xs) (omega arith)) ∙ sym (take-add done n xs) in
    record { within = omega arith; appended = subst (Appends _ _) joined (Appends-trans _ _ _ _ _ before.appended c.in_ok-count.ensures.written) }
