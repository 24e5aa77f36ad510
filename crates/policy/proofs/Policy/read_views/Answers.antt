-- What was judged and read are the first of the numbers, and they decide.
use Rattle.std.proofs.Common.{min, refl, ◌∙◌, arith}
use Rattle.policy.specs.FromViews.{numbers_from_views}
use Rattle.policy.proofs.Deciding.{same_judged, same_result}
use Rattle.policy.proofs.Policy.read_views.Goals as goal

pub returns-clause-refused : goal.returns-clause-refused
returns-clause-refused c =
    let xs = numbers_from_views c.args.views.now c.args.capacities.now in
    let read = rw (c.as_slice.ensures.value, c.numbers_from-numbers.ensures) at c.read.ensures.refused in
    read ∙ same_judged 594 refl xs (min c.args.most 4096) (omega arith)

pub returns-clause-reads : goal.returns-clause-reads
returns-clause-reads c =
    let xs = numbers_from_views c.args.views.now c.args.capacities.now in
    let refused = rw (c.as_slice.ensures.value, c.numbers_from-numbers.ensures) at c.read.ensures.refused in
    let reads = rw (c.as_slice.ensures.value, c.numbers_from-numbers.ensures) at c.read.ensures.reads in
    same_result 594 refl xs (min c.args.most 4096) (omega arith) c.read.result refused reads
