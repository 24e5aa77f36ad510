-- The smaller keys in front are passed over.
use Rattle.std.proofs.Common.{ltb, get_or, rules, map, ap, ◌∙◌}
use borrow.Author.Tests.{tests}
use Rattle.std.proofs.lemmas.List.{take_rest}
use Rattle.std.proofs.lemmas.List.Folds.{length-prefix_len}
use Rattle.std.proofs.lemmas.Iterator.{YieldsList-from_slice}
use Rattle.std.proofs.lemmas.Iterator.Search.{YieldsList-from_take_while}
use Rattle.std.proofs.lemmas.Iterator.Consumers.{count_from_yields_List}
use Rattle.rows.specs.Halving.{pair_row}
use Rattle.rows.proofs.Passes.{skipped_pairs}
use Rattle.rows.proofs.skip.Goals as goal

pub returns : goal.returns
returns c =
    let n = count_from_yields_List c.take_while.result c.count-smaller.result c.count-smaller.ensures.ran
    (YieldsList-from_take_while _ (λ x. ltb (get_or x 0 0) c.args.key) (YieldsList-from_slice c.args.rows.now cc) c.take_while.ensures.closure c.take_while.ensures.done (λ x b q k. search (rules, tests)))
    ∙ length-prefix_len (λ x. ltb (get_or x 0 0) c.args.key) c.args.rows.now in
    ap (map pair_row) (take_rest c.args.rows.now c.count-smaller.result)
    ∙ rw n (skipped_pairs c.args.key c.args.rows.now)
