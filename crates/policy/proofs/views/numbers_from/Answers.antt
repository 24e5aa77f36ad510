-- Each turn puts in the numbers of one view more, and the capacities come last.
use Rattle.std.proofs.Common.{◌∷◌, [], length, arith}
use Rattle.std.proofs.lemmas.List.{take_all}
use Rattle.std.specs.List.{flat_map}
use Rattle.policy.specs.FromViews.{view_numbers}
use Rattle.policy.proofs.Filled.{more_views, put_on}
use Rattle.policy.proofs.views.numbers_from.Goals as goal

pub loop-view-preserved : goal.loop-view-preserved
loop-view-preserved c =
    let views = c.args.views.now in
    let counts = length views ∷ length c.args.capacities.now ∷ [] in
    more_views views c.loop-view.view-index _ 594 counts c.loop-view.numbers.items c.add_view.new.numbers.items c.loop-view-test.true c.loop-view.invariant c.add_view.ensures

pub returns : goal.returns
returns c =
    let views = c.args.views.now in
    let counts = length views ∷ length c.args.capacities.now ∷ [] in
    let filled = rw (take_all c.loop-view.view-index views (omega arith)) at c.loop-view.invariant in
    put_on 594 counts c.loop-view.numbers.items c.extend-2.new.self.items (flat_map view_numbers views) c.args.capacities.now filled c.extend-2.ensures
