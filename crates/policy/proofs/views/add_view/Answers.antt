-- The four parts that are put in are the numbers of the view.
use Rattle.policy.proofs.Filled.{view_filled}
use Rattle.policy.proofs.views.add_view.Goals as goal

pub returns : goal.returns
returns c =
    view_filled c.args.view c.min-count.result c.min-count.ensures 594 c.args.numbers.now.items _ _ _ c.extend-4.new.self.items
    c.extend.ensures c.extend-2.ensures c.extend-3.ensures c.extend-4.ensures
