-- Each turn writes one compartment more.
use Rattle.output.proofs.Chains.{passed_up}
use Rattle.policy_text.proofs.Listing.{item_more, item_part}
use Rattle.policy_text.proofs.users.write_view.Goals as goal

pub loop-seen-preserved : goal.loop-seen-preserved
loop-seen-preserved g c =
    let l = c.loop-seen in
    item_more (g.F.Form.shape.seen c.args.user) c.args.view.now l.seen-index _ c.loop-seen-test.true l.invariant c.in_ok-write_seen.ensures

pub returns-in_err-write_seen : goal.returns-in_err-write_seen
returns-in_err-write_seen g c =
    let l = c.loop-seen in
    passed_up c.from_residual.result _ _ _ c.from_residual.ensures.0
    (item_part (g.F.Form.shape.seen c.args.user) c.args.view.now l.seen-index _ c.loop-seen-test.true l.invariant c.in_err-write_seen.ensures)
