-- Each turn writes one user more, as the rules have them.
use Rattle.std.proofs.Common.{◌<◌, arith}
use Rattle.std.specs.List.{flat_map}
use Rattle.output.proofs.Chains.{passed_up}
use Rattle.policy.specs.Access.{users_of, rules_of}
use Rattle.policy_text.specs.Shown.{user_of}
use Rattle.policy_text.proofs.Listing.{listed_more, listed_part, joined, single}
use Rattle.policy_text.proofs.There.{user_there, users_counted}
use Rattle.policy_text.proofs.users.write_users.Goals as goal

pub loop-user-preserved : goal.loop-user-preserved
loop-user-preserved g c =
    let p = c.args.policy.now in
    let shape = g.F.Form.shape in
    let text = user_of shape (rules_of p) in
    let i = c.loop-user.user in
    let all = c.contracts-contract-items.ensures in
    listed_more (flat_map text) (joined text) i (single text i) c.loop-user.invariant
    (rw (user_there shape p i c.contract-item.result (rw all at c.loop-user-test.true) (rw all at c.contract-item.is)) at c.in_ok-write_user.ensures)

pub returns-in_err-write_user : goal.returns-in_err-write_user
returns-in_err-write_user g c =
    let p = c.args.policy.now in
    let shape = g.F.Form.shape in
    let text = user_of shape (rules_of p) in
    let i = c.loop-user.user in
    let all = c.contracts-contract-items.ensures in
    let there : i < users_of p = grind (arith, users_counted) in
    passed_up c.from_residual.result _ _ _ c.from_residual.ensures.0
    (listed_part (flat_map text) (joined text) i (single text i) c.loop-user.invariant (users_of p) there
    (rw (user_there shape p i c.contract-item.result (rw all at c.loop-user-test.true) (rw all at c.contract-item.is)) at c.in_err-write_user.ensures))
