-- Each turn writes a flow, or nothing where the form or the policy leaves it out.
use Rattle.std.proofs.Common.{◌<◌, List, ℕ, filter, arith}
use Rattle.std.specs.List.{flat_map}
use Rattle.output.proofs.Chains.{passed_up}
use Rattle.policy.specs.Access.{compartments_of, rules_of}
use Rattle.policy_text.specs.Shown.{shows_flow}
use Rattle.policy_text.proofs.Listing.{listed_more, listed_part, joined_passing, single_passing}
use Rattle.policy_text.proofs.There.{compartments_counted}
use Rattle.policy_text.proofs.compartments.write_flows.Goals as goal

pub loop-to-preserved : goal.loop-to-preserved
loop-to-preserved g c =
    let text = g.F.Form.shape.flow c.args.from in
    let test = shows_flow g.F.Form.shape (rules_of c.args.policy.now) c.args.from in
    let to = c.loop-to.to in
    listed_more (λ (xs : List ℕ). flat_map text (filter test xs)) (joined_passing test text) to (single_passing test text to)
    c.loop-to.invariant c.in_ok-write_flow.ensures

pub returns-in_err-write_flow : goal.returns-in_err-write_flow
returns-in_err-write_flow g c =
    let text = g.F.Form.shape.flow c.args.from in
    let p = c.args.policy.now in
    let test = shows_flow g.F.Form.shape (rules_of p) c.args.from in
    let to = c.loop-to.to in
    let there : to < compartments_of p = grind (arith, compartments_counted) in
    passed_up c.from_residual.result _ _ _ c.from_residual.ensures.0
    (listed_part (λ (xs : List ℕ). flat_map text (filter test xs)) (joined_passing test text) to (single_passing test text to)
    c.loop-to.invariant (compartments_of p) there c.in_err-write_flow.ensures)
