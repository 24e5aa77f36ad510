-- A compartment, where its rows may flow, and the end of it.
use Rattle.output.proofs.Chains.{all_then, all_then_part, part_then, passed_up}
use Rattle.policy_text.proofs.compartments.write_compartment.Goals as goal

pub returns-in_err-write_flows : goal.returns-in_err-write_flows
returns-in_err-write_flows g c =
    let exit = c.from_residual-in_err-write_flows in
    passed_up exit.result _ _ _ exit.ensures.0
    (all_then_part c.in_ok-write_compartment.ensures (part_then g.F.Form.shape.compartment_end c.in_err-write_flows.ensures))

pub returns : goal.returns
returns g c =
    let result = c.end_compartment.result in
    all_then result _ _ _ _ _ c.in_ok-write_compartment.ensures (all_then result _ _ _ _ _ c.in_ok-write_flows.ensures c.end_compartment.ensures)
