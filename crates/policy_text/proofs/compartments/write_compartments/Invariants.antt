-- The compartments so far are written.
use Rattle.std.specs.List.{flat_map, range_with_len}
use Rattle.output.specs.Output.{WritesAll}
use Rattle.policy.specs.Access.{compartments_of, rules_of}
use Rattle.policy_text.specs.Shown.{compartment_of}
use Rattle.policy_text.proofs.compartments.write_compartments.Given as goal

abbrev pub invariant-loop-compartment : goal.invariant-loop-compartment
invariant-loop-compartment g l =
    WritesAll l.initial.out l.out
    (flat_map (compartment_of g.F.Form.shape (rules_of l.policy) (compartments_of l.policy)) (range_with_len 0 l.compartment))
