-- Of the compartments so far, those to which rows may flow are written.
use Rattle.output.specs.Output.{WritesAll}
use Rattle.policy.specs.Access.{rules_of}
use Rattle.policy_text.specs.Shown.{flow_bytes}
use Rattle.policy_text.proofs.compartments.write_flows.Given as goal

abbrev pub invariant-loop-to : goal.invariant-loop-to
invariant-loop-to g l = WritesAll l.initial.out l.out (flow_bytes g.F.Form.shape (rules_of l.policy) l.to l.from)
