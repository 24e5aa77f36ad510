-- The compartments of the view so far are written.
use Rattle.std.proofs.Common.{take}
use Rattle.std.specs.List.{flat_map}
use Rattle.output.specs.Output.{WritesAll}
use Rattle.policy_text.proofs.users.write_view.Given as goal

abbrev pub invariant-loop-seen : goal.invariant-loop-seen
invariant-loop-seen g l = WritesAll l.initial.out l.out (flat_map (g.F.Form.shape.seen l.user) (take l.seen-index l.view))
