-- The users so far are written.
use Rattle.std.specs.List.{flat_map, range_with_len}
use Rattle.output.specs.Output.{WritesAll}
use Rattle.policy.specs.Access.{rules_of}
use Rattle.policy_text.specs.Shown.{user_of}
use Rattle.policy_text.proofs.users.write_users.Given as goal

abbrev pub invariant-loop-user : goal.invariant-loop-user
invariant-loop-user g l =
    WritesAll l.initial.out l.out (flat_map (user_of g.F.Form.shape (rules_of l.policy)) (range_with_len 0 l.user))
