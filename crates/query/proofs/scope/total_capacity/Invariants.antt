-- The sum so far and that of what is left make the whole.
use Rattle.std.proofs.Common.{◌≡◌, ◌+◌, ◌*◌, ◌≤◌, drop}
use Rattle.policy.specs.Access.{rules_of}
use Rattle.query.specs.Looks.{capacity_sum}
use Rattle.query.proofs.scope.total_capacity.Given as goal

abbrev pub invariant-loop-seen : goal.invariant-loop-seen
invariant-loop-seen l = record {
  added : l.sum + capacity_sum (rules_of l.policy).capacity (drop l.seen-index l.seen-items) ≡ capacity_sum (rules_of l.policy).capacity l.seen-items;
  small : l.sum ≤ 4096 * l.seen-index;
}
