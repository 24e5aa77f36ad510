-- What the search after the counts finds is the lowest place at fault of all.
use Rattle.std.proofs.Common.{sym, ap, ◌∙◌}
use Rattle.std.specs.Option.{option_map}
use Rattle.base.specs.declared.refusal.Refusal.TheVariants.{OutOfBounds}
use Rattle.policy.proofs.Judging.{after_counts, counts_are, fit_from_none}
use Rattle.policy.proofs.numbers.Numbers.judge.Goals as goal

pub invariant_of-result : goal.invariant_of-result
invariant_of-result c =
    let xs = c.args.all.now in
    let most = c.args.most in
    let counts = counts_are most xs _ _ c.in-Some.ensures c.in-Some-count_at.ensures in
    let none = c.in-None.ensures ∙ after_counts most xs _ _ c.in-Some.ensures c.in-Some-count_at.ensures _ c.user_at.ensures in
    record { users_are = counts.0; compartments_are = counts.1; fit = fit_from_none most xs c.requires (sym none) }

pub returns-in-Some-lowest_fault-clause-refused : goal.returns-in-Some-lowest_fault-clause-refused
returns-in-Some-lowest_fault-clause-refused c =
    ap (option_map (λ place. OutOfBounds place))
    (c.in-Some-lowest_fault.ensures ∙ after_counts c.args.most c.args.all.now _ _ c.in-Some.ensures c.in-Some-count_at.ensures _ c.user_at.ensures)

pub returns-in-None-clause-refused : goal.returns-in-None-clause-refused
returns-in-None-clause-refused c =
    ap (option_map (λ place. OutOfBounds place))
    (c.in-None.ensures ∙ after_counts c.args.most c.args.all.now _ _ c.in-Some.ensures c.in-Some-count_at.ensures _ c.user_at.ensures)
