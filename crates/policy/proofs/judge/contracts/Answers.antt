-- The lowest user with a bad view is found among the contracts as among the numbers.
use Rattle.std.proofs.Common.{sym, ap, arith}
use Rattle.std.specs.Option.{option_map}
use Rattle.base.specs.declared.refusal.Refusal.TheVariants.{BadView}
use Rattle.policy.proofs.Reading.{views_by, all_stand}
use Rattle.policy.proofs.judge.contracts.Goals as goal

pub returns-in-Some-clause-refused : goal.returns-in-Some-clause-refused
returns-in-Some-clause-refused c =
    let numbers = c.args.numbers.now in
    let few = numbers.fit.users in
    let cs = c.of_users-contracts in
    ap (option_map (λ user. BadView user)) (views_by numbers.all.now cs.result (omega arith) cs.ensures.say _ _ _ numbers.users_are numbers.compartments_are c.in-Some.ensures)

pub returns-in-None-clause-refused : goal.returns-in-None-clause-refused
returns-in-None-clause-refused c =
    let numbers = c.args.numbers.now in
    let few = numbers.fit.users in
    let cs = c.of_users-contracts in
    ap (option_map (λ user. BadView user)) (views_by numbers.all.now cs.result (omega arith) cs.ensures.say _ _ _ numbers.users_are numbers.compartments_are c.in-None.ensures)

pub returns-in-None-clause-stand : goal.returns-in-None-clause-stand
returns-in-None-clause-stand c =
    let numbers = c.args.numbers.now in
    let few = numbers.fit.users in
    let cs = c.of_users-contracts in
    let none = views_by numbers.all.now cs.result (omega arith) cs.ensures.say _ _ _ numbers.users_are numbers.compartments_are c.in-None.ensures in
    record { long = cs.ensures.long; say = cs.ensures.say; valid = all_stand numbers.all.now cs.result (omega arith) cs.ensures.say (sym none) }
