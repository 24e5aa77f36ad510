-- Each contract is what the numbers of its user say.
use Rattle.std.proofs.Common.{◌≡◌, ◌<◌, refl, ◌∙◌, arith}
use Rattle.policy.specs.Numbers.{users_in}
use Rattle.policy.specs.Read.{Says}
use Rattle.policy.specs.Views.{nobody}
use Rattle.policy.proofs.Made.{made_by}
use Rattle.policy.proofs.contract.Contract.of_users.Goals as goal

pub returns-clause-say : goal.returns-clause-say
returns-clause-say c =
    let numbers = c.args.numbers in
    let xs = numbers.now.all.now in
    let few = numbers.now.fit.users in λ u h.
    made_by _ (λ i y. i < users_in xs → Says xs i y) (λ f. f.0 ≡ numbers) (λ f i y q called same. (rw same at called.met.1, called.met.0 ∙ same)) _ c.from_fn.result 0 32 nobody refl c.from_fn.ensures.items.each u (omega arith) (omega arith) h
