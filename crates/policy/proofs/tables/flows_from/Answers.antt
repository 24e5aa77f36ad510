-- Each place of a row says whether everybody lets the rows flow there.
use Rattle.std.proofs.Common.{◌≡◌, false, [], length, refl, ap, ◌∙◌, arith}
use Rattle.std.proofs.lemmas.List.FromFn.{fill_by_all}
use Rattle.std.specs.List.{list_all}
use Rattle.policy.specs.Rules.{flows}
use Rattle.policy.specs.Policies.{rules_from, lets}
use Rattle.policy.proofs.Made.{made_by}
use Rattle.policy.proofs.Steps.{lets_flow}
use Rattle.policy.proofs.tables.flows_from.Goals as goal

pub returns : goal.returns
returns c =
    let cs = c.args.contracts in
    let a = c.args.a in
    let items = c.from_fn.ensures.items in
    fill_by_all (flows (rules_from (length cs.now) cs.now []) a) c.from_fn.result 16 false items.long
    (λ k h. made_by _ (λ b y. y ≡ list_all (lets a b) cs.now) (λ f. (f.0 ≡ cs) × (f.1.now ≡ a)) (λ f i y q called same. (rw (same.0, same.1) at called.met.1, (called.met.0.0 ∙ same.0, ap (λ x. x.now) called.met.0.1 ∙ same.1))) _ c.from_fn.result 0 16 false (refl, refl) items.each k (omega arith) (omega arith)
    ∙ lets_flow (length cs.now) cs.now [] a k refl)
