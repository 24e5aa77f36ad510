-- A look into the table is what the rules say.
use Rattle.std.proofs.Common.{false, [], length, get_or, take, refl, ap, ◌∙◌, arith}
use Rattle.std.proofs.lemmas.List.{length-take-le}
use Rattle.std.proofs.lemmas.List.FromFn.{get_or-map-range_with_len}
use Rattle.policy.specs.Access.{capacities_of}
use Rattle.policy.specs.Policies.{flow_row, rules_from}
use Rattle.policy.specs.Rules.{flows}
use Rattle.policy.proofs.Steps.{all_see_same}
use Rattle.policy.proofs.Policy.flow.Goals as goal

pub returns : goal.returns
returns c =
    let p = c.args.self.now in
    let cs = take p.users p.contracts in
    let a = c.args.a in
    let b = c.args.b in
    ap (λ xs. get_or (get_or xs a []) b false) p.flowing
    ∙ (ap (λ xs. get_or xs b false) (get_or-map-range_with_len (flow_row cs) 0 16 a a [] (omega arith) (omega arith))
    ∙ (get_or-map-range_with_len (flows (rules_from (length cs) cs []) a) 0 16 b b false (omega arith) (omega arith)
    ∙ rw (length-take-le p.users p.contracts (omega arith))
    (all_see_same (rules_from p.users cs []) (rules_from p.users cs (capacities_of p)) a b p.users (λ u h. refl))))
