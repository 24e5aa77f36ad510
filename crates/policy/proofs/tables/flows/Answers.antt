-- Each row of the table is what its call made.
use Rattle.std.proofs.Common.{◌≡◌, [], refl, ap, ◌∙◌, arith}
use Rattle.std.proofs.lemmas.List.FromFn.{fill_by_all}
use Rattle.policy.specs.Policies.{flow_row}
use Rattle.policy.proofs.Made.{made_by}
use Rattle.policy.proofs.tables.flows.Goals as goal

pub returns : goal.returns
returns c =
    let cs = c.args.contracts in
    let items = c.from_fn.ensures.items in
    fill_by_all (flow_row cs.now) c.from_fn.result 16 [] items.long
    (λ k h. made_by _ (λ i y. y ≡ flow_row cs.now i) (λ f. f.0 ≡ cs) (λ f i y q called same. (called.met.1 ∙ ap (λ x. flow_row x.now i) same, called.met.0 ∙ same)) _ c.from_fn.result 0 16 [] refl items.each k (omega arith) (omega arith))
