-- The blanks in front are passed over, and the piece ends at the next blank.
use Rattle.std.proofs.Common.{◌≡◌, List, ℕ, ◌∷◌, ◌-◌, length, take, drop, unwrap_or, rules, tests, arith, Option, ap, sym, subst, ◌∙◌}
use Rattle.std.proofs.lemmas.Iterator.{YieldsList-from_slice}
use Rattle.std.proofs.lemmas.Iterator.Search.{position_from_yields_List}
use Rattle.std.proofs.lemmas.List.{take_rest}
use Rattle.std.specs.Iterator.{YieldsFirstRef}
use Rattle.trace_text.specs.Words.{blank, pieces}
use Rattle.trace_text.specs.declared.pieces.Pieces.{Pieces}
use Rattle.trace_text.proofs.Cutting.{black, found, only_blanks, one_on}
use Rattle.trace_text.proofs.pieces.PiecesIterator.next.Goals as goal
use Rattle.trace_text.proofs.pieces.PiecesIterator.next.Goals.{After-position, After-split_at}

-- where the first piece begins
start_is : (c : After-position) → c.position.result ≡ found black c.args.self.now.rest.now
start_is c =
    position_from_yields_List black _ _ c.position.result c.position.ensures.ran (YieldsList-from_slice c.args.self.now.rest.now (cc)) (λ x b q k. search (rules, tests))

pub returns-in_err-start-clause-steps : goal.returns-in_err-start-clause-steps
returns-in_err-start-clause-steps c =
    let start = start_is (goal.at.returns-in_err-start-clause-steps c).After-position in
    let none = only_blanks c.args.self.now.rest.now (sym c.in_err-start.was ∙ start) in
    subst (λ r. YieldsFirstRef (λ (s : Pieces). pieces s.rest.now) c.args.self.now r c.args.self.now) (sym c.from_residual.ensures) (none, none)

first_is : (c : After-split_at) → pieces c.args.self.now.rest.now ≡ c.split_at.result.0.now ∷ pieces c.split_at.result.1.now
first_is c =
    let xs : List ℕ = c.args.self.now.rest.now in
    let start : ℕ = c.in_ok-start.start in
    let ys : List ℕ = take (length xs - start) (drop start xs) in
    let begins = start_is (goal.at.After-split_at c).After-position in
    let stops : c.position-2.result ≡ found blank ys =
    position_from_yields_List blank _ _ c.position-2.result c.position-2.ensures.ran (YieldsList-from_slice ys (cc)) (λ x b q k. search (rules, tests)) in
    let one = one_on xs ys start c.unwrap_or-end.result (sym c.in_ok-start.was ∙ begins) (take_rest xs start) (c.unwrap_or-end.ensures ∙ ap (λ (o : Option ℕ). unwrap_or o (length ys)) stops) in
    one ∙ ap (λ (zs : List ℕ). zs ∷ pieces (drop c.unwrap_or-end.result ys)) (sym c.split_at.ensures.front)
    ∙ ap (λ (zs : List ℕ). c.split_at.result.0.now ∷ pieces zs) (sym c.split_at.ensures.back)

pub returns-clause-steps : goal.returns-clause-steps
returns-clause-steps c = first_is (goal.at.returns-clause-steps c).After-split_at

pub returns-clause-goes : goal.returns-clause-goes
returns-clause-goes c =
    let first = first_is (goal.at.returns-clause-goes c).After-split_at in
    record {
      on = λ _. (tt, tt, omega (arith, ap length first));
      keeps = tt;
      rests = λ _. tt;
    }
