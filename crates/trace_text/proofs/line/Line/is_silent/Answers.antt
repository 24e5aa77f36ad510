-- What comes first behind blanks tells.
use Rattle.std.proofs.Common.{◌≡◌, ℕ, rules, tests, Bor, Option, option_map, find, sym, ap, ◌∙◌}
use Rattle.std.proofs.lemmas.Iterator.{YieldsList-from_slice}
use Rattle.std.proofs.lemmas.Iterator.Search.{find_from_yields_List}
use Rattle.trace_text.proofs.Cutting.{black, silent_none, silent_some}
use Rattle.trace_text.proofs.line.Line.is_silent.Goals as goal
use Rattle.trace_text.proofs.line.Line.is_silent.Goals.{After-find}

first_is : (c : After-find) → option_map (λ (b : Bor ℕ). b.now) c.find.result ≡ find black c.args.self.bytes.now
first_is c =
    find_from_yields_List black _ _ c.find.result c.find.ensures.ran (YieldsList-from_slice c.args.self.bytes.now (cc)) (λ x b q k. search (rules, tests))

pub returns-in_default : goal.returns-in_default
returns-in_default c =
    let first = first_is (goal.at.returns-in_default c).After-find in
    sym (silent_none c.args.self.bytes.now (sym first ∙ ap (λ (o : Option (Bor ℕ)). option_map (λ (b : Bor ℕ). b.now) o) c.in_default.is))

pub returns : goal.returns
returns c =
    let first = first_is (goal.at.returns c).After-find in
    sym (silent_some c.args.self.bytes.now c.in-Some.first.now (sym first ∙ ap (λ (o : Option (Bor ℕ)). option_map (λ (b : Bor ℕ). b.now) o) c.in-Some.is))
