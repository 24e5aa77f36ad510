-- The word is the one at the place among the pieces up to a comment.
use Rattle.std.proofs.Common.{◌≡◌, List, ℕ, [], not, rules, tests, Bor, Some, None, Option, option_map, slice_get, unwrap_or, refl, ap, ◌∙◌}
use Rattle.std.proofs.lemmas.Iterator.Consumers.{nth_from_yields_List, YieldsList-from_first, YieldsList-at}
use Rattle.std.proofs.lemmas.Iterator.Search.{YieldsList-from_take_while}
use Rattle.trace_text.specs.Words.{begins_comment, pieces, words}
use Rattle.trace_text.specs.declared.pieces.Pieces.{Pieces}
use Rattle.trace_text.proofs.line.Line.word.Goals as goal

now_of : (o : Option (Bor (List ℕ))) (d : Bor (List ℕ)) → (unwrap_or o d).now ≡ unwrap_or (option_map (λ w. w.now) o) d.now
now_of None d = refl
now_of (Some w) d = refl

pub returns : goal.returns
returns c =
    let found : option_map (λ (w : Bor (List ℕ)). w.now) c.nth.result ≡ slice_get (words c.args.self.bytes.now) c.from.result =
    nth_from_yields_List c.nth.result c.nth.new.self c.from.result c.nth.ensures.ran
    (YieldsList-from_take_while _ (λ w. not (begins_comment w))
    (YieldsList-at c.take_while.ensures.source (YieldsList-from_first (λ w. w.now) (λ (s : Pieces). pieces s.rest.now) (pieces c.args.self.bytes.now) refl))
    c.take_while.ensures.closure c.take_while.ensures.done (λ x b q k. search (rules, tests))) in
    ap (λ (w : Bor (List ℕ)). w.now) c.unwrap_or.ensures ∙ now_of c.nth.result _ ∙ ap (λ (o : Option (List ℕ)). unwrap_or o []) found
    ∙ ap (λ (n : ℕ). unwrap_or (slice_get (words c.args.self.bytes.now) n) []) c.from.ensures
