-- The rows behind the header, or none where the row is shorter.
use Rattle.std.proofs.Common.{◌≡◌, ℕ, ◌+◌, ◌<◌, ◌≤◌, ◌⊎◌, Option, Some, None, Bor, List, [], length, drop, refl, ◌∙◌, sym, ap, arith}
use Rattle.std.proofs.lemmas.List.{drop_all, take_rest}
use Rattle.std.specs.List.{slice_range}
use Rattle.std.specs.Option.{MatchOption, unwrap_or}
use Rattle.rows.specs.Halving.{rows_of}
use Rattle.response_text.proofs.answers.behind_header.Goals as goal

-- what `get` finds behind the header, or nothing
found : (xs : List ℕ) (o : Option (Bor (List ℕ))) (none : Bor (List ℕ)) → none.now ≡ []
    → MatchOption o ((length xs < 32) ⊎ (length xs < length xs)) (λ x. (32 ≤ length xs) × (length xs ≤ length xs) × (x.now ≡ slice_range xs 32 (length xs)) × (length x.now + 32 ≡ length xs))
    → (unwrap_or o none).now ≡ drop 32 xs
found xs (Some x) none e m = m.2 ∙ take_rest xs 32
found xs None none e m = e ∙ sym (drop_all 32 xs (omega arith))

pub returns : goal.returns
returns c =
    let numbers = found c.args.row.now c.get.result _ refl c.get.ensures.lookup.0 in
    c.pairs.ensures ∙ ap rows_of (ap (λ x. x.now) c.unwrap_or.ensures ∙ numbers)
