-- A list of rows is the first of those that are left.
use Rattle.std.proofs.Common.{◌≡◌, ℕ, ◌+◌, ◌<◌, min, List, ◌∷◌, map, length, get_or, take, drop, refl, sym, ap, ◌∙◌}
use Rattle.std.proofs.lemmas.List.{drop_more, take_min, drop_min, take-map, drop-map}
use Rattle.query.specs.AnswerRows.{split}
use Rattle.rows.specs.Halving.{pair_row}

-- `list` are the first n rows and `behind` those behind them, or all and none if there are no more
module _ (n : ℕ) (rows : List (List ℕ)) {mid : ℕ} (clipped : mid ≡ min n (length rows)) where
  pub first_rows : {list : List (List ℕ)} → list ≡ take mid rows → map pair_row list ≡ take n (map pair_row rows)
  first_rows e = ap (map pair_row) (e ∙ ap (λ m. take m rows) clipped ∙ take_min n rows) ∙ sym (take-map pair_row n rows)

  pub rows_behind : {behind : List (List ℕ)} → behind ≡ drop mid rows → map pair_row behind ≡ drop n (map pair_row rows)
  rows_behind e = ap (map pair_row) (e ∙ ap (λ m. drop m rows) clipped ∙ drop_min n rows) ∙ sym (drop-map pair_row n rows)

-- the list at a place of the counts, and those behind it
pub split_on : (counts : List ℕ) (i : ℕ) (rows : List (List ℕ)) {mid : ℕ} {list behind : List (List ℕ)} → i < length counts → mid ≡ min (get_or counts i 0) (length rows)
    → list ≡ take mid rows → behind ≡ drop mid rows
    → split (drop i counts) (map pair_row rows) ≡ map pair_row list ∷ split (drop (i + 1) counts) (map pair_row behind)
split_on counts i rows there clipped first rest =
    rw (drop_more counts i 0 there, first_rows (get_or counts i 0) rows clipped first, rows_behind (get_or counts i 0) rows clipped rest) refl
