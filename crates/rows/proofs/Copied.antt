-- What each key maps to after the rows of a range were put one by one.
use Rattle.std.proofs.Common.{◌≡◌, ℕ, cond, ◌&&◌, leb, List, [], ◌∷◌, inl, inr, arith}
use Rattle.std.proofs.lemmas.Bool.{cases_Bool}
use Rattle.std.proofs.lemmas.Bool.Decides.{nat_tests}
use Rattle.rows.specs.declared.Row.{Row}
use Rattle.rows.specs.declared.KeyRange.{KeyRange}
use Rattle.rows.specs.Rows.{SortedByKey, amount_of, has_key, put_all, rows_in}
use Rattle.rows.proofs.Orders.{up_rows_in}
use Rattle.rows.proofs.Keys.{amount_of_rows_in, amount_of_put_all}

has_key_rows_in : (k : ℕ) (range : KeyRange) (rs : List Row) → has_key k (rows_in range rs) ≡ ((leb range.from k && leb k range.to) && has_key k rs)
has_key_rows_in k range [] = grind (arith, nat_tests)
has_key_rows_in k range (x ∷ rs) = let i = has_key_rows_in k range rs in grind (arith, nat_tests)

pub amount_of_copied : (k : ℕ) (range : KeyRange) (ps rs : List Row) → SortedByKey ps →
    amount_of k (put_all (rows_in range ps) rs) ≡ cond ((leb range.from k && leb k range.to) && has_key k ps) (amount_of k ps) (amount_of k rs)
amount_of_copied k range ps rs h =
    let i = amount_of_put_all k 0 (rows_in range ps) rs (up_rows_in 0 range ps h) in
    let f = has_key_rows_in k range ps in
    let g = amount_of_rows_in k range ps in
    elim (cases_Bool (leb range.from k && leb k range.to)) [
      | inl e ↦ rw (i, f, g, e)
      | inr e ↦ rw (i, f, g, e)
    ]
