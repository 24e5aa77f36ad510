-- Rows as pairs of numbers, and how many they are.
use Rattle.std.proofs.Common.{◌≡◌, ℕ, suc, ◌/◌, List, [], ◌∷◌, length, map, refl, ap, arith}
use Rattle.std.specs.Simd.{first_chunks}
use Rattle.rows.specs.Halving.{pair_row, rows_of}

pub pairs_rows : (xs : List ℕ) → map pair_row (first_chunks 2 (length xs / 2) xs) ≡ rows_of xs
pairs_rows [] = refl
pairs_rows (x ∷ []) = refl
pairs_rows (x ∷ y ∷ xs) =
    let e : suc (suc (length xs)) / 2 ≡ suc (length xs / 2) = omega arith in
    rw e (ap (λ l. record { key = x; amount = y } ∷ l) (pairs_rows xs))

pub length_rows_of : (xs : List ℕ) → length (rows_of xs) ≡ length xs / 2
length_rows_of [] = refl
length_rows_of (x ∷ []) = refl
length_rows_of (x ∷ y ∷ xs) = let i = length_rows_of xs in omega arith
