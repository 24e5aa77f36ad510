-- Rows in memory: two numbers a row, key and amount; and where a binary search for a key ends.
use Rattle.std.specs.Prelude.{ℕ, zero, suc, ◌+◌, ◌-◌, ◌*◌, ◌/◌, if◌then◌else◌, List, [], ◌∷◌, length, nat_lt, slice_index}
use Rattle.rows.specs.declared.Row.{Row}

-- rows as memory holds them
abbrev pub flat : List Row → List ℕ
flat [] = []
flat (x ∷ xs) = x.key ∷ x.amount ∷ flat xs

-- the rows that numbers hold; an odd one at the end belongs to none
abbrev pub rows_of : List ℕ → List Row
rows_of [] = []
rows_of (k ∷ []) = []
rows_of (k ∷ a ∷ xs) = record { key = k; amount = a } ∷ rows_of xs

-- the row that a key and an amount make
abbrev pub pair_row : List ℕ → Row
pair_row pair = record { key = slice_index pair 0; amount = slice_index pair 1 }

-- a binary search between two places, in at most so many steps
unfoldable pub bisect : ℕ → ℕ → ℕ → List ℕ → ℕ → ℕ
bisect zero low high rows key = low
bisect (suc fuel) low high rows key =
    if nat_lt low high
    then (if nat_lt (slice_index rows (2 * (low + (high - low) / 2))) key
    then bisect fuel (low + (high - low) / 2 + 1) high rows key
    else bisect fuel low (low + (high - low) / 2) rows key)
    else low

-- and among all rows
unfoldable pub position : ℕ → List ℕ → ℕ
position key rows = bisect (length rows / 2) 0 (length rows / 2) rows key
