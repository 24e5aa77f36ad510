-- What each call makes of the numbers that it is lent, whatever they are: of rows that are sorted or not.
use Rattle.std.specs.Prelude.{ℕ, ◌+◌, ◌-◌, ◌*◌, ◌/◌, ◌%◌, ◌^◌, max, Bool, false, if◌then◌else◌, ◌&&◌, List, [], ◌∷◌, ◌++◌, length, take, drop, Some, None, Ok, Err, Option, Result, ◌==◌, nat_lt, slice_index, slice_set}
use Rattle.std.proofs.Math.Seq.{paste}
use Rattle.rows.specs.Rows.{sum}
use Rattle.rows.specs.Halving.{flat, rows_of, position}
use Rattle.rows.specs.declared.Row.{Row}
use Rattle.rows.specs.declared.KeyRange.{KeyRange}
use Rattle.rows.specs.declared.Totals.{Totals}

-- the row at a place has this key
abbrev pub stands_at : ℕ → ℕ → List ℕ → Bool
stands_at at key rows = nat_lt at (length rows / 2) && slice_index rows (2 * at) == key

-- the search finds a row with this key
abbrev pub search_finds : ℕ → List ℕ → Bool
search_finds key rows = stands_at (position key rows) key rows

-- the place of the row with this key, or where it would be inserted
abbrev pub search_result : ℕ → List ℕ → Result ℕ ℕ
search_result key rows = if search_finds key rows then Ok (position key rows) else Err (position key rows)

abbrev pub place : ℕ → List ℕ → Option ℕ
place key rows = if search_finds key rows then Some (position key rows) else None

-- a row is inserted at a place, and the rows from there on move on by one
abbrev pub insert_row : ℕ → ℕ → Row → List ℕ → List ℕ
insert_row at count row part =
    take (2 * at) part
    ++ (row.key ∷ row.amount ∷ (take (2 * count - 2 * at) (drop (2 * at) part) ++ drop (2 * count + 2) part))

-- the row at a place is removed, and the rows after it move up by one
abbrev pub remove_row : ℕ → ℕ → List ℕ → List ℕ
remove_row at count part = paste part (2 * at) (drop (2 * at + 2) part) (2 * count - (2 * at + 2))

-- how many rows there are after a put, where it is not refused
abbrev pub put_count : ℕ → Row → List ℕ → Option ℕ
put_count count row part =
    if nat_lt (length part / 2) count then None
    else if search_finds row.key (take (2 * count) part) then Some count
    else if count == length part / 2 then None else Some (count + 1)

abbrev pub put_into : ℕ → Row → List ℕ → List ℕ
put_into count row part =
    if nat_lt (length part / 2) count then part
    else if search_finds row.key (take (2 * count) part)
    then slice_set part (2 * position row.key (take (2 * count) part) + 1) row.amount
    else if count == length part / 2 then part else insert_row (position row.key (take (2 * count) part)) count row part

abbrev pub delete_count : ℕ → ℕ → List ℕ → Option ℕ
delete_count count key part =
    if nat_lt (length part / 2) count then None
    else if search_finds key (take (2 * count) part) then Some (count - 1) else None

abbrev pub delete_from : ℕ → ℕ → List ℕ → List ℕ
delete_from count key part =
    if nat_lt (length part / 2) count then part
    else if search_finds key (take (2 * count) part) then remove_row (position key (take (2 * count) part)) count part
    else part

-- the part from the place of the first key to the place after the last
abbrev pub range_part : KeyRange → List ℕ → List ℕ
range_part range rows =
    take (2 * max (position range.from rows) (position (range.to + 1) rows) - 2 * position range.from rows)
    (drop (2 * position range.from rows) rows)

abbrev pub totals_of : List ℕ → Totals
totals_of rows = record { rows = length rows / 2; amount = sum (rows_of rows) % 2 ^ 64 }

-- the rows from the first one on whose key is not smaller
abbrev pub from_key : ℕ → List Row → List Row
from_key key [] = []
from_key key (y ∷ ys) = if nat_lt y.key key then from_key key ys else y ∷ ys

abbrev pub first_is : ℕ → List Row → Bool
first_is key [] = false
first_is key (y ∷ ys) = y.key == key

-- one pass over both: for each row of the first the smaller ones of the second are skipped, then the keys compared
abbrev pub intersection : List Row → List Row → List Row
intersection [] ys = []
intersection (x ∷ xs) ys =
    if first_is x.key (from_key x.key ys) then x ∷ intersection xs (from_key x.key ys)
    else intersection xs (from_key x.key ys)

abbrev pub shared_count : List ℕ → List ℕ → List ℕ → Option ℕ
shared_count xs ys out =
    if nat_lt (length out / 2) (length xs / 2) then None else Some (length (intersection (rows_of xs) (rows_of ys)))

-- some rows at the front of memory, in place of what was there
abbrev pub in_front : List Row → List ℕ → List ℕ
in_front rs out = flat rs ++ drop (2 * length rs) out

abbrev pub shared_into : List ℕ → List ℕ → List ℕ → List ℕ
shared_into xs ys out =
    if nat_lt (length out / 2) (length xs / 2) then out else in_front (intersection (rows_of xs) (rows_of ys)) out
