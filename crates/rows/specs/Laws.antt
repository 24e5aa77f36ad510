-- What the calls mean on rows sorted by key, in memory that may hold more after them.
use Rattle.std.specs.Prelude.{◌≡◌, ℕ, ◌*◌, ◌/◌, ◌%◌, ◌^◌, ◌<◌, ◌≤◌, Bool, if◌then◌else◌, ◌&&◌, ◌||◌, List, ◌++◌, length, take, Some, None, ◌==◌, nat_le}
use Rattle.rows.specs.Rows.{SortedByKey, amount_of, has_key, smaller, put, without, rows_in, sum, also_in, Small}
use Rattle.rows.specs.Halving.{flat, bisect, position}
use Rattle.rows.specs.Numbers.{place, put_count, put_into, delete_count, delete_from, range_part, totals_of, shared_count, shared_into, in_front}
use Rattle.rows.specs.declared.Row.{Row}
use Rattle.rows.specs.declared.KeyRange.{KeyRange}

-- sorted rows are what their keys map to, and nothing else
abbrev pub RowsAreMaps : Type 0
RowsAreMaps =
    (xs ys : List Row) → SortedByKey xs → SortedByKey ys → ((k : ℕ) → amount_of k xs ≡ amount_of k ys) → xs ≡ ys

-- binary search finds the number of smaller keys
abbrev pub SearchCounts : Type 0
SearchCounts =
    (k : ℕ) (rs : List Row) (rest : List ℕ) → SortedByKey rs →
    position k (take (2 * length rs) (flat rs ++ rest)) ≡ smaller k rs

-- and the row of a key, if there is one
abbrev pub SearchFinds : Type 0
SearchFinds =
    (k : ℕ) (rs : List Row) → SortedByKey rs →
    place k (flat rs) ≡ (if has_key k rs then Some (smaller k rs) else None)

-- n probes suffice where there are fewer than 2^n rows, whatever they hold; 13 for 4,096
abbrev pub ProbesSuffice : Type 0
ProbesSuffice =
    ((n key : ℕ) (rows : List ℕ) → length rows / 2 < 2 ^ n → position key rows ≡ bisect n 0 (length rows / 2) rows key)
    × ((key : ℕ) (rows : List ℕ) → length rows / 2 ≤ 4096 → position key rows ≡ bisect 13 0 (length rows / 2) rows key)

abbrev pub fits : List Row → List ℕ → Bool
fits rs part = nat_le (2 * length rs) (length part)

-- a put is the one on lists where its rows fit, and else refused
abbrev pub PutIsPut : Type 0
PutIsPut =
    (r : Row) (rs : List Row) (rest : List ℕ) → SortedByKey rs →
    let part = flat rs ++ rest in
    (put_count (length rs) r part ≡ (if fits (put r rs) part then Some (length (put r rs)) else None))
    × (put_into (length rs) r part ≡ (if fits (put r rs) part then in_front (put r rs) part else part))
    × (fits (put r rs) part ≡ (has_key r.key rs || nat_le 2 (length rest)))

abbrev pub PutKeys : Type 0
PutKeys =
    (k : ℕ) (r : Row) (rs : List Row) →
    amount_of k (put r rs) ≡ (if r.key == k then Some r.amount else amount_of k rs)

abbrev pub PutSorted : Type 0
PutSorted = (r : Row) (rs : List Row) → SortedByKey rs → SortedByKey (put r rs)

-- a delete is the one on lists, and refused where there is no such row
abbrev pub DeleteIsWithout : Type 0
DeleteIsWithout =
    (k : ℕ) (rs : List Row) (rest : List ℕ) → SortedByKey rs
    → (delete_count (length rs) k (flat rs ++ rest) ≡ (if has_key k rs then Some (length (without k rs)) else None))
    × (delete_from (length rs) k (flat rs ++ rest) ≡ in_front (without k rs) (flat rs ++ rest))

abbrev pub DeleteKeys : Type 0
DeleteKeys =
    (k j : ℕ) (rs : List Row) → SortedByKey rs →
    amount_of k (without j rs) ≡ (if j == k then None else amount_of k rs)

abbrev pub DeleteSorted : Type 0
DeleteSorted = (k : ℕ) (rs : List Row) → SortedByKey rs → SortedByKey (without k rs)

-- the part of a range holds the rows whose keys lie in it, and no others
abbrev pub RangeIsRowsIn : Type 0
RangeIsRowsIn =
    (range : KeyRange) (rs : List Row) → SortedByKey rs → range_part range (flat rs) ≡ flat (rows_in range rs)

abbrev pub RangeKeys : Type 0
RangeKeys =
    (k : ℕ) (range : KeyRange) (rs : List Row)
    → amount_of k (rows_in range rs) ≡ (if nat_le range.from k && nat_le k range.to then amount_of k rs else None)

abbrev pub RangeSorted : Type 0
RangeSorted = (range : KeyRange) (rs : List Row) → SortedByKey rs → SortedByKey (rows_in range rs)

-- the rows of one part whose keys are in another, where all of the first would fit
abbrev pub SharedIsAlsoIn : Type 0
SharedIsAlsoIn =
    (xs ys : List Row) (out : List ℕ) → SortedByKey xs → SortedByKey ys
    → (shared_count (flat xs) (flat ys) out ≡ (if fits xs out then Some (length (also_in xs ys)) else None))
    × (shared_into (flat xs) (flat ys) out ≡ (if fits xs out then in_front (also_in xs ys) out else out))

abbrev pub SharedKeys : Type 0
SharedKeys =
    (k : ℕ) (xs ys : List Row) → amount_of k (also_in xs ys) ≡ (if has_key k ys then amount_of k xs else None)

abbrev pub SharedSorted : Type 0
SharedSorted = (xs ys : List Row) → SortedByKey xs → SortedByKey (also_in xs ys)

-- the total is the number of rows and the sum of their amounts, which does not wrap where each is below 2^32 and so
-- is their number
abbrev pub TotalIsSum : Type 0
TotalIsSum = (rs : List Row) → totals_of (flat rs) ≡ record { rows = length rs; amount = sum rs % 2 ^ 64 }

abbrev pub TotalIsExact : Type 0
TotalIsExact =
    (rs : List Row) → Small rs → length rs < 2 ^ 32 →
    totals_of (flat rs) ≡ record { rows = length rs; amount = sum rs }
