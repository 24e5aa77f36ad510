-- What the calls mean on rows that are sorted by key.
use Rattle.std.specs.Prelude.{◌≡◌, ℕ, ◌+◌, ◌*◌, ◌≤◌, max, true, if◌then◌else◌, List, ◌++◌, length, take, drop, Some, None}
use Rattle.rows.specs.declared.Row.{Row}
use Rattle.rows.specs.declared.KeyRange.{KeyRange}
use Rattle.rows.specs.Rows.{SortedByKey, smaller, put_all, rows_in}
use Rattle.rows.specs.Halving.{flat}
use Rattle.rows.specs.Laws.{fits}
use Rattle.rows.specs.Numbers.{in_front, range_part}
use Rattle.merge.specs.Numbers.{new_keys, count_after, plan, fits_in, merged_into, merge_result}
use Rattle.merge.specs.declared.Copying.{Copying}

-- as many rows more as there are new keys
abbrev pub NewKeysCounts : Type 0
NewKeysCounts =
    (ss ds : List Row) → SortedByKey ss → SortedByKey ds →
    length ds + new_keys (flat ss) (flat ds) ≡ length (put_all ss ds)

-- also where only the rows of a range are copied, and looked at
abbrev pub CountsAfter : Type 0
CountsAfter =
    (range : KeyRange) (ss ds : List Row) → SortedByKey ss → SortedByKey ds
    → count_after (flat (rows_in range ss)) range (flat ds) ≡ length (put_all (rows_in range ss) ds)

-- rows stand in memory from a place on
abbrev pub Stands : List Row → ℕ → List ℕ → Type 0
Stands rs at m = take (2 * length rs) (drop at m) ≡ flat rs

-- memory with rows written from a place on, and nothing else changed
abbrev pub rows_at : ℕ → List Row → List ℕ → List ℕ
rows_at at rs m = take at m ++ (flat rs ++ drop (at + 2 * length rs) m)

-- the numbers by which `ss` come among `ds` from a place on, with `bs` behind them
abbrev pub copying : ℕ → List Row → List Row → List Row → Copying
copying start ss ds bs = record {
  destination = record { start = start; count = length ds };
  behind = length bs;
  total = length (put_all ss ds);
}

-- the rows in front of a range, and those behind it
abbrev pub rows_before : KeyRange → List Row → List Row
rows_before range rs = take (smaller range.from rs) rs

abbrev pub rows_above : KeyRange → List Row → List Row
rows_above range rs = drop (max (smaller range.from rs) (smaller (range.to + 1) rs)) rs

-- the numbers by which the rows of a range come among `ds`
abbrev pub copying_range : KeyRange → List Row → List Row → Copying
copying_range range ss ds =
    copying (2 * smaller range.from ds) (rows_in range ss) (rows_in range ds) (rows_above range ds)

-- the merge is put after put by key, and moves what stands behind, any rows
abbrev pub MergeIsPutAll : Type 0
MergeIsPutAll =
    (m : List ℕ) (start : ℕ) (ss ds bs : List Row) → SortedByKey ss → SortedByKey ds
    → Stands (ds ++ bs) start m → start + 2 * length (put_all ss ds ++ bs) ≤ length m
    → (fits_in (copying start ss ds bs) (length m) ≡ true)
    × (merged_into (flat ss) (copying start ss ds bs) m ≡ rows_at start (put_all ss ds ++ bs) m)

-- the rows to copy are those of the range, the plan has these numbers, and they say how many rows there will be
abbrev pub PlanIsRange : Type 0
PlanIsRange =
    (range : KeyRange) (ss ds : List Row) → SortedByKey ss → SortedByKey ds
    → (range_part range (flat ss) ≡ flat (rows_in range ss))
    × (plan (flat (rows_in range ss)) range (flat ds) ≡ copying_range range ss ds)
    × (length (put_all (rows_in range ss) ds) + length (rows_in range ds)
    ≡ length ds + length (put_all (rows_in range ss) (rows_in range ds)))

-- a copy of the rows of a range is put after put where its rows fit, and else refused; what lies behind the rows stays
abbrev pub CopyIsPutAll : Type 0
CopyIsPutAll =
    (range : KeyRange) (ss ds : List Row) (rest : List ℕ) → SortedByKey ss → SortedByKey ds
    → merge_result (flat (rows_in range ss)) range (length ds) (flat ds ++ rest)
    ≡ (if fits (put_all (rows_in range ss) ds) (flat ds ++ rest)
    then record {
      count = Some (length (put_all (rows_in range ss) ds));
      rows = in_front (put_all (rows_in range ss) ds) (flat ds ++ rest);
    }
    else record { count = None; rows = flat ds ++ rest })
