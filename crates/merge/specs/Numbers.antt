-- What each call makes of the numbers that it is lent, whatever they hold, sorted by key or not.
use Rattle.std.specs.Prelude.{ℕ, zero, suc, ◌+◌, ◌-◌, ◌*◌, ◌/◌, Bool, if◌then◌else◌, ◌&&◌, ◌||◌, List, [], ◌∷◌, ◌++◌, length, reverse, take, drop, Some, None, Option, ◌==◌, nat_le, nat_lt, slice_index, slice_set}
use Rattle.std.specs.declared.cmp.Ordering.{Ordering}
use Rattle.std.specs.declared.cmp.Ordering.TheVariants.{Less, Equal, Greater}
use Rattle.std.proofs.Math.Seq.{paste}
use Rattle.rows.specs.Halving.{rows_of, position}
use Rattle.rows.specs.Numbers.{intersection, range_part}
use Rattle.rows.specs.declared.KeyRange.{KeyRange}
use Rattle.rows.specs.declared.Row.{Row}
use Rattle.merge.specs.declared.Copying.{Copying}
use Rattle.merge.specs.declared.Left.{Left}

-- how many keys of the first part the second lacks, as one pass over both counts them
abbrev pub new_keys : List ℕ → List ℕ → ℕ
new_keys source destination = length source / 2 - length (intersection (rows_of source) (rows_of destination))

-- how many rows there are once some have come among those of a destination: only its rows of a range are looked at
abbrev pub count_after : List ℕ → KeyRange → List ℕ → ℕ
count_after rows range destination = length destination / 2 + new_keys rows (range_part range destination)

-- what a copy of rows whose keys lie in a range comes to
abbrev pub plan : List ℕ → KeyRange → List ℕ → Copying
plan rows range destination = record {
  destination = record {
    start = 2 * position range.from destination;
    count = length (range_part range destination) / 2;
  };
  behind = length destination / 2 - position range.from destination - length (range_part range destination) / 2;
  total = length (range_part range destination) / 2 + new_keys rows (range_part range destination);
}

-- so many numbers hold all rows that there are to be, and none has to go
abbrev pub fits_in : Copying → ℕ → Bool
fits_in c len =
    nat_le c.destination.count c.total && nat_le (c.destination.start + 2 * c.total + 2 * c.behind) len

-- the row at a place
abbrev pub row_at : ℕ → List ℕ → Row
row_at at m = record { key = slice_index m (2 * at); amount = slice_index m (2 * at + 1) }

-- memory with a row written at a place
abbrev pub row_written : ℕ → Row → List ℕ → List ℕ
row_written at row m = slice_set (slice_set m (2 * at) row.key) (2 * at + 1) row.amount

-- the last row left of the destination is greater than the one to copy
abbrev pub keeps : ℕ → Left → List ℕ → Bool
keeps key left m = nat_lt 0 left.count && nat_lt key (slice_index m (2 * (left.count - 1)))

-- it has the same key
abbrev pub replaces : ℕ → Left → List ℕ → Bool
replaces key left m = nat_lt 0 left.count && key == slice_index m (2 * (left.count - 1))

-- how it compares with the one to copy: as less where none is left
abbrev pub compared : ℕ → Left → List ℕ → Ordering
compared key left m = if keeps key left m then Greater else if replaces key left m then Equal else Less

-- what is left after a turn
abbrev pub stepped : ℕ → Left → List ℕ → Left
stepped key left m =
    if keeps key left m then record { count = left.count - 1; total = left.total - 1 }
    else if replaces key left m then record { count = left.count - 1; total = left.total - 1 }
    else record { count = left.count; total = left.total - 1 }

-- what memory holds then: the greater row stands at the last place left, the one to copy where keys are equal
abbrev pub written : Row → Left → List ℕ → List ℕ
written row left m =
    if keeps row.key left m then row_written (left.total - 1) (row_at (left.count - 1) m) m
    else row_written (left.total - 1) row m

-- turn after turn, one for each place, until no row to copy is left; the rows to copy come last one first
unfoldable pub merging : ℕ → List Row → Left → List ℕ → List ℕ
merging zero rows left m = m
merging (suc places) [] left m = m
merging (suc places) (row ∷ rows) left m =
    if keeps row.key left m then merging places (row ∷ rows) (stepped row.key left m) (written row left m)
    else merging places rows (stepped row.key left m) (written row left m)

-- the rows behind those of the destination move to where they will stand
abbrev pub spread : Copying → List ℕ → List ℕ
spread c m =
    paste m (2 * c.total) (drop (2 * c.destination.count) m)
    (2 * c.destination.count + 2 * c.behind - 2 * c.destination.count)

-- memory with the rows merged, where they fit
abbrev pub merged_into : List ℕ → Copying → List ℕ → List ℕ
merged_into rows c m =
    if fits_in c (length m)
    then take c.destination.start m
    ++ merging c.total (reverse (rows_of rows)) (record { count = c.destination.count; total = c.total })
    (spread c (drop c.destination.start m))
    else m

-- how many rows there are after a copy, if it is not refused, and what holds them
pub record MergeResult : Type 0 where
  pub count : Option ℕ
  pub rows : List ℕ

-- rows come among the first `count` of a destination, unless these or all of them have no room there
abbrev pub merge_result : List ℕ → KeyRange → ℕ → List ℕ → MergeResult
merge_result rows range count m =
    if nat_lt (length m / 2) count || nat_lt (length m / 2) (count_after rows range (take (2 * count) m))
    then record { count = None; rows = m }
    else record {
      count = Some (count_after rows range (take (2 * count) m));
      rows = merged_into rows (plan rows range (take (2 * count) m)) m;
    }
