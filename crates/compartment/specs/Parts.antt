-- What each call tells of a compartment's part of memory and makes of it, whatever it holds.
use Rattle.std.specs.Prelude.{ℕ, ◌+◌, ◌-◌, ◌*◌, ◌/◌, ◌^◌, min, Bool, if◌then◌else◌, ◌&&◌, List, [], ◌++◌, length, take, drop, ok_or, Ok, Err, Result, nat_le, nat_lt, slice_index, slice_set}
use Rattle.rows.specs.declared.KeyRange.{KeyRange}
use Rattle.rows.specs.declared.Row.{Row}
use Rattle.rows.specs.Numbers.{range_part}
use Rattle.policy.specs.declared.place.Written.{Written}
use Rattle.base.specs.declared.refusal.Refusal.{Refusal}
use Rattle.base.specs.declared.refusal.Refusal.TheVariants.{OutOfBounds, LastVersion}
use Rattle.compartment.specs.declared.copying.Copying.{Copying}
use Rattle.compartment.specs.declared.copying.Counts.{Counts}
use Rattle.compartment.specs.ChangeResult.{ChangeResult, refused_change, change_unless_refused}
use Rattle.compartment.specs.Changes.{RowsChange, put_change, delete_change, copy_change, refill_change, no_change}

-- every version is below it
abbrev pub limit : ℕ
limit = 2 ^ 40

-- how many rows there is room for
abbrev pub capacity : List ℕ → ℕ
capacity part = (length part - 2) / 2

-- the version is there and in bounds
abbrev pub version_fits : List ℕ → Bool
version_fits part = nat_le 2 (length part) && nat_lt (slice_index part 0) limit

-- the number of rows is, too
abbrev pub in_bounds : List ℕ → Bool
in_bounds part = version_fits part && nat_le (slice_index part 1) (capacity part)

-- which of the two is at fault, by its place in memory; a part that begins at the last place of all has no second one
abbrev pub fault : ℕ → List ℕ → Refusal
fault start part = OutOfBounds (if version_fits part then min (start + 1) (2 ^ 64 - 1) else start)

abbrev pub count_told : ℕ → List ℕ → Result ℕ Refusal
count_told start part = if in_bounds part then Ok (slice_index part 1) else Err (fault start part)

-- the first rows, where there are as many
abbrev pub rows_part : ℕ → List ℕ → List ℕ
rows_part count part = if nat_le (2 + 2 * count) (length part) then take (2 * count) (drop 2 part) else []

-- a part with this version and this number of rows
abbrev pub with_heading : ℕ → ℕ → List ℕ → List ℕ
with_heading version count part = slice_set (slice_set part 0 version) 1 count

-- other rows, one version on, unless the version is as high as it may be
abbrev pub next_version : ℕ → List ℕ → List ℕ → ℕ → ChangeResult
next_version compartment part changed count =
    if nat_lt (slice_index part 0 + 1) limit
    then record { told = Ok tt; memory = with_heading (slice_index part 0 + 1) count changed }
    else refused_change part (LastVersion compartment)

-- the first rows of a part are changed: where both refuse, the rows do
abbrev pub change_rows : ℕ → RowsChange → ℕ → List ℕ → ChangeResult
change_rows compartment change count part =
    change_unless_refused part (ok_or (change.count count (drop 2 part)) (change.refusal (capacity part)))
    (λ new. next_version compartment part (take 2 part ++ change.rows count (drop 2 part)) new)

-- any change of a part by itself
abbrev pub change_part : Written → RowsChange → List ℕ → ChangeResult
change_part w change part =
    change_unless_refused part (count_told w.place.start part) (λ count. change_rows w.compartment change count part)

abbrev pub write_part : Written → Row → List ℕ → ChangeResult
write_part w row part = change_part w (put_change row) part

abbrev pub delete_part : Written → ℕ → List ℕ → ChangeResult
delete_part w key part = change_part w (delete_change key) part

-- one version on, and another number of rows
abbrev pub refill_part : Written → ℕ → List ℕ → ChangeResult
refill_part w count part = change_part w (refill_change count) part

-- one version on, and no row of it
abbrev pub raise_part : Written → List ℕ → ChangeResult
raise_part w part = change_part w no_change part

-- the numbers of rows of two parts, or the refusal of the one that lies first
abbrev pub both_counts : Bool → Result ℕ Refusal → Result ℕ Refusal → Result Counts Refusal
both_counts source_first (Ok m) (Ok n) = Ok (record { source = m; destination = n })
both_counts source_first (Err e) (Ok n) = Err e
both_counts source_first (Ok m) (Err e) = Err e
both_counts source_first (Err e) (Err f) = Err (if source_first then e else f)

abbrev pub counts_of : Copying → List ℕ → List ℕ → Result Counts Refusal
counts_of c source part =
    both_counts (nat_lt c.from.start c.written.place.start)
    (count_told c.from.start source) (count_told c.written.place.start part)

-- the rows to copy
abbrev pub rows_to_copy : KeyRange → ℕ → List ℕ → List ℕ
rows_to_copy range count source = range_part range (take (2 * count) (drop 2 source))

-- rows of another part are copied into a part
abbrev pub copy_part : Copying → List ℕ → List ℕ → ChangeResult
copy_part c source part =
    change_unless_refused part (counts_of c source part)
    (λ counts. change_rows c.written.compartment
    (copy_change (rows_to_copy c.range counts.source source) c.range) counts.destination part)
