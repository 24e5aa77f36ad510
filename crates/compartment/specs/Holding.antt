-- A part that holds a version and rows, and what the calls mean there, said of rows.
use Rattle.std.specs.Prelude.{◌≡◌, ℕ, suc, ◌+◌, ◌*◌, ◌^◌, ◌<◌, ◌≤◌, false, if◌then◌else◌, List, [], ◌∷◌, ◌++◌, length, drop, replicate, is_ok, Ok, Err, Result, nat_le, nat_lt, slice_index}
use Rattle.rows.specs.declared.Row.{Row}
use Rattle.rows.specs.Rows.{SortedByKey, put, put_all, without, has_key, rows_in}
use Rattle.rows.specs.Halving.{flat}
use Rattle.rows.specs.Numbers.{in_front}
use Rattle.policy.specs.declared.place.Written.{Written}
use Rattle.base.specs.declared.refusal.Refusal.{Refusal}
use Rattle.base.specs.declared.refusal.Refusal.TheVariants.{NoRoom, NoRow, LastVersion}
use Rattle.compartment.specs.declared.copying.Copying.{Copying}
use Rattle.compartment.specs.Changes.{RowsChange}
use Rattle.compartment.specs.Parts.{limit, count_told, rows_part, change_part, write_part, delete_part, copy_part, refill_part, raise_part}
use Rattle.std.specs.List.{AllByRecursion}

-- a row as requests have it
abbrev pub FitsU32s : Row → Type 0
FitsU32s x = (x.key < 2 ^ 32) × (x.amount < 2 ^ 32)

-- a part of this capacity holds the version and the rows, with anything behind them
pub record PartHolds (capacity version : ℕ) (rows : List Row) (part : List ℕ) : Type 0 where
  pub rest : List ℕ
  pub is : part ≡ version ∷ length rows ∷ (flat rows ++ rest)
  pub long : length part ≡ 2 + 2 * capacity
  pub sorted : SortedByKey rows
  pub small : AllByRecursion FitsU32s rows
  pub fits : length rows ≤ capacity
  pub bounded : version < limit

-- a compartment changes, unless its version is as high as it may be
abbrev pub version_check : ℕ → ℕ → Result (Unit {0}) Refusal
version_check compartment version = if nat_lt (suc version) limit then Ok tt else Err (LastVersion compartment)

-- so many rows come into it, unless they are too many
abbrev pub room_check : ℕ → ℕ → ℕ → ℕ → Result (Unit {0}) Refusal
room_check capacity compartment version count =
    if nat_le count capacity then version_check compartment version else Err (NoRoom capacity)

-- zeros hold no rows
abbrev pub EmptyHolds : Type 0
EmptyHolds = (capacity : ℕ) → PartHolds capacity 0 [] (replicate (2 + 2 * capacity) 0)

-- such a part is in bounds, and the check gives its number of rows
abbrev pub CheckCounts : Type 0
CheckCounts =
    (capacity version : ℕ) (rows : List Row) (part : List ℕ) → PartHolds capacity version rows part
    → ((start : ℕ) → count_told start part ≡ Ok (length rows)) × (slice_index part 0 ≡ version)

-- and these are its rows
abbrev pub RowsAreFlat : Type 0
RowsAreFlat =
    (capacity version : ℕ) (rows : List Row) (part : List ℕ) → PartHolds capacity version rows part
    → rows_part (length rows) part ≡ flat rows

-- a refused change leaves the part, whatever it holds
abbrev pub RefusedChangeLeaves : Type 0
RefusedChangeLeaves =
    (w : Written) (change : RowsChange) (part : List ℕ)
    → is_ok (change_part w change part).told ≡ false → (change_part w change part).memory ≡ part

-- a write tells whether there is room for the row and the version may rise
abbrev pub WriteTells : Type 0
WriteTells =
    (capacity version : ℕ) (w : Written) (row : Row) (rows : List Row) (part : List ℕ)
    → PartHolds capacity version rows part
    → (write_part w row part).told ≡ room_check capacity w.compartment version (length (put row rows))

-- and a part where it is done holds the rows with this one, one version on
abbrev pub WriteHolds : Type 0
WriteHolds =
    (capacity version : ℕ) (w : Written) (row : Row) (rows : List Row) (part : List ℕ)
    → PartHolds capacity version rows part
    → FitsU32s row → (write_part w row part).told ≡ Ok tt
    → PartHolds capacity (suc version) (put row rows) (write_part w row part).memory

-- a delete tells whether there is a row with the key and the version may rise
abbrev pub DeleteTells : Type 0
DeleteTells =
    (capacity version : ℕ) (w : Written) (key : ℕ) (rows : List Row) (part : List ℕ)
    → PartHolds capacity version rows part
    → (delete_part w key part).told
    ≡ (if has_key key rows then version_check w.compartment version else Err (NoRow key))

-- and a part where it is done holds the rows without it, one version on
abbrev pub DeleteHolds : Type 0
DeleteHolds =
    (capacity version : ℕ) (w : Written) (key : ℕ) (rows : List Row) (part : List ℕ)
    → PartHolds capacity version rows part
    → (delete_part w key part).told ≡ Ok tt
    → PartHolds capacity (suc version) (without key rows) (delete_part w key part).memory

-- a part that rows are copied from, and the one that they are copied into
pub record BothHold (source_rows rows : List Row) (capacity version : ℕ) (source part : List ℕ) : Type 0 where
  pub source_capacity : ℕ
  pub source_version : ℕ
  pub source_holds : PartHolds source_capacity source_version source_rows source
  pub holds : PartHolds capacity version rows part

-- a copy tells whether there is room for the rows of the range and the version may rise
abbrev pub CopyTells : Type 0
CopyTells =
    (c : Copying) (capacity version : ℕ) (source_rows rows : List Row) (source part : List ℕ)
    → BothHold source_rows rows capacity version source part
    → (copy_part c source part).told
    ≡ room_check capacity c.written.compartment version (length (put_all (rows_in c.range source_rows) rows))

-- and a part where it is done holds these too, put one after another, one version on
abbrev pub CopyHolds : Type 0
CopyHolds =
    (c : Copying) (capacity version : ℕ) (source_rows rows : List Row) (source part : List ℕ)
    → BothHold source_rows rows capacity version source part
    → (copy_part c source part).told ≡ Ok tt
    → PartHolds capacity (suc version) (put_all (rows_in c.range source_rows) rows) (copy_part c source part).memory

-- a refused copy leaves the part that it would have changed
abbrev pub RefusedCopyLeaves : Type 0
RefusedCopyLeaves =
    (c : Copying) (source part : List ℕ)
    → is_ok (copy_part c source part).told ≡ false → (copy_part c source part).memory ≡ part

-- a refill tells whether there is room for so many rows and the version may rise
abbrev pub RefillTells : Type 0
RefillTells =
    (capacity version : ℕ) (w : Written) (count : ℕ) (rows : List Row) (part : List ℕ)
    → PartHolds capacity version rows part
    → (refill_part w count part).told ≡ room_check capacity w.compartment version count

-- and where it is done it sets the two numbers, and nothing else
abbrev pub RefillLeaves : Type 0
RefillLeaves =
    (capacity version : ℕ) (w : Written) (count : ℕ) (rows : List Row) (part : List ℕ)
    → PartHolds capacity version rows part
    → (refill_part w count part).told ≡ Ok tt → (refill_part w count part).memory ≡ suc version ∷ count ∷ drop 2 part

-- to as many rows as there are
abbrev pub RefillHolds : Type 0
RefillHolds =
    (capacity version : ℕ) (w : Written) (rows : List Row) (part : List ℕ) → PartHolds capacity version rows part
    → (refill_part w (length rows) part).told ≡ Ok tt
    → PartHolds capacity (suc version) rows (refill_part w (length rows) part).memory

-- other rows in front, one version on
abbrev pub RefilledHolds : Type 0
RefilledHolds =
    (capacity version : ℕ) (rows new : List Row) (part after : List ℕ) → PartHolds capacity version rows part
    → SortedByKey new → AllByRecursion FitsU32s new → length new ≤ capacity → suc version < limit
    → after ≡ suc version ∷ length new ∷ in_front new (drop 2 part)
    → PartHolds capacity (suc version) new after

-- a raise tells whether the version may rise
abbrev pub RaiseTells : Type 0
RaiseTells =
    (capacity version : ℕ) (w : Written) (rows : List Row) (part : List ℕ) → PartHolds capacity version rows part
    → (raise_part w part).told ≡ version_check w.compartment version

-- and a part where it is done holds the same rows
abbrev pub RaiseHolds : Type 0
RaiseHolds =
    (capacity version : ℕ) (w : Written) (rows : List Row) (part : List ℕ) → PartHolds capacity version rows part
    → (raise_part w part).told ≡ Ok tt → PartHolds capacity (suc version) rows (raise_part w part).memory
