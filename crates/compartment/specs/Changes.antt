-- The changes that the rows of a compartment take, and that a refused one leaves them as they are.
use Rattle.std.specs.Prelude.{◌≡◌, ℕ, ◌*◌, ◌/◌, if◌then◌else◌, ◌||◌, List, length, take, Some, None, Option, refl, ◌==◌, nat_le, nat_lt}
use Rattle.std.proofs.Common.{inl, inr}
use Rattle.std.proofs.lemmas.Bool.{cases_Bool}
use Rattle.base.specs.declared.refusal.Refusal.{Refusal}
use Rattle.base.specs.declared.refusal.Refusal.TheVariants.{NoRoom, NoRow}
use Rattle.merge.specs.Numbers.{count_after, merge_result}
use Rattle.rows.specs.declared.KeyRange.{KeyRange}
use Rattle.rows.specs.declared.Row.{Row}
use Rattle.rows.specs.Numbers.{search_finds, put_count, put_into, delete_count, delete_from}

-- what becomes of the first rows of a part: how many there are, unless the change is refused, what holds them, and
-- why it is refused at a capacity
pub record RowsChange : Type 0 where
  pub count : ℕ → List ℕ → Option ℕ
  pub rows : ℕ → List ℕ → List ℕ
  pub refusal : ℕ → Refusal

-- a row comes in
abbrev pub put_change : Row → RowsChange
put_change row = record {
  count = λ count rows. put_count count row rows;
  rows = λ count rows. put_into count row rows;
  refusal = λ capacity. NoRoom capacity;
}

-- the row with a key goes
abbrev pub delete_change : ℕ → RowsChange
delete_change key = record {
  count = λ count rows. delete_count count key rows;
  rows = λ count rows. delete_from count key rows;
  refusal = λ capacity. NoRow key;
}

-- rows whose keys lie in a range come in
abbrev pub copy_change : List ℕ → KeyRange → RowsChange
copy_change new range = record {
  count = λ count rows. (merge_result new range count rows).count;
  rows = λ count rows. (merge_result new range count rows).rows;
  refusal = λ capacity. NoRoom capacity;
}

-- a number of rows, where there is room for them
abbrev pub fitting : ℕ → List ℕ → Option ℕ
fitting count rows = if nat_le count (length rows / 2) then Some count else None

-- there are so many rows from now on, whatever stands where they lie
abbrev pub refill_change : ℕ → RowsChange
refill_change new = record {
  count = λ count rows. fitting new rows;
  rows = λ count rows. rows;
  refusal = λ capacity. NoRoom capacity;
}

-- rows stay as they are; that is never refused
abbrev pub no_change : RowsChange
no_change = record {
  count = λ count rows. Some count;
  rows = λ count rows. rows;
  refusal = λ capacity. NoRoom capacity;
}

-- what a refused change leaves
abbrev pub LeavesRows : RowsChange → ℕ → List ℕ → Type 0
LeavesRows change count rows = change.count count rows ≡ None → change.rows count rows ≡ rows

pub put_refused : (row : Row) (count : ℕ) (rows : List ℕ) → LeavesRows (put_change row) count rows
put_refused row count rows h =
    elim (cases_Bool (nat_lt (length rows / 2) count)) [
      | inl a ↦ rw a refl
      | inr a ↦
          elim (cases_Bool (search_finds row.key (take (2 * count) rows))) [
            | inl b ↦ let n = rw (a, b) at h in cc
            | inr b ↦
                elim (cases_Bool (count == length rows / 2)) [
                  | inl d ↦ rw (a, b, d) refl
                  | inr d ↦ let n = rw (a, b, d) at h in cc
                ]
          ]
    ]

pub delete_refused : (key count : ℕ) (rows : List ℕ) → LeavesRows (delete_change key) count rows
delete_refused key count rows h =
    elim (cases_Bool (nat_lt (length rows / 2) count)) [
      | inl a ↦ rw a refl
      | inr a ↦
          elim (cases_Bool (search_finds key (take (2 * count) rows))) [
            | inl b ↦ let n = rw (a, b) at h in cc
            | inr b ↦ rw (a, b) refl
          ]
    ]

pub copy_refused : (new : List ℕ) (range : KeyRange) (count : ℕ) (rows : List ℕ)
    → LeavesRows (copy_change new range) count rows
copy_refused new range count rows h =
    let total = count_after new range (take (2 * count) rows) in
    elim (cases_Bool (nat_lt (length rows / 2) count || nat_lt (length rows / 2) total)) [
      | inl a ↦ rw a refl
      | inr a ↦ let n = rw a at h in cc
    ]

pub refill_refused : (new count : ℕ) (rows : List ℕ) → LeavesRows (refill_change new) count rows
refill_refused new count rows h = refl

pub no_change_refused : (count : ℕ) (rows : List ℕ) → LeavesRows no_change count rows
no_change_refused count rows h = refl
