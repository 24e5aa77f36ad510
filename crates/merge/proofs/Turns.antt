-- One turn of the merge, over any memory.
use Rattle.std.proofs.Common.{◌≡◌, ℕ, zero, suc, ◌-◌, ◌<◌, ◌≤◌, Bool, true, false, not, List, [], ◌∷◌, ◌++◌, length, map, reverse, refl, inl, inr, arith}
use Rattle.std.proofs.lemmas.List.{length-set, map-append, reverse-append, nil_from_length}
use Rattle.std.proofs.lemmas.Bool.{cases_Bool}
use Rattle.rows.specs.declared.Row.{Row}
use Rattle.rows.specs.Halving.{pair_row}
use Rattle.merge.specs.Numbers.{keeps, replaces, stepped, written, merging}
use Rattle.merge.specs.declared.Left.{Left}

module _ (row : Row) (left : Left) (m : List ℕ) where
  pub length_written : length (written row left m) ≡ length m
  length_written = elim (cases_Bool (keeps row.key left m)) [ inl e ↦ rw e (simp length-set refl) | inr e ↦ rw e (simp length-set refl) ]

  pub stepped_total : (stepped row.key left m).total ≡ left.total - 1
  stepped_total =
      elim (cases_Bool (keeps row.key left m)) [
        | inl e ↦ rw e refl
        | inr e ↦ elim (cases_Bool (replaces row.key left m)) [ inl f ↦ rw (e, f) refl | inr f ↦ rw (e, f) refl ]
      ]

  pub stepped_count : (stepped row.key left m).count ≤ left.count
  stepped_count =
      elim (cases_Bool (keeps row.key left m)) [
        | inl e ↦ rw e (omega arith)
        | inr e ↦ elim (cases_Bool (replaces row.key left m)) [ inl f ↦ rw (e, f) (omega arith) | inr f ↦ rw (e, f) (omega arith) ]
      ]

  turn_keeps : (places : ℕ) (rows : List Row) → keeps row.key left m ≡ true
      → merging (suc places) (row ∷ rows) left m ≡ merging places (row ∷ rows) (stepped row.key left m) (written row left m)
  unfolding merging
  turn_keeps places rows e = rw e refl

  turn_copies : (places : ℕ) (rows : List Row) → keeps row.key left m ≡ false
      → merging (suc places) (row ∷ rows) left m ≡ merging places rows (stepped row.key left m) (written row left m)
  unfolding merging
  turn_copies places rows e = rw e refl

  pub keeps_more : (rows : List Row) → 0 < left.total → keeps row.key left m ≡ true
      → merging left.total (row ∷ rows) left m ≡ merging (stepped row.key left m).total (row ∷ rows) (stepped row.key left m) (written row left m)
  keeps_more rows l e = rw stepped_total (go left.total l) where
    go : (n : ℕ) → 0 < n → merging n (row ∷ rows) left m ≡ merging (n - 1) (row ∷ rows) (stepped row.key left m) (written row left m)
    go zero l = absurd (omega arith)
    go (suc n) l = let p : suc n - 1 ≡ n = omega arith in rw p (turn_keeps n rows e)

  pub copies_more : (rows : List Row) → 0 < left.total → keeps row.key left m ≡ false
      → merging left.total (row ∷ rows) left m ≡ merging (stepped row.key left m).total rows (stepped row.key left m) (written row left m)
  copies_more rows l e = rw stepped_total (go left.total l) where
    go : (n : ℕ) → 0 < n → merging n (row ∷ rows) left m ≡ merging (n - 1) rows (stepped row.key left m) (written row left m)
    go zero l = absurd (omega arith)
    go (suc n) l = let p : suc n - 1 ≡ n = omega arith in rw p (turn_copies n rows e)

pub merging_none : (places : ℕ) (left : Left) (m : List ℕ) → merging places [] left m ≡ m
unfolding merging
merging_none zero left m = refl
merging_none (suc places) left m = refl

pub merging_full : (places : ℕ) (rows : List Row) (left : Left) (m : List ℕ) → places ≡ 0 → merging places rows left m ≡ m
unfolding merging
merging_full zero rows left m e = refl
merging_full (suc places) rows left m e = absurd (omega arith)

-- the last of the pairs that wait is the first to come
from_behind : (xs front : List (List ℕ)) (row : List ℕ) → xs ≡ front ++ (row ∷ [])
    → reverse (map pair_row xs) ≡ pair_row row ∷ reverse (map pair_row front)
from_behind xs front row e = rw (e, map-append, reverse-append) refl

-- a turn writes it, or a row of the destination
module _ (xs front : List (List ℕ)) (row : List ℕ) (left : Left) (m : List ℕ) (last : xs ≡ front ++ (row ∷ [])) (some : 0 < left.total) where
  pub turn_copied : true ≡ not (keeps (pair_row row).key left m)
      → merging left.total (reverse (map pair_row xs)) left m
      ≡ merging (stepped (pair_row row).key left m).total (reverse (map pair_row front)) (stepped (pair_row row).key left m) (written (pair_row row) left m)
  turn_copied told = rw (from_behind xs front row last) (copies_more (pair_row row) left m (reverse (map pair_row front)) some (by_not _ told)) where
    by_not : (b : Bool) → true ≡ not b → b ≡ false
    by_not true e = e
    by_not false e = refl

  pub turn_kept : false ≡ not (keeps (pair_row row).key left m)
      → merging left.total (reverse (map pair_row xs)) left m
      ≡ merging (stepped (pair_row row).key left m).total (reverse (map pair_row xs)) (stepped (pair_row row).key left m) (written (pair_row row) left m)
  turn_kept told = rw (from_behind xs front row last) (keeps_more (pair_row row) left m (reverse (map pair_row front)) some (by_not _ told)) where
    by_not : (b : Bool) → false ≡ not b → b ≡ true
    by_not true e = refl
    by_not false e = e

pub nothing_waits : (xs : List (List ℕ)) → length xs ≡ 0 → reverse (map pair_row xs) ≡ []
nothing_waits xs e = rw (nil_from_length xs e) refl
