-- What was written is read back.
use Rattle.std.proofs.Common.{◌≡◌, ℕ, ◌≤◌, List, [], ◌∷◌, ◌++◌, map, length, take, drop, replicate, refl, ap, arith, length-drop}
use Rattle.std.proofs.lemmas.List.{take_at, drop_at, append_assoc, length-append}
use Rattle.rows.specs.declared.Row.{Row}
use Rattle.rows.specs.Halving.{flat, rows_of}
use Rattle.query.specs.AnswerRows.{written_row, split, all_rows}

pub rows_in_front : (rs : List Row) (rest : List ℕ) → rows_of (flat rs ++ rest) ≡ rs ++ rows_of rest
rows_in_front [] rest = refl
rows_in_front (x ∷ rs) rest = ap (λ l. x ∷ l) (rows_in_front rs rest)

pub split_all : (ls : List (List Row)) (rest : List Row) → split (map (λ l. length l) ls) (all_rows ls ++ rest) ≡ ls
split_all [] rest = refl
split_all (l ∷ ls) rest =
    rw (append_assoc l (all_rows ls) rest, take_at l (all_rows ls ++ rest) (length l) refl, drop_at l (all_rows ls ++ rest) (length l) refl, split_all ls rest) refl

module _ (heads rs row : List ℕ) (h : length heads ≤ 32) where
  pub heads_back : take (length heads) (written_row heads rs row) ≡ heads
  heads_back =
      rw (append_assoc heads (drop (length heads) (replicate 32 0)) (rs ++ drop (length rs) (drop 32 row)))
      (take_at heads _ (length heads) refl)

  pub rows_back : drop 32 (written_row heads rs row) ≡ rs ++ drop (length rs) (drop 32 row)
  rows_back = drop_at (heads ++ drop (length heads) (replicate 32 0)) _ 32 (simp (length-append, length-drop) (omega arith))

  -- lists of rows, by the counts in the header
  pub lists_back : (ls : List (List Row)) (n : ℕ) → n ≡ length heads → heads ≡ map (λ l. length l) ls → rs ≡ flat (all_rows ls)
      → split (take n (written_row heads rs row)) (rows_of (drop 32 (written_row heads rs row))) ≡ ls
  lists_back ls n e f g =
      rw (e, heads_back, rows_back)
      (rw (f, g, rows_in_front (all_rows ls) (drop (length (flat (all_rows ls))) (drop 32 row))) (split_all ls _))

-- one list of rows
pub list_back : (heads row : List ℕ) (rs : List Row) → length heads ≤ 32 → take (length rs) (rows_of (drop 32 (written_row heads (flat rs) row))) ≡ rs
list_back heads row rs h = rw (rows_back heads (flat rs) row h, rows_in_front rs (drop (length (flat rs)) (drop 32 row))) (take_at rs _ (length rs) refl)
