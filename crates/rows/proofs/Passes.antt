-- One pass over two parts: what is skipped, and what a turn adds.
use Rattle.std.proofs.Common.{◌≡◌, ℕ, suc, ◌+◌, ◌*◌, ◌/◌, ◌<◌, ◌≤◌, ltb, List, [], ◌∷◌, ◌++◌, length, get_or, take, drop, set, map, sym, refl, ◌∙◌, inl, inr, arith}
use Rattle.std.proofs.lemmas.List.{append_assoc, append-nil, take-append-drop}
use Rattle.std.proofs.lemmas.Bool.{cases_Bool, lt-ltb, le-ltb, cases_lt}
use Rattle.std.specs.List.{prefix_len}
use Rattle.rows.specs.declared.Row.{Row}
use Rattle.rows.specs.Halving.{flat, pair_row, rows_of}
use Rattle.rows.specs.Numbers.{from_key, first_is, intersection, stands_at, in_front}
use Rattle.rows.proofs.Memory.{rows_more, rows_none, take_written, drop_written}
use Rattle.rows.proofs.Paired.{length_rows_of}

module _ (xs : List ℕ) (i key : ℕ) where
  pub first_is_at : first_is key (rows_of (drop (2 * i) xs)) ≡ stands_at i key xs
  first_is_at =
      elim (cases_lt i (length xs / 2)) [
        | inl h ↦ rw (rows_more xs i h, lt-ltb i (length xs / 2) h) refl
        | inr h ↦ rw (rows_none xs i h, le-ltb i (length xs / 2) h) refl
      ]

-- the smaller keys in front are passed over
pub skipped_pairs : (key : ℕ) (xs : List (List ℕ)) → map pair_row (drop (prefix_len (λ x. ltb (get_or x 0 0) key) xs) xs) ≡ from_key key (map pair_row xs)
skipped_pairs key [] = refl
skipped_pairs key (x ∷ xs) =
    elim (cases_Bool (ltb (get_or x 0 0) key)) [
      | inl e ↦ rw e (let n : 1 + prefix_len (λ x. ltb (get_or x 0 0) key) xs ≡ suc (prefix_len (λ x. ltb (get_or x 0 0) key) xs) = omega arith in rw n (skipped_pairs key xs))
      | inr e ↦ rw e refl
    ]

-- a pass comes to no more rows than it goes through
pub length_merged : (xs ys : List Row) → length (intersection xs ys) ≤ length xs
length_merged [] ys = omega arith
length_merged (x ∷ xs) ys =
    let i = length_merged xs (from_key x.key ys) in
    elim (cases_Bool (first_is x.key (from_key x.key ys))) [
      | inl e ↦ rw e (omega arith)
      | inr e ↦ rw e (omega arith)
    ]

pub length_shared : (xs ys : List ℕ) → length (intersection (rows_of xs) (rows_of ys)) ≤ length xs / 2
length_shared xs ys = omega (arith, length_merged (rows_of xs) (rows_of ys), length_rows_of xs)

-- where a pass stands: w rows are written, and the others are still to come
pub record Passed (all left : List Row) (start : List ℕ) (w : ℕ) (out : List ℕ) : Type 0 where
  pub count : w + length left ≡ length all
  pub front : take (2 * w) out ++ flat left ≡ flat all
  pub behind : drop (2 * w) out ≡ drop (2 * w) start

module _ (all : List Row) (start : List ℕ) (w : ℕ) (out : List ℕ) where
  pub still_room : (x : Row) (left : List Row) → Passed all (x ∷ left) start w out → w < length all
  still_room x left so = omega (arith, so.count)

  pub passed_one : (x : Row) (left : List Row) → Passed all (x ∷ left) start w out → 2 * length all ≤ length out
      → Passed all left start (w + 1) (set (set out (2 * w) x.key) (2 * w + 1) x.amount)
  passed_one x left so room =
      let n = so.count in
      record {
        count = omega arith;
        front = rw (take_written out w x.key x.amount (omega arith), append_assoc) so.front;
        behind = drop_written out w x.key x.amount (omega arith) start so.behind;
      }

  pub passed_all : Passed all [] start w out → (w ≡ length all) × (out ≡ in_front all start)
  passed_all so =
      let len : w ≡ length all = omega (arith, so.count) in
      let front : take (2 * w) out ≡ flat all = sym (append-nil (take (2 * w) out)) ∙ so.front in
      (len, rw (← front, ← len, ← so.behind) (sym (take-append-drop (2 * w) out)))
