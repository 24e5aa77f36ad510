-- Rows read from numbers one by one, and two numbers written.
use Rattle.std.proofs.Common.{◌≡◌, ℕ, ◌+◌, ◌*◌, ◌/◌, ◌<◌, ◌≤◌, List, [], ◌∷◌, ◌++◌, length, get_or, take, drop, set, sym, refl, ap, ◌∙◌, arith, length-drop}
use lib.Seq.{paste}
use Rattle.std.proofs.lemmas.List.{append_assoc, drop_more, take_more, take_more_set, drop-set-lt, drop-drop, set_at, length-set, length_push, length-take-le}
use Rattle.rows.specs.declared.Row.{Row}
use Rattle.rows.specs.Halving.{rows_of}

-- the row at a place
abbrev pub row_at : ℕ → List ℕ → Row
row_at i xs = record { key = get_or xs (2 * i) 0; amount = get_or xs (2 * i + 1) 0 }

pub rows_more : (xs : List ℕ) (i : ℕ) → i < length xs / 2 → rows_of (drop (2 * i) xs) ≡ row_at i xs ∷ rows_of (drop (2 * (i + 1)) xs)
rows_more xs i h =
    let one : drop (2 * i) xs ≡ get_or xs (2 * i) 0 ∷ drop (2 * i + 1) xs = drop_more xs (2 * i) 0 (omega arith) in
    let two : drop (2 * i + 1) xs ≡ get_or xs (2 * i + 1) 0 ∷ drop (2 * i + 1 + 1) xs = drop_more xs (2 * i + 1) 0 (omega arith) in
    let e : 2 * i + 1 + 1 ≡ 2 * (i + 1) = omega arith in
    rw (one, two, e) refl

few : (xs : List ℕ) → length xs < 2 → rows_of xs ≡ []
few [] h = refl
few (x ∷ []) h = refl
few (x ∷ y ∷ xs) h = absurd (omega arith)

pub rows_none : (xs : List ℕ) (i : ℕ) → length xs / 2 ≤ i → rows_of (drop (2 * i) xs) ≡ []
rows_none xs i h = few (drop (2 * i) xs) (simp length-drop (omega arith))

pub write_two : (p : List ℕ) (u v k a : ℕ) (q : List ℕ) (n : ℕ) → length p ≡ n → set (set (p ++ (u ∷ v ∷ q)) n k) (n + 1) a ≡ p ++ (k ∷ a ∷ q)
write_two p u v k a q n e =
    rw (set_at p u (v ∷ q) k n e)
    (sym (ap (λ l. set l (n + 1) a) (append_assoc p (k ∷ []) (v ∷ q)))
    ∙ set_at (p ++ k ∷ []) v q a (n + 1) (length_push p k ∙ ap (λ m. m + 1) e)
    ∙ append_assoc p (k ∷ []) (a ∷ q))

take_two : (xs : List ℕ) (n : ℕ) → n + 2 ≤ length xs → take (n + 2) xs ≡ take n xs ++ (get_or xs n 0 ∷ get_or xs (n + 1) 0 ∷ [])
take_two xs n h =
    let e : n + 2 ≡ n + 1 + 1 = omega arith in
    rw (e, take_more xs (n + 1) 0 (omega arith), take_more xs n 0 (omega arith))
    (append_assoc (take n xs) (get_or xs n 0 ∷ []) (get_or xs (n + 1) 0 ∷ []))

-- a part moves on by two numbers, and two are written where it was
pub opened_is : (xs : List ℕ) (n m k a : ℕ) → n + 2 + m ≤ length xs
    → set (set (paste xs (n + 2) (drop n xs) m) n k) (n + 1) a ≡ take n xs ++ (k ∷ a ∷ (take m (drop n xs) ++ drop (n + 2 + m) xs))
opened_is xs n m k a h =
    let two = take_two xs n (omega arith) in
    rw (
      two,
      append_assoc (take n xs ++ (get_or xs n 0 ∷ get_or xs (n + 1) 0 ∷ [])) (take m (drop n xs)) (drop (n + 2 + m) xs),
      append_assoc (take n xs) (get_or xs n 0 ∷ get_or xs (n + 1) 0 ∷ []) (take m (drop n xs) ++ drop (n + 2 + m) xs),
    )
    (write_two (take n xs) _ _ k a _ n (length-take-le n xs (omega arith)))

module _ (xs : List ℕ) (w k a : ℕ) (h : 2 * w + 2 ≤ length xs) where
  -- a row written behind w others: what stands in front then, and what behind
  pub take_written : take (2 * (w + 1)) (set (set xs (2 * w) k) (2 * w + 1) a) ≡ take (2 * w) xs ++ (k ∷ a ∷ [])
  take_written =
      let e : 2 * (w + 1) ≡ 2 * w + 1 + 1 = omega arith in
      let f : 2 * w + 1 < length (set xs (2 * w) k) = simp length-set (omega arith) in
      rw (e, take_more_set (set xs (2 * w) k) (2 * w + 1) a f, take_more_set xs (2 * w) k (omega arith))
      (append_assoc (take (2 * w) xs) (k ∷ []) (a ∷ []))

  pub drop_written : (ys : List ℕ) → drop (2 * w) xs ≡ drop (2 * w) ys → drop (2 * (w + 1)) (set (set xs (2 * w) k) (2 * w + 1) a) ≡ drop (2 * (w + 1)) ys
  drop_written ys e =
      let two : 2 * (w + 1) ≡ 2 * w + 2 = omega arith in
      rw (
        drop-set-lt (2 * (w + 1)) (set xs (2 * w) k) (2 * w + 1) a (omega arith),
        drop-set-lt (2 * (w + 1)) xs (2 * w) k (omega arith),
        two,
        ← drop-drop 2 (2 * w) xs,
        ← drop-drop 2 (2 * w) ys,
        e,
      ) refl
