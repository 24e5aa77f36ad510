-- Put, delete, range, total and shared on memory that holds rows that rise are the plain ones on lists.
use Rattle.std.proofs.Common.{◌≡◌, ℕ, zero, suc, ◌+◌, ◌-◌, ◌*◌, ◌<◌, ◌≤◌, max, false, ltb, List, [], ◌∷◌, ◌++◌, length, take, drop, set, refl, ap, inl, inr, arith}
use Rattle.std.proofs.lemmas.Bool.Decides.{nat_tests}
use Rattle.std.proofs.lemmas.List.{append_assoc, drop-drop, length-append}
use Rattle.std.proofs.lemmas.Bool.{cases_Bool, cases_lt, lt-ltb, le-ltb, le-leb, lt-leb}
use Rattle.rows.specs.declared.Row.{Row}
use Rattle.rows.specs.declared.KeyRange.{KeyRange}
use Rattle.rows.specs.Rows.{SortedFrom, has_key, smaller, rows_in, also_in}
use Rattle.rows.specs.Halving.{flat}
use Rattle.rows.specs.Numbers.{insert_row, remove_row, in_front, from_key, first_is, intersection}
use Rattle.rows.proofs.Orders.{up_lower, smaller_none, key_none}
use Rattle.rows.proofs.Places.{flat_append, take_flat, drop_flat}

-- the amount of a row is written over
pub set_flat : (before behind : List Row) (x r : Row) (rest : List ℕ) → x.key ≡ r.key
    → set (flat (before ++ (x ∷ behind)) ++ rest) (2 * length before + 1) r.amount ≡ flat (before ++ (r ∷ behind)) ++ rest
set_flat [] behind x r rest e = ap (λ k. k ∷ r.amount ∷ (flat behind ++ rest)) e
set_flat (y ∷ ys) behind x r rest e =
    let two : 2 * suc (length ys) + 1 ≡ suc (suc (2 * length ys + 1)) = omega arith in
    rw two (ap (λ l. y.key ∷ y.amount ∷ l) (set_flat ys behind x r rest e))

module _ (before behind : List Row) (rest : List ℕ) where
  split_flat : flat (before ++ behind) ++ rest ≡ flat before ++ (flat behind ++ rest)
  split_flat = rw (flat_append before behind) (append_assoc (flat before) (flat behind) rest)

  pub opened_flat : (r : Row)
      → insert_row (length before) (length (before ++ behind)) r (flat (before ++ behind) ++ rest)
      ≡ flat (before ++ (r ∷ behind)) ++ drop (2 * length (before ++ behind) + 2) (flat (before ++ behind) ++ rest)
  opened_flat r =
      let n : 2 * length (before ++ behind) - 2 * length before ≡ 2 * length behind = omega (arith, length-append before behind) in
      rw (
        flat_append before (r ∷ behind),
        append_assoc (flat before) (flat (r ∷ behind)),
        n,
        split_flat,
        take_flat before (flat behind ++ rest),
        drop_flat before (flat behind ++ rest),
        take_flat behind rest,
      ) refl

pub closed_flat : (before : List Row) (x : Row) (behind : List Row) (rest : List ℕ)
    → remove_row (length before) (length (before ++ (x ∷ behind))) (flat (before ++ (x ∷ behind)) ++ rest) ≡ in_front (before ++ behind) (flat (before ++ (x ∷ behind)) ++ rest)
closed_flat before x behind rest =
    let n : 2 * length (before ++ (x ∷ behind)) - (2 * length before + 2) ≡ 2 * length behind = omega (arith, length-append before (x ∷ behind)) in
    let m : 2 * length (before ++ behind) ≡ 2 * length before + 2 * length behind = omega (arith, length-append before behind) in
    rw (
      n,
      m,
      ← drop-drop 2 (2 * length before) (flat (before ++ (x ∷ behind)) ++ rest),
      split_flat before (x ∷ behind) rest,
      take_flat before (flat (x ∷ behind) ++ rest),
      drop_flat before (flat (x ∷ behind) ++ rest),
      take_flat behind rest,
      flat_append before behind,
    ) refl

-- a part of the rows is that part of the memory
pub flat_take : (n : ℕ) (rs : List Row) → take (2 * n) (flat rs) ≡ flat (take n rs)
flat_take zero rs = refl
flat_take (suc n) [] = let e : 2 * suc n ≡ suc (2 * n + 1) = omega arith in rw e refl
flat_take (suc n) (x ∷ xs) =
    let e : 2 * suc n ≡ suc (suc (2 * n)) = omega arith in
    rw e (ap (λ l. x.key ∷ x.amount ∷ l) (flat_take n xs))

pub flat_drop : (n : ℕ) (rs : List Row) → drop (2 * n) (flat rs) ≡ flat (drop n rs)
flat_drop zero rs = refl
flat_drop (suc n) [] = let e : 2 * suc n ≡ suc (2 * n + 1) = omega arith in rw e refl
flat_drop (suc n) (x ∷ xs) =
    let e : 2 * suc n ≡ suc (suc (2 * n)) = omega arith in
    rw e (flat_drop n xs)

-- the rows of a range stand between the smaller ones and those above
pub between_is_rows_in : (range : KeyRange) (low : ℕ) (rs : List Row) → SortedFrom low rs
    → take (max (smaller range.from rs) (smaller (range.to + 1) rs) - smaller range.from rs) (drop (smaller range.from rs) rs) ≡ rows_in range rs
between_is_rows_in range low [] u = refl
between_is_rows_in range low (x ∷ xs) u =
    let s = smaller range.from xs in
    let e = smaller (range.to + 1) xs in
    let i = between_is_rows_in range (suc x.key) xs u.1 in
    elim (cases_lt x.key range.from) [
      | inl a ↦
          let out = lt-leb range.from x.key a in
          elim (cases_lt x.key (range.to + 1)) [
            | inl b ↦
                let n : max (suc s) (suc e) - suc s ≡ max s e - s = omega arith in
                rw (lt-ltb x.key range.from a, lt-ltb x.key (range.to + 1) b, out, n) i
            | inr b ↦
                let z = smaller_none (range.to + 1) (suc x.key) xs (omega arith) u.1 in
                let n : max (suc s) e - suc s ≡ max s e - s = omega arith in
                rw (lt-ltb x.key range.from a, le-ltb x.key (range.to + 1) b, out, n) i
          ]
      | inr a ↦
          let z = smaller_none range.from (suc x.key) xs (omega arith) u.1 in
          elim (cases_lt x.key (range.to + 1)) [
            | inl b ↦
                let n : max 0 (suc e) - 0 ≡ suc (max 0 e - 0) = omega arith in
                rw (le-ltb x.key range.from a, lt-ltb x.key (range.to + 1) b, le-leb range.from x.key a, le-leb x.key range.to (omega arith), z, n)
                (ap (λ l. x ∷ l) (rw z at i))
            | inr b ↦
                let y = smaller_none (range.to + 1) (suc x.key) xs (omega arith) u.1 in
                rw (le-ltb x.key range.from a, le-ltb x.key (range.to + 1) b, le-leb range.from x.key a, lt-leb x.key range.to (omega arith), z, y)
                (rw (z, y) at i)
          ]
    ]

-- one pass over both
up_skipped : (k low : ℕ) (ys : List Row) → SortedFrom low ys → SortedFrom low (from_key k ys)
up_skipped k low [] u = tt
up_skipped k low (y ∷ ys) u =
    elim (cases_Bool (ltb y.key k)) [
      | inl e ↦ rw e (up_lower low _ (from_key k ys) (omega arith) (up_skipped k (suc y.key) ys u.1))
      | inr e ↦ rw e u
    ]

first_skipped : (k low : ℕ) (ys : List Row) → SortedFrom low ys → first_is k (from_key k ys) ≡ has_key k ys
first_skipped k low [] u = refl
first_skipped k low (y ∷ ys) u =
    let i = first_skipped k (suc y.key) ys u.1 in
    let n : k < y.key → has_key k ys ≡ false = λ l. key_none k (suc y.key) ys (omega arith) u.1 in
    grind (arith, nat_tests)

key_skipped : (k j : ℕ) (ys : List Row) → k ≤ j → has_key j (from_key k ys) ≡ has_key j ys
key_skipped k j [] l = refl
key_skipped k j (y ∷ ys) l = let i = key_skipped k j ys l in grind (arith, nat_tests)

also_skipped : (k low : ℕ) (xs ys : List Row) → k ≤ low → SortedFrom low xs → also_in xs (from_key k ys) ≡ also_in xs ys
also_skipped k low [] ys l u = refl
also_skipped k low (x ∷ xs) ys l u =
    rw (key_skipped k x.key ys (omega arith), also_skipped k (suc x.key) xs ys (omega arith) u.1) refl

pub merged_also_in : (low high : ℕ) (xs ys : List Row) → SortedFrom low xs → SortedFrom high ys → intersection xs ys ≡ also_in xs ys
merged_also_in low high [] ys u v = refl
merged_also_in low high (x ∷ xs) ys u v =
    rw (
      first_skipped x.key high ys v,
      merged_also_in (suc x.key) high xs (from_key x.key ys) u.1 (up_skipped x.key high ys v),
      also_skipped x.key (suc x.key) xs ys (omega arith) u.1,
    ) refl
