-- Rows that rise: what is not among them, and what put, delete, a range and a comparison keep.
use Rattle.std.proofs.Common.{◌≡◌, ℕ, suc, ◌<◌, ◌≤◌, false, cond, eqb, ltb, List, [], ◌∷◌, length, refl, ap, inl, inr, arith}
use Rattle.std.proofs.lemmas.Bool.Decides.{nat_tests}
use Rattle.std.proofs.lemmas.Bool.{cases_Bool, ltb-true, ltb-false, eqb-true, eqb-false}
use Rattle.rows.specs.declared.Row.{Row}
use Rattle.rows.specs.declared.KeyRange.{KeyRange}
use Rattle.rows.specs.Rows.{SortedFrom, SortedByKey, has_key, smaller, put, put_all, without, in_range, rows_in, also_in}
use Rattle.std.specs.List.{AllByRecursion}

pub up_lower : (low high : ℕ) (rs : List Row) → low ≤ high → SortedFrom high rs → SortedFrom low rs
up_lower low high [] l u = tt
up_lower low high (x ∷ xs) l u = (omega arith, u.1)

pub smaller_none : (k low : ℕ) (rs : List Row) → k ≤ low → SortedFrom low rs → smaller k rs ≡ 0
smaller_none k low [] l u = refl
smaller_none k low (x ∷ xs) l u = let i = smaller_none k (suc x.key) xs (omega arith) u.1 in grind (arith, nat_tests)

pub smaller_within : (k : ℕ) (rs : List Row) → smaller k rs ≤ length rs
smaller_within k [] = omega arith
smaller_within k (x ∷ xs) = let i = smaller_within k xs in grind (arith, nat_tests)

pub key_none : (k low : ℕ) (rs : List Row) → k < low → SortedFrom low rs → has_key k rs ≡ false
key_none k low [] l u = refl
key_none k low (x ∷ xs) l u = let i = key_none k (suc x.key) xs (omega arith) u.1 in grind (arith, nat_tests)

pub without_none : (k : ℕ) (rs : List Row) → has_key k rs ≡ false → without k rs ≡ rs
without_none k [] h = refl
without_none k (x ∷ xs) h =
    let i = without_none k xs in
    elim (cases_Bool (eqb x.key k)) [
      | inl e ↦ let h2 = rw e at h in grind (arith, nat_tests)
      | inr e ↦ let h2 = rw e at h in rw e (ap (λ l. x ∷ l) (i h2))
    ]

-- rows that rise still rise
pub up_put : (low : ℕ) (r : Row) (rs : List Row) → low ≤ r.key → SortedFrom low rs → SortedFrom low (put r rs)
up_put low r [] l u = (l, tt)
up_put low r (x ∷ xs) l u =
    elim (cases_Bool (ltb x.key r.key)) [
      | inl e ↦ let h = ltb-true x.key r.key e in rw e (u.0, up_put (suc x.key) r xs (omega arith) u.1)
      | inr e ↦ let h = ltb-false x.key r.key e in
          rw e (elim (cases_Bool (eqb x.key r.key)) [
            | inl f ↦ let g = eqb-true x.key r.key f in rw f (l, up_lower _ _ xs (omega arith) u.1)
            | inr f ↦ let g = eqb-false x.key r.key f in rw f (l, (omega arith, u.1))
          ])
    ]

pub up_without : (low k : ℕ) (rs : List Row) → SortedFrom low rs → SortedFrom low (without k rs)
up_without low k [] u = tt
up_without low k (x ∷ xs) u =
    elim (cases_Bool (eqb x.key k)) [
      | inl e ↦ rw e (up_lower low _ xs (omega arith) u.1)
      | inr e ↦ rw e (u.0, up_without (suc x.key) k xs u.1)
    ]

pub up_rows_in : (low : ℕ) (range : KeyRange) (rs : List Row) → SortedFrom low rs → SortedFrom low (rows_in range rs)
up_rows_in low range [] u = tt
up_rows_in low range (x ∷ xs) u =
    let i = up_rows_in (suc x.key) range xs u.1 in
    elim (cases_Bool (in_range range x)) [
      | inl e ↦ rw e (u.0, i)
      | inr e ↦ rw e (up_lower low _ (rows_in range xs) (omega arith) i)
    ]

pub up_also_in : (low : ℕ) (rs ys : List Row) → SortedFrom low rs → SortedFrom low (also_in rs ys)
up_also_in low [] ys u = tt
up_also_in low (x ∷ xs) ys u =
    let i = up_also_in (suc x.key) xs ys u.1 in
    elim (cases_Bool (has_key x.key ys)) [
      | inl e ↦ rw e (u.0, i)
      | inr e ↦ rw e (up_lower low _ (also_in xs ys) (omega arith) i)
    ]

pub rising_put_all : (ps rs : List Row) → SortedByKey rs → SortedByKey (put_all ps rs)
rising_put_all [] rs u = u
rising_put_all (p ∷ ps) rs u = rising_put_all ps (put p rs) (up_put 0 p rs (omega arith) u)

-- how many rows there are
pub length_put : (r : Row) (rs : List Row) → SortedByKey rs → length (put r rs) ≡ cond (has_key r.key rs) (length rs) (suc (length rs))
length_put r rs u = go 0 rs u where
  go : (low : ℕ) (rs : List Row) → SortedFrom low rs → length (put r rs) ≡ cond (has_key r.key rs) (length rs) (suc (length rs))
  go low [] u = refl
  go low (x ∷ xs) u =
      let i = go (suc x.key) xs u.1 in
      let n : r.key < x.key → has_key r.key xs ≡ false = λ l. key_none r.key (suc x.key) xs (omega arith) u.1 in
      grind (arith, nat_tests)

pub length_without : (k : ℕ) (rs : List Row) → length rs ≡ cond (has_key k rs) (suc (length (without k rs))) (length (without k rs))
length_without k [] = refl
length_without k (x ∷ xs) = let i = length_without k xs in grind (arith, nat_tests)

-- what holds of each row still does
module _ (P : Row → Type 0) where
  pub all_put : (r : Row) (rs : List Row) → P r → AllByRecursion P rs → AllByRecursion P (put r rs)
  all_put r [] p a = (p, tt)
  all_put r (x ∷ xs) p a =
      elim (cases_Bool (ltb x.key r.key)) [
        | inl e ↦ rw e (a.0, all_put r xs p a.1)
        | inr e ↦ rw e (elim (cases_Bool (eqb x.key r.key)) [ inl f ↦ rw f (p, a.1) | inr f ↦ rw f (p, a) ])
      ]

  pub all_put_all : (ps rs : List Row) → AllByRecursion P ps → AllByRecursion P rs → AllByRecursion P (put_all ps rs)
  all_put_all [] rs p a = a
  all_put_all (x ∷ xs) rs p a = all_put_all xs (put x rs) p.1 (all_put x rs p.0 a)

  pub all_without : (k : ℕ) (rs : List Row) → AllByRecursion P rs → AllByRecursion P (without k rs)
  all_without k [] a = tt
  all_without k (x ∷ xs) a =
      elim (cases_Bool (eqb x.key k)) [ inl e ↦ rw e a.1 | inr e ↦ rw e (a.0, all_without k xs a.1) ]

  pub all_rows_in : (range : KeyRange) (rs : List Row) → AllByRecursion P rs → AllByRecursion P (rows_in range rs)
  all_rows_in range [] a = tt
  all_rows_in range (x ∷ xs) a =
      let i = all_rows_in range xs a.1 in
      elim (cases_Bool (in_range range x)) [ inl e ↦ rw e (a.0, i) | inr e ↦ rw e i ]

  pub all_also_in : (rs ys : List Row) → AllByRecursion P rs → AllByRecursion P (also_in rs ys)
  all_also_in [] ys a = tt
  all_also_in (x ∷ xs) ys a =
      let i = all_also_in xs ys a.1 in
      elim (cases_Bool (has_key x.key ys)) [ inl e ↦ rw e (a.0, i) | inr e ↦ rw e i ]
