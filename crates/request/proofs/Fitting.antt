-- The first number that doesn't fit its field, by the list of bounds.
use Rattle.std.proofs.Common.{◌≡◌, ℕ, zero, suc, ◌+◌, ◌<◌, ◌≤◌, Bool, true, false, ◌&&◌, ltb, List, [], ◌∷◌, length, get_or, drop, map, inl, inr, arith}
use Rattle.std.proofs.lemmas.Bool.{cases_Bool, ltb-true, ltb-false}
use Rattle.std.proofs.lemmas.Bool.Decides.{nat_tests}
use Rattle.std.proofs.lemmas.List.{drop_more}
use Rattle.request.specs.declared.fields.Field.{Field}
use Rattle.request.specs.Fields.{bound}
use Rattle.request.specs.Decoded.{fits, first_invalid}

module _ (xs : List ℕ) where
  -- the number at place i + j fits the field j
  abbrev pub fits_at : ℕ → List Field → ℕ → Bool
  fits_at i fs j = ltb (i + j) (length xs) && ltb (get_or xs (i + j) 0) (get_or (map bound fs) j 0)

  fits_first : (i : ℕ) (f : Field) (fs : List Field) (b : Bool) → fits f xs i ≡ b → fits_at i (f ∷ fs) 0 ≡ b
  fits_first i f fs b e = let z : i + 0 ≡ i = omega arith in rw z e

  fits_next : (i : ℕ) (f : Field) (fs : List Field) (j : ℕ) (b : Bool) → fits_at (i + 1) fs j ≡ b →
      fits_at i (f ∷ fs) (suc j) ≡ b
  fits_next i f fs j b e = let z : i + suc j ≡ i + 1 + j = omega arith in rw z e

  -- where all fit, the first does, and the others
  all_fit : (i : ℕ) (f : Field) (fs : List Field) → i + length (f ∷ fs) ≤ first_invalid i (f ∷ fs) xs →
      (fits f xs i ≡ true) × (i + 1 + length fs ≤ first_invalid (i + 1) fs xs)
  all_fit i f fs h = elim (cases_Bool (fits f xs i)) [
    | inl e ↦ (e, let h = rw e at h in omega arith)
    | inr e ↦ let h = rw e at h in absurd (omega arith)
  ]

  -- and so each
  pub each_fits : (i : ℕ) (fs : List Field) → i + length fs ≤ first_invalid i fs xs → (j : ℕ) → j < length fs →
      fits_at i fs j ≡ true
  each_fits i [] h j l = absurd (omega arith)
  each_fits i (f ∷ fs) h zero l = fits_first i f fs true (all_fit i f fs h).0
  each_fits i (f ∷ fs) h (suc j) l =
      fits_next i f fs j true (each_fits (i + 1) fs (all_fit i f fs h).1 j (omega arith))

  -- and so there are as many numbers as fields
  pub enough : (fs : List Field) → length fs ≤ first_invalid 0 fs xs → length fs ≤ length xs
  enough fs h = elim (cases_Bool (ltb (length xs) (length fs))) [
    | inr e ↦ ltb-false (length xs) (length fs) e
    | inl e ↦
        let last = each_fits 0 fs (omega arith) (length xs) (ltb-true (length xs) (length fs) e) in
        grind (arith, nat_tests)
  ]

  -- where one doesn't, the first one that doesn't
  pub record FirstAt (i : ℕ) (fs : List Field) (place : ℕ) : Type 0 where
    pub j : ℕ
    pub is : place ≡ i + j
    pub within : j < length fs
    pub fault : fits_at i fs j ≡ false
    pub before : (k : ℕ) → k < j → fits_at i fs k ≡ true

  before_on : (i : ℕ) (f : Field) (fs : List Field) (j : ℕ) → fits f xs i ≡ true →
      ((k : ℕ) → k < j → fits_at (i + 1) fs k ≡ true) →
      (k : ℕ) → k < suc j → fits_at i (f ∷ fs) k ≡ true
  before_on i f fs j e each zero l = fits_first i f fs true e
  before_on i f fs j e each (suc k) l = fits_next i f fs k true (each k (omega arith))

  pub first_at : (i : ℕ) (fs : List Field) → first_invalid i fs xs < i + length fs →
      FirstAt i fs (first_invalid i fs xs)
  first_at i [] h = absurd (omega arith)
  first_at i (f ∷ fs) h = elim (cases_Bool (fits f xs i)) [
    | inr e ↦ rw e (record {
      j = 0;
      is = omega arith;
      within = omega arith;
      fault = fits_first i f fs false e;
      before = λ k l. absurd (omega arith);
    })
    | inl e ↦
        let more = first_at (i + 1) fs (let h = rw e at h in omega arith) in
        rw e (record {
          j = suc more.j;
          is = omega (arith, more.is);
          within = omega (arith, more.within);
          fault = fits_next i f fs more.j false more.fault;
          before = before_on i f fs more.j e more.before;
        })
  ]

  -- a number that fits is there
  pub stands_there : (i b : ℕ) → (ltb (0 + i) (length xs) && ltb (get_or xs (0 + i) 0) b) ≡ true →
      (get_or xs i 0 < b) × (drop i xs ≡ get_or xs i 0 ∷ drop (i + 1) xs)
  stands_there i b h = let f = drop_more xs i 0 in (grind (arith, nat_tests), grind (arith, nat_tests))
