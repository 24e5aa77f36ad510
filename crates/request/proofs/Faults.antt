-- What is refused is refused at the lowest place at fault.
use Rattle.std.proofs.Common.{◌≡◌, ℕ, suc, ◌<◌, ◌≤◌, Bool, true, false, not, ◌&&◌, ltb, List, [], ◌∷◌, length, get_or, map, Some, None, Err, Option, sym, refl, subst, ap, inl, inr, arith}
use Rattle.std.proofs.lemmas.Bool.{cases_Bool, ltb-true, ltb-false}
use Rattle.std.proofs.lemmas.Bool.Decides.{nat_tests}
use Rattle.request.specs.declared.decoding.InvalidNumber.{InvalidNumber}
use Rattle.request.specs.declared.kinds.Kind.{Kind}
use Rattle.request.specs.declared.fields.Field.{Field}
use Rattle.request.specs.Kinds.{kind_in}
use Rattle.request.specs.Fields.{bound, fields, fields_of}
use Rattle.request.specs.Decoded.{decode_as, first_invalid}
use Rattle.request.specs.Format.{LowestFault, ReadWithoutFault}
use Rattle.request.proofs.Fitting.{fits_at, each_fits, first_at}
use Rattle.request.proofs.Reading.{read_as}

module _ (xs : List ℕ) where
  -- as the format has it, over any fields
  abbrev fault : List Field → ℕ → Bool
  fault fs i = ltb i (length (map bound fs)) && not (ltb i (length xs) && ltb (get_or xs i 0) (get_or (map bound fs) i 0))

  long : (fs : List Field) → length (map bound fs) ≡ length fs
  long [] = refl
  long (f ∷ fs) = ap suc (long fs)

  faulty : (fs : List Field) (i : ℕ) → i < length fs → fits_at xs 0 fs i ≡ false → fault fs i ≡ true
  faulty fs i l e = let same = long fs in grind (arith, nat_tests)

  faultless : (fs : List Field) (i : ℕ) → fits_at xs 0 fs i ≡ true → fault fs i ≡ false
  faultless fs i e = grind (arith, nat_tests)

  beyond : (fs : List Field) (i : ℕ) → length fs ≤ i → fault fs i ≡ false
  beyond fs i h = let same = long fs in grind (arith, nat_tests)

  abbrev LowestBy : List Field → ℕ → Type 0
  LowestBy fs place = (fault fs place ≡ true) × ((i : ℕ) → i < place → fault fs i ≡ false)

  lowest : (fs : List Field) → first_invalid 0 fs xs < length fs → LowestBy fs (first_invalid 0 fs xs)
  lowest fs h =
      let at = first_at xs 0 fs (omega arith) in
      let is : first_invalid 0 fs xs ≡ at.j = omega (arith, at.is) in
      rw is (faulty fs at.j at.within at.fault, λ i l. faultless fs i (at.before i l))

-- numbers of an unknown kind don't all fit
unknown : (xs : List ℕ) → kind_in xs ≡ None → first_invalid 0 (fields_of None) xs < 3
unknown [] h = omega arith
unknown (n ∷ []) h = grind (arith, nat_tests)
unknown (n ∷ u ∷ []) h = grind (arith, nat_tests)
unknown (n ∷ u ∷ m ∷ xs) h = grind (arith, nat_tests)

lowest_by : (xs : List ℕ) (o : Option Kind) (invalid : InvalidNumber) → kind_in xs ≡ o → decode_as o xs ≡ Err invalid →
    LowestBy xs (fields_of o) invalid.place
lowest_by xs None invalid known h =
    let is : first_invalid 0 (fields_of None) xs ≡ invalid.place = cc in
    rw is at (lowest xs (fields_of None) (unknown xs known))
lowest_by xs (Some k) invalid known h =
    elim (cases_Bool (ltb (first_invalid 0 (fields k) xs) (length (fields k)))) [
      | inl t ↦
          let h = rw t at h in
          let is : first_invalid 0 (fields k) xs ≡ invalid.place = cc in
          rw is at (lowest xs (fields k) (ltb-true (first_invalid 0 (fields k) xs) (length (fields k)) t))
      | inr t ↦ let h = rw t at h in absurd cc
    ]

pub lowest_fault : LowestFault
lowest_fault xs invalid h = lowest_by xs (kind_in xs) invalid refl h

pub read_without_fault : ReadWithoutFault
read_without_fault xs q h place =
    let r = read_as xs (kind_in xs) q h in
    let fs : List Field = fields r.kind in
    let clear : fault xs fs place ≡ false = elim (cases_Bool (ltb place (length fs))) [
      | inl t ↦ faultless xs fs place (each_fits xs 0 fs r.fit place (ltb-true place (length fs) t))
      | inr t ↦ beyond xs fs place (ltb-false place (length fs) t)
    ] in
    subst (λ (o : Option Kind). fault xs (fields_of o) place ≡ false) (sym r.known) clear
