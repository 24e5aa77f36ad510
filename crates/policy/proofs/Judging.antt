-- The first place at which a test holds: one place on; and the two counts of a policy before all others.
use Rattle.std.proofs.Common.{◌≡◌, ℕ, zero, suc, ◌+◌, ◌-◌, ◌%◌, ◌<◌, ◌≤◌, Bool, true, false, cond, not, ◌&&◌, leb, ltb, List, [], ◌∷◌, length, get_or, Some, None, sym, refl, ◌∙◌, inl, inr, arith}
use Rattle.std.proofs.lemmas.Bool.{cond_both, cond-true, cond-false, cases_Bool, cases_eq, or_parts, and_from, and_parts, not-false, ltb-true, leb-false}
use Rattle.std.proofs.lemmas.Bool.Decides.{nat_tests}
use Rattle.std.proofs.lemmas.Option.{none-some, same_Some}
use Rattle.std.specs.List.{position_from}
use Rattle.policy.specs.Numbers.{first, places, at_fault, count_at, within, between, users_in, compartments_in, user_at, Fit}

pub first_more : (f : ℕ → Bool) (i n m : ℕ) → n ≡ suc m → first f i n ≡ cond (f i) (Some i) (first f (i + 1) m)
first_more f i n m e = rw e refl

pub first_on : (f : ℕ → Bool) (i n m : ℕ) → n ≡ suc m → f i ≡ false → first f i n ≡ first f (i + 1) m
first_on f i n m e t = first_more f i n m e ∙ cond-false (f i) _ _ t

pub two_places : (xs : List ℕ) → 1 < places xs
two_places xs = cond_both (between 1 32 (users_in xs) && between 1 16 (compartments_in xs)) (user_at (users_in xs) + compartments_in xs) 2 (λ n. 1 < n) (λ e. omega arith) (λ e. omega arith)

-- the index that `position` gives, where a test of indices says the same
pub position_first : {X : Type 0} (p : X → Bool) (d : X) (f : ℕ → Bool) (i : ℕ) (xs : List X) → ((k : ℕ) → k < length xs → f (i + k) ≡ p (get_or xs k d)) →
    position_from p i xs ≡ first f i (length xs)
position_first p d f i [] same = refl
position_first p d f i (x ∷ xs) same =
    let zero_on : i + 0 ≡ i = omega arith in
    let here : f i ≡ p x = rw zero_on at (same 0 (omega arith)) in
    let rest = position_first p d f (i + 1) xs (λ k h. let at : i + 1 + k ≡ i + suc k = omega arith in rw at (same (suc k) (omega arith))) in
    rw (here, rest) refl

pub first_none : (f : ℕ → Bool) (i n : ℕ) → first f i n ≡ None → (k : ℕ) → i ≤ k → k < i + n → f k ≡ false
first_none f i zero e k low high = absurd (omega arith)
first_none f i (suc n) e k low high =
    elim (cases_Bool (f i)) [
      | inl t ↦ absurd (none-some _ (sym e ∙ cond-true (f i) (Some i) (first f (i + 1) n) t))
      | inr t ↦ elim (cases_eq k i) [
        | inl s ↦ rw s t
        | inr s ↦ first_none f (i + 1) n (sym (cond-false (f i) (Some i) (first f (i + 1) n) t) ∙ e) k (omega arith) (omega arith)
      ]
    ]

-- a count that was found is there, and within its bounds
count_found : (xs : List ℕ) (place high n : ℕ) → Some n ≡ count_at xs place high
    → (place < length xs) × (between 1 high n ≡ true) × (n ≡ get_or xs place 0)
count_found xs place high n e =
    let here = ltb place (length xs) in
    let fits = between 1 high (get_or xs place 0) in
    elim (cases_Bool (here && fits)) [
      | inl t ↦
          let found : Some n ≡ Some (get_or xs place 0) = rw t at e in
          let same : n ≡ get_or xs place 0 = same_Some _ _ found in
          let parts = and_parts here fits t in
          (ltb-true place (length xs) parts.0, rw same parts.1, same)
      | inr f ↦ let none : Some n ≡ None = rw f at e in absurd (none-some n (sym none))
    ]

-- the two counts, and then the rest, in one search from the first place
module _ (most : ℕ) (xs : List ℕ) (users compartments : ℕ) (u : Some users ≡ count_at xs 0 32)
    (n : Some compartments ≡ count_at xs 1 16) where
  first_is : users ≡ users_in xs
  first_is = (count_found xs 0 32 users u).2

  second_is : compartments ≡ compartments_in xs
  second_is = (count_found xs 1 16 compartments n).2

  pub counts_are : (users ≡ users_in xs) × (compartments ≡ compartments_in xs)
  counts_are = (first_is, second_is)

  pub after_counts : (at : ℕ) → at ≡ user_at users → first (at_fault most xs) 2 (at + compartments - 2) ≡ first (at_fault most xs) 0 (places xs)
  after_counts at behind =
      let a = count_found xs 0 32 users u in
      let b = count_found xs 1 16 compartments n in
      let f = at_fault most xs in
      let us = first_is in
      let cs = second_is in
      let all : places xs ≡ at + compartments = grind (arith, nat_tests) in
      let one : f 0 ≡ false = grind (arith, nat_tests) in
      let two : f 1 ≡ false = grind (arith, nat_tests) in
      sym (first_on f 0 (places xs) (places xs - 1) (omega arith) one ∙ first_on f 1 (places xs - 1) (at + compartments - 2) (omega arith) two)

-- what no fault says: everything that `Fit` asks for
module _ (most : ℕ) (xs : List ℕ) (low : most ≤ 4096) (none : first (at_fault most xs) 0 (places xs) ≡ None) where
  right : (k : ℕ) → k < places xs → at_fault most xs k ≡ false
  right k h = first_none (at_fault most xs) 0 (places xs) none k (omega arith) (omega arith)

  counts_right : (between 1 32 (users_in xs) && between 1 16 (compartments_in xs)) ≡ true
  counts_right =
      let h = two_places xs in
      let a = (or_parts (leb (length xs) 0) (not (between 1 32 (users_in xs))) (right 0 (omega arith))).1 in
      let b = (or_parts (leb (length xs) 1) (not (between 1 16 (compartments_in xs))) (right 1 (omega arith))).1 in
      and_from (between 1 32 (users_in xs)) (between 1 16 (compartments_in xs)) (not-false (between 1 32 (users_in xs)) a) (not-false (between 1 16 (compartments_in xs)) b)

  places_are : places xs ≡ user_at (users_in xs) + compartments_in xs
  places_are = cond-true _ _ _ counts_right

  there : (k : ℕ) → k < places xs → (k < length xs) × (within most (users_in xs) k (get_or xs k 0) ≡ true)
  there k h =
      let o = or_parts (leb (length xs) k) (not (within most (users_in xs) k (get_or xs k 0))) (right k h) in
      (leb-false (length xs) k o.0, not-false (within most (users_in xs) k (get_or xs k 0)) o.1)

  pub fit_from_none : Fit xs
  fit_from_none = record {
    users = grind (arith, nat_tests, counts_right);
    compartments = grind (arith, nat_tests, counts_right);
    long = let e = places_are in let h = two_places xs in omega (arith, (there (places xs - 1) (omega arith)).0);
    counts = λ u h.
        let e = places_are in let t = (there (user_at u) (omega arith)).1 in
        let m : (user_at u - 2) % 18 ≡ 0 = omega arith in grind (arith, nat_tests);
    capacities = λ c h. let e = places_are in let t = (there (user_at (users_in xs) + c) (omega arith)).1 in grind (arith, nat_tests);
  }

pub first_some : (f : ℕ → Bool) (i n p : ℕ) → first f i n ≡ Some p →
    (i ≤ p) × (p < i + n) × (f p ≡ true) × ((k : ℕ) → i ≤ k → k < p → f k ≡ false)
first_some f i zero p e = absurd (none-some _ e)
first_some f i (suc n) p e =
    elim (cases_Bool (f i)) [
      | inl t ↦
          let here : i ≡ p = same_Some _ _ (sym (cond-true (f i) (Some i) (first f (i + 1) n) t) ∙ e) in
          (omega arith, omega arith, rw (sym here) t, λ k low high. absurd (omega arith))
      | inr t ↦
          let r = first_some f (i + 1) n p (sym (cond-false (f i) (Some i) (first f (i + 1) n) t) ∙ e) in (
            omega (arith, r.0),
            omega (arith, r.1),
            r.2,
            λ k low high. elim (cases_eq k i) [ inl s ↦ rw s t | inr s ↦ r.3 k (omega arith) high ],
          )
    ]
