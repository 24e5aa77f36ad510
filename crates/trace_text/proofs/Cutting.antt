-- The pieces of a line, one on.
use Rattle.std.proofs.Common.{◌≡◌, ℕ, suc, ◌+◌, ◌<◌, ◌≤◌, Bool, true, false, cond, not, eqb, ltb, List, [], ◌∷◌, length, get_or, take, drop, filter, find, refl, sym, ap, ◌∙◌, inl, inr, arith, Option, Some, None, unwrap_or}
use Rattle.std.proofs.lemmas.Bool.{cases_Bool, cases_lt, lt-ltb, le-ltb, ne_eqb}
use Rattle.std.proofs.lemmas.List.{drop-drop, drop_all, drop_more, take_all, length-take}
use Rattle.std.proofs.lemmas.List.Elements.{All-from_get_or}
use Rattle.std.proofs.lemmas.List.Folds.{length-prefix_len}
use Rattle.std.proofs.lemmas.List.Splits.{slice_split-cons_yes, slice_split_first, slice_split_none}
use Rattle.std.proofs.lemmas.List.Sums.{fails_before_first, passes_at_first}
use Rattle.std.specs.List.{onto_first, position_or_len, prefix_len, slice_get, slice_split, take_while}
use Rattle.trace_text.specs.Lines.{is_silent}
use Rattle.trace_text.specs.Words.{begins_comment, blank, pieces}

abbrev pub black : ℕ → Bool
black byte = not (blank byte)

abbrev full : List ℕ → Bool
full piece = not (eqb (length piece) 0)

-- what `position` gives
abbrev pub found : (ℕ → Bool) → List ℕ → Option ℕ
found p xs = cond (ltb (position_or_len p xs) (length xs)) (Some (position_or_len p xs)) None

-- blanks in front change nothing
pub trimmed : (xs : List ℕ) → pieces (drop (position_or_len black xs) xs) ≡ pieces xs
trimmed [] = refl
trimmed (x ∷ xs) = elim (cases_Bool (blank x)) [
  | inl t ↦ rw t (ap pieces (sym (drop-drop (position_or_len black xs) 1 (x ∷ xs))) ∙ trimmed xs)
  | inr t ↦
      let none : position_or_len black (x ∷ xs) ≡ 0 = ap (λ (b : Bool). cond (not (not b)) (1 + position_or_len black xs) 0) t in
      ap (λ (n : ℕ). pieces (drop n (x ∷ xs))) none
]

module _ (p : ℕ → Bool) (xs : List ℕ) where
  within : position_or_len p xs ≤ length xs
  within = omega (arith, length-prefix_len (λ x. not (p x)) xs, length-take (position_or_len p xs) xs)

  some_found : (i : ℕ) → Some i ≡ found p xs → (position_or_len p xs < length xs) × (i ≡ position_or_len p xs)
  some_found i e = elim (cases_lt (position_or_len p xs) (length xs)) [
    | inl low ↦ let e = rw (lt-ltb (position_or_len p xs) (length xs) low) at e in (low, cc)
    | inr high ↦ let e = rw (le-ltb (position_or_len p xs) (length xs) high) at e in absurd cc
  ]

  none_found : None ≡ found p xs → length xs ≤ position_or_len p xs
  none_found e = elim (cases_lt (position_or_len p xs) (length xs)) [
    | inl low ↦ let e = rw (lt-ltb (position_or_len p xs) (length xs) low) at e in absurd cc
    | inr high ↦ high
  ]

  or_all : unwrap_or (found p xs) (length xs) ≡ position_or_len p xs
  or_all = elim (cases_lt (position_or_len p xs) (length xs)) [
    | inl low ↦ rw (lt-ltb (position_or_len p xs) (length xs) low) refl
    | inr high ↦ rw (le-ltb (position_or_len p xs) (length xs) high) (omega (arith, within))
  ]

-- blanks alone are no piece
pub only_blanks : (xs : List ℕ) → None ≡ found black xs → pieces xs ≡ []
only_blanks xs e = sym (trimmed xs) ∙ ap pieces (drop_all (position_or_len black xs) xs (none_found black xs e))

-- where the front is no blank, the first piece ends at the first blank
first_piece : (xs : List ℕ) → 0 < position_or_len blank xs → pieces xs ≡ take (position_or_len blank xs) xs ∷ pieces (drop (position_or_len blank xs) xs)
first_piece xs some =
    let e : ℕ = position_or_len blank xs in
    let in_xs = within blank xs in
    let long : eqb (length (take e xs)) 0 ≡ false = ne_eqb (length (take e xs)) 0 (λ z. omega (arith, length-take e xs)) in
    elim (cases_lt e (length xs)) [
      | inl low ↦
          let first : pieces xs ≡ take e xs ∷ pieces (drop (e + 1) xs) =
          ap (λ (ps : List (List ℕ)). filter full ps) (slice_split_first blank xs 0 low) ∙ rw long refl in
          let behind : pieces (drop e xs) ≡ pieces (drop (e + 1) xs) =
          ap pieces (drop_more xs e 0 low) ∙ ap (λ (ps : List (List ℕ)). filter full ps) (slice_split-cons_yes blank (get_or xs e 0) (drop (e + 1) xs) (passes_at_first blank xs 0 low)) in
          first ∙ ap (λ (ps : List (List ℕ)). take e xs ∷ ps) (sym behind)
      | inr high ↦
          let none : slice_split blank xs ≡ xs ∷ [] =
          slice_split_none blank xs (All-from_get_or (λ x. blank x ≡ false) xs 0 (λ i h. fails_before_first blank xs i 0 (omega arith))) in
          let all : take e xs ≡ xs = take_all e xs high in
          ap (λ (ps : List (List ℕ)). filter full ps) none ∙ rw (ap (λ (ys : List ℕ). eqb (length ys) 0) (sym all) ∙ long, drop_all e xs high, all) refl
    ]

no_blank : (y : ℕ) → black y ≡ true → blank y ≡ false
no_blank y e = elim (cases_Bool (blank y)) [
  | inl t ↦ let e = rw t at e in absurd cc
  | inr t ↦ t
]

-- the piece that comes behind blanks, and what is left behind it
pub one_on : (xs ys : List ℕ) (start end : ℕ) → Some start ≡ found black xs → ys ≡ drop start xs →
    end ≡ unwrap_or (found blank ys) (length ys) → pieces xs ≡ take end ys ∷ pieces (drop end ys)
one_on xs ys start end s is e =
    let low = some_found black xs start s in
    let stop : end ≡ position_or_len blank ys = e ∙ or_all blank ys in
    let y : ℕ = get_or xs start 0 in
    let zs : List ℕ = drop (start + 1) xs in
    let begins : ys ≡ y ∷ zs = is ∙ drop_more xs start 0 (omega (arith, low.0, low.1)) in
    let front : blank y ≡ false = no_blank y (ap (λ (n : ℕ). black (get_or xs n 0)) low.1 ∙ passes_at_first black xs 0 low.0) in
    let more : position_or_len blank ys ≡ 1 + position_or_len blank zs =
    ap (position_or_len blank) begins ∙ ap (λ (b : Bool). cond (not b) (1 + position_or_len blank zs) 0) front in
    let some : 0 < position_or_len blank ys = omega (arith, more) in
    sym (trimmed xs) ∙ ap (λ (n : ℕ). pieces (drop n xs)) (sym low.1) ∙ ap pieces (sym is) ∙ first_piece ys some
    ∙ ap (λ (n : ℕ). take n ys ∷ pieces (drop n ys)) (sym stop)

-- of pieces: the first word is missing
abbrev silent_of : List (List ℕ) → Bool
silent_of ps = eqb (length (unwrap_or (slice_get (take_while (λ p. not (begins_comment p)) ps) 0) [])) 0

one_taken : (p : List ℕ) (ps : List (List ℕ)) (n k : ℕ) → k ≡ suc n → take k (p ∷ ps) ≡ p ∷ take n ps
one_taken p ps n k e = rw e refl

begun : (x : ℕ) (piece : List ℕ) (ps : List (List ℕ)) → silent_of ((x ∷ piece) ∷ ps) ≡ eqb x 35
begun x piece ps =
    let n : ℕ = prefix_len (λ p. not (begins_comment p)) ps in
    elim (cases_Bool (eqb x 35)) [
      | inl t ↦ rw t refl
      | inr t ↦ rw (t, one_taken (x ∷ piece) ps n (1 + n) (omega arith)) (ne_eqb (length (x ∷ piece)) 0 (λ z. omega arith))
    ]

begun_full : (x : ℕ) (piece : List ℕ) (ps : List (List ℕ)) → silent_of (filter full ((x ∷ piece) ∷ ps)) ≡ eqb x 35
begun_full x piece ps = rw (ne_eqb (length (x ∷ piece)) 0 (λ z. omega arith)) (begun x piece (filter full ps))

begun_first : (x : ℕ) (ps : List (List ℕ)) → silent_of (filter full (onto_first x ps)) ≡ eqb x 35
begun_first x [] = begun_full x [] []
begun_first x (piece ∷ ps) = begun_full x piece ps

after_blank : (x : ℕ) (xs : List ℕ) → blank x ≡ true → is_silent (x ∷ xs) ≡ is_silent xs
after_blank x xs t = ap (λ (b : Bool). silent_of (filter full (cond b ([] ∷ slice_split blank xs) (onto_first x (slice_split blank xs))))) t

after_front : (x : ℕ) (xs : List ℕ) → blank x ≡ false → is_silent (x ∷ xs) ≡ eqb x 35
after_front x xs t =
    ap (λ (b : Bool). silent_of (filter full (cond b ([] ∷ slice_split blank xs) (onto_first x (slice_split blank xs))))) t
    ∙ begun_first x (slice_split blank xs)

-- a line is silent where no byte, or `#`, comes first behind blanks
pub silent_none : (xs : List ℕ) → find black xs ≡ None → is_silent xs ≡ true
silent_none [] e = refl
silent_none (x ∷ xs) e = elim (cases_Bool (blank x)) [
  | inl t ↦ after_blank x xs t ∙ silent_none xs (rw t at e)
  | inr t ↦ let e = rw t at e in absurd cc
]

pub silent_some : (xs : List ℕ) (y : ℕ) → find black xs ≡ Some y → is_silent xs ≡ eqb y 35
silent_some [] y e = absurd cc
silent_some (x ∷ xs) y e = elim (cases_Bool (blank x)) [
  | inl t ↦ after_blank x xs t ∙ silent_some xs y (rw t at e)
  | inr t ↦
      let e = rw t at e in
      let same : x ≡ y = cc in
      after_front x xs t ∙ ap (λ (z : ℕ). eqb z 35) same
]
