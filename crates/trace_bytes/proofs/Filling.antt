-- Numbers are written one after the other: what is written and what is still to come are the whole.
use Rattle.std.proofs.Common.{◌≡◌, ℕ, zero, suc, ◌+◌, ◌-◌, ◌*◌, ◌<◌, ◌≤◌, ◌⊎◌, List, [], ◌∷◌, ◌++◌, length, take, drop, set, sym, refl, ap, ◌∙◌, inl, inr, append_assoc, append-nil, mul-zero, mul-suc, arith, length-drop, length-take, drop-drop, drop-set-lt}
use Rattle.std.proofs.lemmas.List.{take_more_set, take-append-drop}
use Rattle.std.proofs.lemmas.Bool.Decides.{nat_tests}
use Rattle.trace_bytes.specs.Bytes.{low_first, numbers_each}

-- of the numbers that a slice `old` is filled with, `place` are written, and the rest of the bytes is to come
pub record Filled (width : ℕ) (bytes old numbers rest : List ℕ) (place : ℕ) : Type 0 where
  pub front : take place numbers ++ numbers_each width (length old - place) rest ≡ numbers_each width (length old) bytes
  pub back : drop place numbers ≡ drop place old

pub words_more : (width n m : ℕ) (bytes : List ℕ) → n ≡ suc m → width ≤ length bytes →
    numbers_each width n bytes ≡ low_first (take width bytes) ∷ numbers_each width m (drop width bytes)
words_more width n m bytes e l = rw e (grind (arith, nat_tests))

pub words_short : (width n : ℕ) (bytes : List ℕ) → length bytes < width → numbers_each width n bytes ≡ []
words_short width zero bytes l = refl
words_short width (suc n) bytes l = grind (arith, nat_tests)

module _ (width : ℕ) (bytes old numbers rest : List ℕ) (place : ℕ) (f : Filled width bytes old numbers rest place) (same : length numbers ≡ length old) where
  pub filled_more : (next : ℕ) → next ≡ low_first (take width rest) → place < length old → width ≤ length rest →
      Filled width bytes old (set numbers place next) (drop width rest) (place + 1)
  filled_more next e h l =
      let inside : place < length numbers = omega arith in
      let more = words_more width (length old - place) (length old - (place + 1)) rest (omega arith) l in
      record {
        front = rw (take_more_set numbers place next inside, append_assoc, e, ← more) f.front;
        back =
            drop-set-lt (place + 1) numbers place next (omega arith)
            ∙ sym (drop-drop 1 place numbers) ∙ ap (λ (xs : List ℕ). drop 1 xs) f.back ∙ drop-drop 1 place old;
      }

  nothing_more : (place ≡ length old) ⊎ (length rest < width) → numbers_each width (length old - place) rest ≡ []
  nothing_more (inl e) = let z : length old - place ≡ 0 = omega arith in rw z
  nothing_more (inr h) = words_short width (length old - place) rest h

  pub filled_done : (count : ℕ) → count ≡ place → (place ≡ length old) ⊎ (length rest < width) → place ≤ length old →
      (count ≡ length (numbers_each width (length old) bytes)) × (numbers ≡ numbers_each width (length old) bytes ++ drop count old)
  filled_done count e h l =
      let none = nothing_more h in
      let all : take place numbers ≡ numbers_each width (length old) bytes =
      sym (append-nil (take place numbers)) ∙ ap (λ (xs : List ℕ). take place numbers ++ xs) (sym none) ∙ f.front in
      rw e (
        rw (← all) (simp length-take (omega arith)),
        sym (take-append-drop place numbers) ∙ ap (λ (xs : List ℕ). xs ++ drop place numbers) all
            ∙ ap (λ (xs : List ℕ). numbers_each width (length old) bytes ++ xs) f.back,
      )

-- there are no more numbers than there is place for
pub words_most : (width n : ℕ) (bytes : List ℕ) → length (numbers_each width n bytes) ≤ n
words_most width zero bytes = omega arith
words_most width (suc n) bytes = let more = words_most width n (drop width bytes) in grind (arith, nat_tests)

-- nor than there are bytes
pub words_bytes : (width n : ℕ) (bytes : List ℕ) → width * length (numbers_each width n bytes) ≤ length bytes
words_bytes width zero bytes = rw (mul-zero width) (omega arith)
words_bytes width (suc n) bytes =
    let more = words_bytes width n (drop width bytes) in
    let left = length-drop width bytes in
    let product = mul-suc width (length (numbers_each width n (drop width bytes))) in
    grind (arith, nat_tests)
