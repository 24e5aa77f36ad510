-- The texts of a list's items, written one by one.
use Rattle.std.proofs.Common.{◌≡◌, ℕ, zero, suc, ◌+◌, ◌-◌, ◌<◌, Bool, cond, List, [], ◌∷◌, ◌++◌, length, get_or, take, drop, filter, refl, sym, ap, ◌∙◌, subst, append-nil, inl, inr, arith}
use Rattle.std.proofs.lemmas.Bool.{cases_Bool}
use Rattle.std.proofs.lemmas.List.{take_more, take-append-drop}
use Rattle.std.proofs.lemmas.List.Concat.{flat_map-append}
use Rattle.std.proofs.lemmas.List.Elements.{filter-append}
use Rattle.std.specs.List.{flat_map, range_with_len}
use Rattle.output.specs.Output.{OutputState, WritesAll, WritesPart}
use Rattle.output.proofs.Chains.{all_then_all, all_then_part, part_then}

range_split : (a i m : ℕ) → range_with_len a (i + m) ≡ range_with_len a i ++ range_with_len (a + i) m
range_split a zero m = let none : zero + m ≡ m = omega arith in let start : a + zero ≡ a = omega arith in rw (none, start) refl
range_split a (suc i) m =
    let more : suc i + m ≡ suc (i + m) = omega arith in
    let start : a + suc i ≡ a + 1 + i = omega arith in
    rw (more, start) (ap (λ (xs : List ℕ). a ∷ xs) (range_split (a + 1) i m))

range_more : (i : ℕ) → range_with_len 0 (i + 1) ≡ range_with_len 0 i ++ i ∷ []
range_more i = let start : 0 + i ≡ i = omega arith in rw start at (range_split 0 i 1)

range_around : (i n : ℕ) → i < n → range_with_len 0 n ≡ (range_with_len 0 i ++ i ∷ []) ++ range_with_len (i + 1) (n - (i + 1))
range_around i n h =
    let all : n ≡ (i + 1) + (n - (i + 1)) = omega arith in
    let start : 0 + (i + 1) ≡ i + 1 = omega arith in
    ap (range_with_len 0) all ∙ (rw start at (range_split 0 (i + 1) (n - (i + 1))) ∙ ap (λ xs. xs ++ range_with_len (i + 1) (n - (i + 1))) (range_more i))

-- a text of each item, one after the other: at item i, whose text is w
module _ (T : List ℕ → List ℕ) (joins : (xs ys : List ℕ) → T (xs ++ ys) ≡ T xs ++ T ys) (i : ℕ) {w : List ℕ} (one : T (i ∷ []) ≡ w)
    {a b c : OutputState} (before : WritesAll a b (T (range_with_len 0 i))) where
  pub listed_more : WritesAll b c w → WritesAll a c (T (range_with_len 0 (i + 1)))
  listed_more now =
      let all : T (range_with_len 0 i) ++ w ≡ T (range_with_len 0 (i + 1)) =
      sym (ap T (range_more i) ∙ joins (range_with_len 0 i) (i ∷ []) ∙ ap (λ t. T (range_with_len 0 i) ++ t) one) in
      subst (WritesAll a c) all (all_then_all before now)

  pub listed_part : (n : ℕ) → i < n → WritesPart b c w → WritesPart a c (T (range_with_len 0 n))
  listed_part n h now =
      let rest = range_with_len (i + 1) (n - (i + 1)) in
      let all : (T (range_with_len 0 i) ++ w) ++ T rest ≡ T (range_with_len 0 n) =
      sym (ap T (range_around i n h) ∙ joins (range_with_len 0 i ++ i ∷ []) rest
      ∙ ap (λ t. t ++ T rest) (joins (range_with_len 0 i) (i ∷ []) ∙ ap (λ t. T (range_with_len 0 i) ++ t) one)) in
      subst (WritesPart a c) all (part_then (T rest) (all_then_part before now))

pub joined : {X : Type 0} (text : X → List ℕ) (xs ys : List X) → flat_map text (xs ++ ys) ≡ flat_map text xs ++ flat_map text ys
joined text xs ys = flat_map-append text xs ys

pub single : {X : Type 0} (text : X → List ℕ) (x : X) → flat_map text (x ∷ []) ≡ text x
single text x = append-nil (text x)

-- the texts of those that pass a test
pub joined_passing : (test : ℕ → Bool) (text : ℕ → List ℕ) (xs ys : List ℕ) →
    flat_map text (filter test (xs ++ ys)) ≡ flat_map text (filter test xs) ++ flat_map text (filter test ys)
joined_passing test text xs ys = ap (flat_map text) (filter-append test xs ys) ∙ flat_map-append text (filter test xs) (filter test ys)

pub single_passing : (test : ℕ → Bool) (text : ℕ → List ℕ) (x : ℕ) → flat_map text (filter test (x ∷ [])) ≡ cond (test x) (text x) []
single_passing test text x = elim (cases_Bool (test x)) [ inl t ↦ rw t (append-nil (text x)) | inr f ↦ rw f refl ]

-- the items of a list, in their order
module _ {X : Type 0} (text : X → List ℕ) (xs : List X) (i : ℕ) (d : X) (h : i < length xs) where
  so_far : flat_map text (take i xs) ++ text (get_or xs i d) ≡ flat_map text (take (i + 1) xs)
  so_far = sym (ap (flat_map text) (take_more xs i d h) ∙ joined text (take i xs) (get_or xs i d ∷ []) ∙ ap (λ t. flat_map text (take i xs) ++ t) (single text (get_or xs i d)))

  all_of : (flat_map text (take i xs) ++ text (get_or xs i d)) ++ flat_map text (drop (i + 1) xs) ≡ flat_map text xs
  all_of =
      ap (λ t. t ++ flat_map text (drop (i + 1) xs)) so_far
      ∙ (sym (joined text (take (i + 1) xs) (drop (i + 1) xs)) ∙ ap (flat_map text) (take-append-drop (i + 1) xs))

  module _ {a b c : OutputState} (before : WritesAll a b (flat_map text (take i xs))) where
    pub item_more : WritesAll b c (text (get_or xs i d)) → WritesAll a c (flat_map text (take (i + 1) xs))
    item_more now = subst (WritesAll a c) so_far (all_then_all before now)

    pub item_part : WritesPart b c (text (get_or xs i d)) → WritesPart a c (flat_map text xs)
    item_part now = subst (WritesPart a c) all_of (part_then (flat_map text (drop (i + 1) xs)) (all_then_part before now))
