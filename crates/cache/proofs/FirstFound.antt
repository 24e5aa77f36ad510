-- What `find_map` over a slice gives: the first answer that a test has.
use Rattle.std.proofs.Common.{◌≡◌, ℕ, zero, suc, ◌+◌, ◌<◌, true, List, [], ◌∷◌, length, get_or, Some, None, Option, IfSome, IsSomeAnd, Bor, sym, refl, arith}
use Rattle.std.specs.Option.{MatchOption, option_map, option_or}
use Rattle.std.specs.Fn.{Called}
use Rattle.std.specs.Iterator.Runs.{SomeRun, EveryRun, ItemsMapTo, AllItemsGive, IsFirstToGive}
use denote.Param.Members.{Mut}

module _ {A R : Type 0} (test : A → Option R) where
  abbrev pub first_found : List A → Option R
  first_found [] = None
  first_found (x ∷ xs) = option_or (test x) (first_found xs)

  none_found : (xs : List A) → ((k : ℕ) (d : A) → k < length xs → test (get_or xs k d) ≡ None) → first_found xs ≡ None
  none_found [] h = refl
  none_found (x ∷ xs) h = rw (h 0 x (omega arith)) (none_found xs (λ k d l. h (suc k) d (omega arith)))

  some_found : (xs : List A) (i : ℕ) (y : R) → i < length xs → ((d : A) → test (get_or xs i d) ≡ Some y) → ((k : ℕ) (d : A) → k < i → test (get_or xs k d) ≡ None) → first_found xs ≡ Some y
  some_found [] i y l at before = absurd (omega arith)
  some_found (x ∷ xs) zero y l at before = rw (at x) refl
  some_found (x ∷ xs) (suc i) y l at before = rw (before 0 x (omega arith)) (some_found xs i y (omega arith) at (λ k d m. before (suc k) d (omega arith)))

module _ {A R F : Type 0} (g : Mut F (Bor A × Unit {0}) (Option R)) (f : F) (test : A → Option R)
    (tests : (x : Bor A) (o : Option R) (q : F) → Called g f (x, tt) o q → (q ≡ f) × (o ≡ test x.now)) where
  -- what the closure answered at an item is what the test has of it
  if_some : (xs : List A) (at : Option (Bor A)) (k : ℕ) (d : A) (o : Option R) → option_map (λ y. y.now) at ≡ Some (get_or xs k d) → IfSome at (λ x. Called g f (x, tt) o f) → test (get_or xs k d) ≡ o
  if_some xs None k d o e h = cc
  if_some xs (Some x) k d o e h = let a : x.now ≡ get_or xs k d = cc in rw (← a) (sym (tests x o f h).1)

  is_some_and : (xs : List A) (at : Option (Bor A)) (k : ℕ) (d : A) (o : Option R) → option_map (λ y. y.now) at ≡ Some (get_or xs k d) → IsSomeAnd at (λ x. Called g f (x, tt) o f) → test (get_or xs k d) ≡ o
  is_some_and xs None k d o e h = cc
  is_some_and xs (Some x) k d o e h = let a : x.now ≡ get_or xs k d = cc in rw (← a) (sym (tests x o f h).1)

  keeps : (a : Bor A × Unit {0}) (o : Option R) (q : F) → Called g f a o q → q ≡ f
  keeps a o q c = (tests a.0 o q c).0

  pub found_is : {S : Type 0} {steps : S → Option (Bor A) → S → Type 0} (s : S) (xs : List A) (rest : S → List A) (r : Option R) → rest s ≡ xs → EveryRun steps (λ p. ItemsMapTo p (λ y. y.now) (rest p.from))
      → SomeRun steps s (λ p. MatchOption r ((p.whole ≡ true) × AllItemsGive p g f None) (λ y. (i : ℕ) × (i < p.len) × (p.len ≡ i + 1) × IsFirstToGive p g f (Some y) None i))
      → r ≡ first_found test xs
  found_is s xs rest None e runs run =
      let p = run.0 in
      let items = runs p p.seen in
      let long = items.1 run.2.0 in
      rw (← e, ← run.1) (sym (none_found test (rest p.from) (λ k d l. if_some (rest p.from) (p.at k) k d None (items.2 k d (omega arith)) (run.2.1 keeps k))))
  found_is s xs rest (Some y) e runs run =
      let p = run.0 in
      let items = runs p p.seen in
      let first = run.2.3 keeps in
      let short = items.0 in
      rw (← e, ← run.1) (sym (some_found test (rest p.from) run.2.0 y (omega arith) (λ d. is_some_and (rest p.from) (p.at run.2.0) run.2.0 d (Some y) (items.2 run.2.0 d (omega arith)) first.0) (λ k d l. is_some_and (rest p.from) (p.at k) k d None (items.2 k d (omega arith)) (first.1 k l))))
