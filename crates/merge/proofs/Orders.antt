-- Sorted rows put one after another: which come first, and which last.
use Rattle.std.proofs.Common.{◌≡◌, ℕ, suc, ◌<◌, ◌≤◌, eqb, ltb, leb, List, [], ◌∷◌, ◌++◌, length, take, sym, refl, ap, ◌∙◌, inl, inr, arith}
use Rattle.std.specs.List.{AllByRecursion}
use Rattle.std.proofs.ByRecursion.{All-weaker}
use Rattle.std.proofs.lemmas.List.{append-nil}
use Rattle.std.proofs.lemmas.Bool.Decides.{nat_tests}
use Rattle.std.proofs.lemmas.Bool.{cases_Bool, and_parts, ltb-true, ltb-false, leb-true, lt-ltb, le-ltb, eq-eqb, ne_eqb}
use Rattle.rows.specs.declared.Row.{Row}
use Rattle.rows.specs.declared.KeyRange.{KeyRange}
use Rattle.rows.specs.Rows.{SortedFrom, smaller, put, put_all, has_key, in_range, rows_in, also_in}
use Rattle.rows.proofs.Orders.{smaller_none, all_put_all}

-- a list from behind
pub data Ends : List Row → Type 0 where
  none : Ends []
  one_more : (xs : List Row) (x : Row) → Ends (xs ++ (x ∷ []))

pub ends : (xs : List Row) → Ends xs
ends [] = none
ends (x ∷ xs) = go x (ends xs) where
  go : (x : Row) {xs : List Row} → Ends xs → Ends (x ∷ xs)
  go x none = one_more [] x
  go x (one_more ys y) = one_more (x ∷ ys) y

abbrev pub Below : ℕ → List Row → Type 0
Below k xs = AllByRecursion (λ x. x.key < k) xs

up_last : (low : ℕ) (xs : List Row) (x : Row) → SortedFrom low (xs ++ (x ∷ [])) → low ≤ x.key
up_last low [] x u = u.0
up_last low (y ∷ ys) x u = let i = up_last (suc y.key) ys x u.1 in omega arith

pub up_front : (low : ℕ) (xs ys : List Row) → SortedFrom low (xs ++ ys) → SortedFrom low xs
up_front low [] ys u = tt
up_front low (x ∷ xs) ys u = (u.0, up_front (suc x.key) xs ys u.1)

pub below_last : (low : ℕ) (xs : List Row) (x : Row) → SortedFrom low (xs ++ (x ∷ [])) → Below x.key xs
below_last low [] x u = tt
below_last low (y ∷ ys) x u =
    let i = up_last (suc y.key) ys x u.1 in
    (omega arith, below_last (suc y.key) ys x u.1)

-- the rows with smaller keys, and the others
pub below_smaller : (k low : ℕ) (rs : List Row) → SortedFrom low rs → Below k (take (smaller k rs) rs)
below_smaller k low [] u = tt
below_smaller k low (x ∷ xs) u =
    elim (cases_Bool (ltb x.key k)) [
      | inl e ↦ rw e (ltb-true x.key k e, below_smaller k (suc x.key) xs u.1)
      | inr e ↦
          let h = ltb-false x.key k e in
          rw (e, smaller_none k (suc x.key) xs (omega arith) u.1) tt
    ]

-- a put among rows with greater ones behind them
put_front : (r : Row) (xs bs : List Row) → SortedFrom (suc r.key) bs → put r (xs ++ bs) ≡ put r xs ++ bs
put_front r [] [] u = refl
put_front r [] (b ∷ bs) u = rw (le-ltb b.key r.key (omega arith), ne_eqb b.key r.key (λ e. omega arith)) refl
put_front r (x ∷ xs) bs u =
    elim (cases_Bool (ltb x.key r.key)) [
      | inl e ↦ rw e (ap (λ l. x ∷ l) (put_front r xs bs u))
      | inr e ↦ rw e (elim (cases_Bool (eqb x.key r.key)) [ inl f ↦ rw f refl | inr f ↦ rw f refl ])
    ]

pub put_all_front : (ss xs bs : List Row) → AllByRecursion (λ r. SortedFrom (suc r.key) bs) ss → put_all ss (xs ++ bs) ≡ put_all ss xs ++ bs
put_all_front [] xs bs a = refl
put_all_front (s ∷ ss) xs bs a = rw (put_front s xs bs a.0) (put_all_front ss (put s xs) bs a.1)

-- a put behind smaller ones
put_behind : (r : Row) (xs ys : List Row) → Below r.key xs → put r (xs ++ ys) ≡ xs ++ put r ys
put_behind r [] ys b = refl
put_behind r (x ∷ xs) ys b = rw (lt-ltb x.key r.key b.0) (ap (λ l. x ∷ l) (put_behind r xs ys b.1))

pub put_all_behind : (ss xs ys : List Row) → AllByRecursion (λ r. Below r.key xs) ss → put_all ss (xs ++ ys) ≡ xs ++ put_all ss ys
put_all_behind [] xs ys a = refl
put_all_behind (s ∷ ss) xs ys a = rw (put_behind s xs ys a.0) (put_all_behind ss xs (put s ys) a.1)

put_all_last : (ss : List Row) (s : Row) (xs : List Row) → put_all (ss ++ (s ∷ [])) xs ≡ put s (put_all ss xs)
put_all_last [] s xs = refl
put_all_last (r ∷ rs) s xs = put_all_last rs s (put r xs)

-- which row comes last, and what stands before it
pub last_kept : (ss ds : List Row) (d : Row) → Below d.key ss → put_all ss (ds ++ (d ∷ [])) ≡ put_all ss ds ++ (d ∷ [])
last_kept ss ds d b = put_all_front ss ds (d ∷ []) (All-weaker _ _ (λ x l. (omega arith, tt)) ss b)

module _ (ss : List Row) (s : Row) (ds : List Row) (bs : Below s.key ss) (bd : Below s.key ds) where
  all_below : Below s.key (put_all ss ds)
  all_below = all_put_all (λ x. x.key < s.key) ss ds bs bd

  put_last : (ys : List Row) → put s (put_all ss ds ++ ys) ≡ put_all ss ds ++ put s ys
  put_last ys = put_behind s (put_all ss ds) ys all_below

  pub last_added : put_all (ss ++ (s ∷ [])) ds ≡ put_all ss ds ++ (s ∷ [])
  last_added = put_all_last ss s ds ∙ (ap (put s) (sym (append-nil (put_all ss ds))) ∙ put_last [])

  pub last_replaced : (d : Row) → s.key ≡ d.key → put_all (ss ++ (s ∷ [])) (ds ++ (d ∷ [])) ≡ put_all ss ds ++ (s ∷ [])
  last_replaced d e =
      put_all_last ss s (ds ++ (d ∷ []))
      ∙ (ap (put s) (last_kept ss ds d (rw e at bs))
      ∙ (put_last (d ∷ []) ∙ ap (λ l. put_all ss ds ++ l) (rw (le-ltb d.key s.key (omega arith), eq-eqb d.key s.key (sym e)) refl)))

-- a put takes no row away
longer : (r : Row) (xs : List Row) → length xs ≤ length (put r xs)
longer r [] = omega arith
longer r (x ∷ xs) = let i = longer r xs in grind (arith, nat_tests)

pub no_fewer : (ss xs : List Row) → length xs ≤ length (put_all ss xs)
no_fewer [] xs = omega arith
no_fewer (s ∷ ss) xs = let i = no_fewer ss (put s xs) in let j = longer s xs in omega arith

-- keys of a range are sought among the rows of that range alone
has_in_range : (range : KeyRange) (k : ℕ) (rs : List Row) → range.from ≤ k → k ≤ range.to → has_key k (rows_in range rs) ≡ has_key k rs
has_in_range range k [] f t = refl
has_in_range range k (x ∷ xs) f t =
    let i = has_in_range range k xs f t in
    elim (cases_Bool (in_range range x)) [
      | inl e ↦ rw (e, i) refl
      | inr e ↦ rw (e, i) (elim (cases_Bool (eqb x.key k)) [ inl q ↦ grind (arith, nat_tests) | inr q ↦ rw q refl ])
    ]

pub also_in_range : (range : KeyRange) (ss ds : List Row) → also_in (rows_in range ss) (rows_in range ds) ≡ also_in (rows_in range ss) ds
also_in_range range [] ds = refl
also_in_range range (x ∷ xs) ds =
    elim (cases_Bool (in_range range x)) [
      | inl e ↦
          let p = and_parts (leb range.from x.key) (leb x.key range.to) e in
          rw (e, has_in_range range x.key ds (leb-true range.from x.key p.0) (leb-true x.key range.to p.1), also_in_range range xs ds) refl
      | inr e ↦ rw e (also_in_range range xs ds)
    ]
