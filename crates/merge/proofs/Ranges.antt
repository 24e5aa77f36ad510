-- Rows of a range come only among those of that range.
use Rattle.std.proofs.Common.{◌≡◌, ℕ, zero, suc, ◌+◌, ◌-◌, ◌<◌, ◌≤◌, max, ltb, leb, List, [], ◌∷◌, ◌++◌, take, drop, sym, ap, ◌∙◌, inl, inr, arith}
use Rattle.std.specs.List.{AllByRecursion}
use Rattle.std.proofs.ByRecursion.{All-weaker}
use Rattle.std.proofs.lemmas.List.{take-append-drop, drop-drop}
use Rattle.std.proofs.lemmas.Bool.{cases_Bool, and_parts, ltb-false, leb-true}
use Rattle.rows.specs.declared.Row.{Row}
use Rattle.rows.specs.declared.KeyRange.{KeyRange}
use Rattle.rows.specs.Rows.{SortedFrom, SortedByKey, smaller, put_all, in_range, rows_in}
use Rattle.rows.proofs.Orders.{up_lower, smaller_none}
use Rattle.rows.proofs.Images.{between_is_rows_in}
use Rattle.merge.specs.Laws.{rows_before, rows_above}
use Rattle.merge.proofs.Orders.{Below, below_smaller, put_all_front, put_all_behind}

up_drop : (k low n : ℕ) (rs : List Row) → SortedFrom low rs → smaller k rs ≤ n → SortedFrom k (drop n rs)
up_drop k low zero [] u h = tt
up_drop k low (suc n) [] u h = tt
up_drop k low zero (x ∷ xs) u h =
    elim (cases_Bool (ltb x.key k)) [
      | inl e ↦ let g = rw e at h in absurd (omega arith)
      | inr e ↦ let g = ltb-false x.key k e in (omega arith, u.1)
    ]
up_drop k low (suc n) (x ∷ xs) u h =
    elim (cases_Bool (ltb x.key k)) [
      | inl e ↦ let g = rw e at h in up_drop k (suc x.key) n xs u.1 (omega arith)
      | inr e ↦ let g = ltb-false x.key k e in up_drop k (suc x.key) n xs u.1 (omega (arith, smaller_none k (suc x.key) xs (omega arith) u.1))
    ]

all_in_range : (range : KeyRange) (rs : List Row) → AllByRecursion (λ x. (range.from ≤ x.key) × (x.key ≤ range.to)) (rows_in range rs)
all_in_range range [] = tt
all_in_range range (x ∷ xs) =
    elim (cases_Bool (in_range range x)) [
      | inl e ↦
          let p = and_parts (leb range.from x.key) (leb x.key range.to) e in
          rw e ((leb-true range.from x.key p.0, leb-true x.key range.to p.1), all_in_range range xs)
      | inr e ↦ rw e (all_in_range range xs)
    ]

module _ (range : KeyRange) (ds : List Row) (u : SortedByKey ds) where
  -- the smaller rows, those of the range, and those above
  pub three_parts : ds ≡ rows_before range ds ++ (rows_in range ds ++ rows_above range ds)
  three_parts =
      let a = smaller range.from ds in
      let b = max a (smaller (range.to + 1) ds) in
      let e : a + (b - a) ≡ b = omega arith in
      let d : drop (b - a) (drop a ds) ≡ drop b ds = drop-drop (b - a) a ds ∙ ap (λ n. drop n ds) e in
      let t : take (b - a) (drop a ds) ++ drop (b - a) (drop a ds) ≡ drop a ds = take-append-drop (b - a) (drop a ds) in
      rw (← between_is_rows_in range 0 ds u, ← d, t) (sym (take-append-drop a ds))

  pub put_all_range : (ss : List Row)
      → put_all (rows_in range ss) ds
      ≡ rows_before range ds
      ++ (put_all (rows_in range ss) (rows_in range ds) ++ rows_above range ds)
  put_all_range ss =
      let b = max (smaller range.from ds) (smaller (range.to + 1) ds) in
      let P : Row → Type 0 = λ x. (range.from ≤ x.key) × (x.key ≤ range.to) in
      let front : Below range.from (rows_before range ds) = below_smaller range.from 0 ds u in
      let above : SortedFrom (range.to + 1) (rows_above range ds) = up_drop (range.to + 1) 0 b ds u (omega arith) in
      let fronts : AllByRecursion (λ r. Below r.key (rows_before range ds)) (rows_in range ss) =
      All-weaker P (λ r. Below r.key (rows_before range ds)) (λ r p. All-weaker (λ x. x.key < range.from) (λ x. x.key < r.key) (λ x l. omega arith) (rows_before range ds) front) _ (all_in_range range ss) in
      let aboves : AllByRecursion (λ r. SortedFrom (suc r.key) (rows_above range ds)) (rows_in range ss) =
      All-weaker P (λ r. SortedFrom (suc r.key) (rows_above range ds)) (λ r p. up_lower (suc r.key) (range.to + 1) (rows_above range ds) (omega arith) above) _ (all_in_range range ss) in
      ap (put_all (rows_in range ss)) three_parts
      ∙ put_all_behind (rows_in range ss) (rows_before range ds) (rows_in range ds ++ rows_above range ds) fronts
      ∙ ap (λ l. rows_before range ds ++ l) (put_all_front (rows_in range ss) (rows_in range ds) (rows_above range ds) aboves)
