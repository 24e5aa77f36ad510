-- What each key maps to after a put, a delete, a range and a comparison; and that rows that rise are no more than that.
use Rattle.std.proofs.Common.{◌≡◌, ℕ, suc, ◌+◌, ◌<◌, false, cond, ◌&&◌, ◌||◌, eqb, leb, List, [], ◌∷◌, length, Some, None, sym, refl, ap, ◌∙◌, inl, inr, arith}
use Rattle.std.proofs.lemmas.Bool.Decides.{nat_tests}
use Rattle.std.proofs.lemmas.Bool.{cases_Bool, cases_lt, cases_order, eq-eqb, ne_eqb}
use Rattle.rows.specs.declared.Row.{Row}
use Rattle.rows.specs.declared.KeyRange.{KeyRange}
use Rattle.rows.specs.Rows.{SortedFrom, SortedByKey, amount_of, has_key, put, put_all, without, rows_in, also_in}
use Rattle.rows.proofs.Orders.{up_lower, up_put, key_none, length_put}

pub amount_none : (k : ℕ) (rs : List Row) → has_key k rs ≡ false → amount_of k rs ≡ None
amount_none k [] h = refl
amount_none k (x ∷ xs) h =
    let i = amount_none k xs in
    elim (cases_Bool (eqb x.key k)) [
      | inl e ↦ let h2 = rw e at h in grind (arith, nat_tests)
      | inr e ↦ let h2 = rw e at h in rw e (i h2)
    ]

-- what each key maps to
pub amount_of_put : (k : ℕ) (r : Row) (rs : List Row) → amount_of k (put r rs) ≡ cond (eqb r.key k) (Some r.amount) (amount_of k rs)
amount_of_put k r [] = refl
amount_of_put k r (x ∷ xs) = let i = amount_of_put k r xs in grind (arith, nat_tests)

pub amount_of_without : (k j : ℕ) (rs : List Row) → SortedByKey rs → amount_of k (without j rs) ≡ cond (eqb j k) None (amount_of k rs)
amount_of_without k j rs u = go 0 rs u where
  go : (low : ℕ) (rs : List Row) → SortedFrom low rs → amount_of k (without j rs) ≡ cond (eqb j k) None (amount_of k rs)
  go low [] u = grind (arith, nat_tests)
  go low (x ∷ xs) u =
      let i = go (suc x.key) xs u.1 in
      let n : x.key ≡ k → amount_of k xs ≡ None = λ e. amount_none k xs (key_none k (suc x.key) xs (omega arith) u.1) in
      grind (arith, nat_tests)

pub amount_of_rows_in : (k : ℕ) (range : KeyRange) (rs : List Row) → amount_of k (rows_in range rs) ≡ cond (leb range.from k && leb k range.to) (amount_of k rs) None
amount_of_rows_in k range [] = grind (arith, nat_tests)
amount_of_rows_in k range (x ∷ xs) = let i = amount_of_rows_in k range xs in grind (arith, nat_tests)

pub amount_of_also_in : (k : ℕ) (rs ys : List Row) → amount_of k (also_in rs ys) ≡ cond (has_key k ys) (amount_of k rs) None
amount_of_also_in k [] ys = elim (cases_Bool (has_key k ys)) [ inl e ↦ rw e refl | inr e ↦ rw e refl ]
amount_of_also_in k (x ∷ xs) ys =
    let i = amount_of_also_in k xs ys in
    let same : x.key ≡ k → has_key x.key ys ≡ has_key k ys = λ e. ap (λ n. has_key n ys) e in
    grind (arith, nat_tests)

pub has_key_put : (k : ℕ) (r : Row) (rs : List Row) → has_key k (put r rs) ≡ (eqb r.key k || has_key k rs)
has_key_put k r [] = refl
has_key_put k r (x ∷ xs) = let i = has_key_put k r xs in grind (arith, nat_tests)

-- rows that rise are what their keys map to
first_differs : (x : Row) (xs ys : List Row) → SortedFrom (suc x.key) ys → amount_of x.key (x ∷ xs) ≡ amount_of x.key ys → ⊥
first_differs x xs ys u e =
    let t = eq-eqb x.key x.key refl in
    let n = amount_none x.key ys (key_none x.key (suc x.key) ys (omega arith) u) in
    let f = rw (t, n) at e in
    cc

same_row : (x y : Row) → x.key ≡ y.key → x.amount ≡ y.amount → x ≡ y
same_row x y p q = ap (λ k. record { key = k; amount = x.amount }) p ∙ ap (λ a. record { key = y.key; amount = a }) q

pub same_rows : (low : ℕ) (xs ys : List Row) → SortedFrom low xs → SortedFrom low ys → ((k : ℕ) → amount_of k xs ≡ amount_of k ys) → xs ≡ ys
same_rows low [] [] u v e = refl
same_rows low [] (y ∷ ys) u v e = absurd (first_differs y ys [] tt (sym (e y.key)))
same_rows low (x ∷ xs) [] u v e = absurd (first_differs x xs [] tt (e x.key))
same_rows low (x ∷ xs) (y ∷ ys) u v e =
    elim (cases_order x.key y.key) [
      | inr (inl l) ↦ absurd (first_differs x xs (y ∷ ys) (l, v.1) (e x.key))
      | inr (inr l) ↦ absurd (first_differs y ys (x ∷ xs) (l, u.1) (sym (e y.key)))
      | inl q ↦
          let a = rw (eq-eqb x.key x.key refl, eq-eqb y.key x.key (sym q)) at (e x.key) in
          let b : x.amount ≡ y.amount = cc in
          let tail : (k : ℕ) → amount_of k xs ≡ amount_of k ys = λ k.
          elim (cases_lt x.key k) [
            | inl l ↦ rw (ne_eqb x.key k (λ f. omega arith), ne_eqb y.key k (λ f. omega arith)) at (e k)
            | inr l ↦
                amount_none k xs (key_none k (suc x.key) xs (omega arith) u.1)
                ∙ sym (amount_none k ys (key_none k (suc y.key) ys (omega arith) v.1))
          ] in
          let w : SortedFrom (suc x.key) ys = up_lower _ _ ys (omega arith) v.1 in
          let rest = same_rows (suc x.key) xs ys u.1 w tail in
          ap (λ r. r ∷ xs) (same_row x y q b) ∙ ap (λ l. y ∷ l) rest
    ]

-- rows that rise put one after another: what each key maps to, and how many there are then
pub amount_of_put_all : (k low : ℕ) (ps rs : List Row) → SortedFrom low ps → amount_of k (put_all ps rs) ≡ cond (has_key k ps) (amount_of k ps) (amount_of k rs)
amount_of_put_all k low [] rs u = refl
amount_of_put_all k low (p ∷ ps) rs u =
    let i = amount_of_put_all k (suc p.key) ps (put p rs) u.1 in
    let j = amount_of_put k p rs in
    let n : p.key ≡ k → has_key k ps ≡ false = λ e. key_none k (suc p.key) ps (omega arith) u.1 in
    grind (arith, nat_tests)

also_in_put : (p : Row) (low : ℕ) (xs rs : List Row) → p.key < low → SortedFrom low xs → also_in xs (put p rs) ≡ also_in xs rs
also_in_put p low [] rs l u = refl
also_in_put p low (x ∷ xs) rs l u =
    let e : has_key x.key (put p rs) ≡ has_key x.key rs = rw (has_key_put x.key p rs, ne_eqb p.key x.key (λ f. omega arith)) refl in
    rw (e, also_in_put p (suc x.key) xs rs (omega arith) u.1) refl

pub length_put_all : (low : ℕ) (ps rs : List Row) → SortedFrom low ps → SortedByKey rs → length (put_all ps rs) + length (also_in ps rs) ≡ length rs + length ps
length_put_all low [] rs u v = omega arith
length_put_all low (p ∷ ps) rs u v =
    let i = length_put_all (suc p.key) ps (put p rs) u.1 (up_put 0 p rs (omega arith) v) in
    let j = rw (also_in_put p (suc p.key) ps rs (omega arith) u.1) at i in
    let n = length_put p rs v in
    grind (arith, nat_tests)
