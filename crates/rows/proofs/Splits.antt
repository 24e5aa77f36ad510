-- Rows that rise, split at a key: all that is asked of a key is read off the two sides.
use Rattle.std.proofs.Common.{◌≡◌, ℕ, suc, ◌<◌, true, false, ◌⊎◌, List, [], ◌∷◌, ◌++◌, length, refl, ap, inl, inr, arith}
use Rattle.std.proofs.lemmas.Bool.{cases_order, lt-ltb, le-ltb, ne_eqb, eq-eqb}
use Rattle.rows.specs.declared.Row.{Row}
use Rattle.rows.specs.Rows.{SortedFrom, SortedByKey, has_key, smaller, put, without}
use Rattle.rows.specs.Numbers.{first_is}
use Rattle.rows.proofs.Orders.{smaller_none, key_none, without_none}

-- a row with the key is there
pub record Here (k : ℕ) (rs : List Row) : Type 0 where
  pub before : List Row
  pub row : Row
  pub behind : List Row
  pub key_is : row.key ≡ k
  pub rows_are : rs ≡ before ++ (row ∷ behind)
  pub smaller_is : smaller k rs ≡ length before
  pub has : has_key k rs ≡ true
  pub put_is : (r : Row) → r.key ≡ k → put r rs ≡ before ++ (r ∷ behind)
  pub without_is : without k rs ≡ before ++ behind

-- none is
pub record Away (k : ℕ) (rs : List Row) : Type 0 where
  pub before : List Row
  pub behind : List Row
  pub rows_are : rs ≡ before ++ behind
  pub smaller_is : smaller k rs ≡ length before
  pub has : has_key k rs ≡ false
  pub next_is : first_is k behind ≡ false
  pub put_is : (r : Row) → r.key ≡ k → put r rs ≡ before ++ (r ∷ behind)
  pub without_is : without k rs ≡ rs

module _ (k : ℕ) where
  here_more : (x : Row) (xs : List Row) → x.key < k → Here k xs → Here k (x ∷ xs)
  here_more x xs l h =
      let t = lt-ltb x.key k l in
      let f = ne_eqb x.key k (λ e. omega arith) in
      record {
        before = x ∷ h.before;
        row = h.row;
        behind = h.behind;
        key_is = h.key_is;
        rows_are = ap (λ r. x ∷ r) h.rows_are;
        smaller_is = rw t (ap suc h.smaller_is);
        has = rw f h.has;
        put_is = λ r e. let s = lt-ltb x.key r.key (omega arith) in rw s (ap (λ l. x ∷ l) (h.put_is r e));
        without_is = rw f (ap (λ r. x ∷ r) h.without_is);
      }

  away_more : (x : Row) (xs : List Row) → x.key < k → Away k xs → Away k (x ∷ xs)
  away_more x xs l h =
      let t = lt-ltb x.key k l in
      let f = ne_eqb x.key k (λ e. omega arith) in
      record {
        before = x ∷ h.before;
        behind = h.behind;
        rows_are = ap (λ r. x ∷ r) h.rows_are;
        smaller_is = rw t (ap suc h.smaller_is);
        has = rw f h.has;
        next_is = h.next_is;
        put_is = λ r e. let s = lt-ltb x.key r.key (omega arith) in rw s (ap (λ l. x ∷ l) (h.put_is r e));
        without_is = rw f (ap (λ r. x ∷ r) h.without_is);
      }

  here_first : (x : Row) (xs : List Row) → x.key ≡ k → SortedFrom (suc x.key) xs → Here k (x ∷ xs)
  here_first x xs e u =
      let t = le-ltb x.key k (omega arith) in
      let f = eq-eqb x.key k e in
      record {
        before = [];
        row = x;
        behind = xs;
        key_is = e;
        rows_are = refl;
        smaller_is = rw t (smaller_none k (suc x.key) xs (omega arith) u);
        has = rw f refl;
        put_is = λ r g. rw (g, t, f) refl;
        without_is = rw f refl;
      }

  away_first : (x : Row) (xs : List Row) → k < x.key → SortedFrom (suc x.key) xs → Away k (x ∷ xs)
  away_first x xs l u =
      let t = le-ltb x.key k (omega arith) in
      let f = ne_eqb x.key k (λ e. omega arith) in
      let n = key_none k (suc x.key) xs (omega arith) u in
      record {
        before = [];
        behind = x ∷ xs;
        rows_are = refl;
        smaller_is = rw t (smaller_none k (suc x.key) xs (omega arith) u);
        has = rw f n;
        next_is = f;
        put_is = λ r g. rw (g, t, f) refl;
        without_is = rw f (ap (λ r. x ∷ r) (without_none k xs n));
      }

  split_up : (low : ℕ) (rs : List Row) → SortedFrom low rs → Here k rs ⊎ Away k rs
  split_up low [] u =
      inr (record {
        before = [];
        behind = [];
        rows_are = refl;
        smaller_is = refl;
        has = refl;
        next_is = refl;
        put_is = λ r e. refl;
        without_is = refl;
      })
  split_up low (x ∷ xs) u =
      elim (cases_order x.key k) [
        | inl e ↦ inl (here_first x xs e u.1)
        | inr (inl l) ↦ elim (split_up (suc x.key) xs u.1) [ inl h ↦ inl (here_more x xs l h) | inr h ↦ inr (away_more x xs l h) ]
        | inr (inr l) ↦ inr (away_first x xs l u.1)
      ]

pub split : (k : ℕ) (rs : List Row) → SortedByKey rs → Here k rs ⊎ Away k rs
split k rs u = split_up k 0 rs u
