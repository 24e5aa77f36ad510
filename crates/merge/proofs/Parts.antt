-- Rows at the front of memory: read, kept and written.
use Rattle.std.proofs.Common.{◌≡◌, ℕ, ◌+◌, ◌*◌, ◌<◌, ◌≤◌, List, [], ◌∷◌, ◌++◌, length, get_or, take, drop, set, sym, refl, ap, ◌∙◌, arith}
use Rattle.std.proofs.lemmas.List.{append_assoc, length-append, take-append-drop, take-take, take-set-le, drop-set-add, drop-set, drop_more, drop-take, get_or-take, get_or-drop}
use Rattle.rows.specs.declared.Row.{Row}
use Rattle.rows.specs.Halving.{flat}
use Rattle.rows.proofs.Places.{flat_append, take_flat, drop_flat}
use Rattle.merge.specs.Numbers.{row_at, row_written}

abbrev pub Fronts : List Row → List ℕ → Type 0
Fronts rs m = take (2 * length rs) m ≡ flat rs

-- rows written where they stand already
pub same_rows : (rs : List Row) (m : List ℕ) → Fronts rs m → flat rs ++ drop (2 * length rs) m ≡ m
same_rows rs m stands = rw (← stands) (take-append-drop (2 * length rs) m)

-- a write behind them
pub fronts_kept : (rs : List Row) (m : List ℕ) → Fronts rs m → (at : ℕ) (r : Row) → length rs ≤ at → Fronts rs (row_written at r m)
fronts_kept rs m stands at r h =
    take-set-le (2 * length rs) (set m (2 * at) r.key) (2 * at + 1) r.amount (omega arith)
    ∙ (take-set-le (2 * length rs) m (2 * at) r.key (omega arith) ∙ stands)

module _ (rs ss : List Row) (m : List ℕ) (stands : Fronts (rs ++ ss) m) where
  two : 2 * length (rs ++ ss) ≡ 2 * length rs + 2 * length ss
  two = omega (arith, length-append rs ss)

  pub fronts_front : Fronts rs m
  fronts_front =
      sym (take-take (2 * length rs) (2 * length (rs ++ ss)) m (omega (arith, two)))
      ∙ (ap (take (2 * length rs)) (stands ∙ flat_append rs ss) ∙ take_flat rs (flat ss))

  pub fronts_behind : take (2 * length ss) (drop (2 * length rs) m) ≡ flat ss
  fronts_behind =
      sym (drop-take (2 * length rs) (2 * length ss) m)
      ∙ (rw (← two) (ap (drop (2 * length rs)) (stands ∙ flat_append rs ss)) ∙ drop_flat rs (flat ss))

-- the last of some rows is read at its place
module _ (rs : List Row) (r : Row) (m : List ℕ) (stands : Fronts (rs ++ (r ∷ [])) m) where
  read_last : (i : ℕ) → i < 2 → get_or m (2 * length rs + i) 0 ≡ get_or (r.key ∷ r.amount ∷ []) i 0
  read_last i h =
      sym (get_or-drop (2 * length rs) m i 0)
      ∙ (sym (get_or-take 2 (drop (2 * length rs) m) i 0 h) ∙ ap (λ l. get_or l i 0) (fronts_behind rs (r ∷ []) m stands))

  pub last_key : get_or m (2 * length rs) 0 ≡ r.key
  last_key = let e : 2 * length rs + 0 ≡ 2 * length rs = omega arith in rw e at (read_last 0 (omega arith))

  pub last_row : row_at (length rs) m ≡ r
  last_row = rw (last_key, read_last 1 (omega arith)) refl

-- a row written, and then those before it, are all of them written
pub written_behind : (rs : List Row) (r : Row) (m : List ℕ) → 2 * length rs + 2 ≤ length m
    → flat rs ++ drop (2 * length rs) (row_written (length rs) r m) ≡ flat (rs ++ (r ∷ [])) ++ drop (2 * length (rs ++ (r ∷ []))) m
written_behind rs r m h =
    let to = 2 * length rs in
    let key : drop to (set m to r.key) ≡ r.key ∷ drop (to + 1) m = drop-set m to r.key (omega arith) in
    let next : drop (to + 1) m ≡ get_or m (to + 1) 0 ∷ drop (to + 1 + 1) m = drop_more m (to + 1) 0 (omega arith) in
    let back : drop to (row_written (length rs) r m) ≡ r.key ∷ r.amount ∷ drop (to + 1 + 1) m =
    rw (drop-set-add to (set m to r.key) 1 r.amount, key, next) refl in
    let n : 2 * length (rs ++ (r ∷ [])) ≡ to + 1 + 1 = omega (arith, length-append rs (r ∷ [])) in
    rw (back, n, flat_append rs (r ∷ [])) (sym (append_assoc (flat rs) (r.key ∷ r.amount ∷ []) (drop (to + 1 + 1) m)))
