-- Rows that rise as memory holds them, and where the halving finds a key among them.
use Rattle.std.proofs.Common.{◌≡◌, ℕ, zero, suc, ◌+◌, ◌-◌, ◌*◌, ◌/◌, ◌^◌, ◌<◌, ◌≤◌, ltb, List, [], ◌∷◌, ◌++◌, length, get_or, take, drop, refl, ap, inl, inr, arith}
use native.Mathlib.Nat.{two-pow-succ}
use Rattle.std.proofs.lemmas.Bool.Decides.{nat_tests}
use Rattle.std.proofs.lemmas.List.{take_at, drop_at}
use Rattle.std.proofs.lemmas.Bool.{cases_lt, lt-ltb, le-ltb, eq-eqb}
use Rattle.rows.specs.declared.Row.{Row}
use Rattle.rows.specs.Rows.{SortedFrom, SortedByKey, has_key, smaller}
use Rattle.rows.specs.Halving.{flat, rows_of, bisect, position}
use Rattle.rows.specs.Numbers.{search_finds}
use Rattle.rows.proofs.Orders.{smaller_none, smaller_within}
use Rattle.rows.proofs.Splits.{split}
use Rattle.rows.proofs.Passes.{first_is_at}

pub length_flat : (rs : List Row) → length (flat rs) ≡ 2 * length rs
length_flat [] = refl
length_flat (x ∷ xs) = let i = length_flat xs in omega arith

pub flat_append : (rs ss : List Row) → flat (rs ++ ss) ≡ flat rs ++ flat ss
flat_append [] ss = refl
flat_append (x ∷ xs) ss = ap (λ l. x.key ∷ x.amount ∷ l) (flat_append xs ss)

pub rows_of_flat : (rs : List Row) → rows_of (flat rs) ≡ rs
rows_of_flat [] = refl
rows_of_flat (x ∷ xs) = ap (λ l. x ∷ l) (rows_of_flat xs)

pub take_flat : (rs : List Row) (rest : List ℕ) → take (2 * length rs) (flat rs ++ rest) ≡ flat rs
take_flat rs rest = take_at (flat rs) rest (2 * length rs) (length_flat rs)

pub drop_flat : (rs : List Row) (rest : List ℕ) → drop (2 * length rs) (flat rs ++ rest) ≡ rest
drop_flat rs rest = drop_at (flat rs) rest (2 * length rs) (length_flat rs)

behind_is : (rs before behind : List Row) (n : ℕ) → rs ≡ before ++ behind → n ≡ length before → rows_of (drop (2 * n) (flat rs)) ≡ behind
behind_is rs before behind n e f = rw (e, f, flat_append before behind, drop_flat before (flat behind)) (rows_of_flat behind)

-- a halving with n probes is exact, of any content, where fewer than 2^n places are left
pub probes_suffice : (n m low high : ℕ) (rows : List ℕ) (key : ℕ) → high - low < 2 ^ n → high - low < 2 ^ m → bisect n low high rows key ≡ bisect m low high rows key
unfolding bisect
probes_suffice zero zero low high rows key h g = refl
probes_suffice zero (suc m) low high rows key h g = rw (le-ltb low high (omega arith)) refl
probes_suffice (suc n) zero low high rows key h g = rw (le-ltb low high (omega arith)) refl
probes_suffice (suc n) (suc m) low high rows key h g =
    let pn = two-pow-succ n in
    let pm = two-pow-succ m in
    elim (cases_lt low high) [
      | inl l ↦
          rw (
            lt-ltb low high l,
            probes_suffice n m (low + (high - low) / 2 + 1) high rows key (omega arith) (omega arith),
            probes_suffice n m low (low + (high - low) / 2) rows key (omega arith) (omega arith),
          ) refl
      | inr l ↦ rw (le-ltb low high l) refl
    ]

-- the key at a place is smaller just where the place is among the first `smaller`
key_at : (k low i : ℕ) (rs : List Row) → SortedFrom low rs → i < length rs → ltb (get_or (flat rs) (2 * i) 0) k ≡ ltb i (smaller k rs)
key_at k low i [] u h = absurd (omega arith)
key_at k low zero (x ∷ xs) u h = let n : k ≤ x.key → smaller k xs ≡ 0 = λ l. smaller_none k (suc x.key) xs (omega arith) u.1 in grind (arith, nat_tests)
key_at k low (suc i) (x ∷ xs) u h =
    let n : k ≤ x.key → smaller k xs ≡ 0 = λ l. smaller_none k (suc x.key) xs (omega arith) u.1 in
    let e : 2 * suc i ≡ suc (suc (2 * i)) = omega arith in
    let r = key_at k (suc x.key) i xs u.1 (omega arith) in
    rw e (grind (arith, nat_tests))

module _ (k : ℕ) (rs : List Row) (u : SortedByKey rs) where
  bisect_counts : (n low high : ℕ) → high - low ≤ n → low ≤ smaller k rs → smaller k rs ≤ high → high ≤ length rs → bisect n low high (flat rs) k ≡ smaller k rs
  unfolding bisect
  bisect_counts zero low high f l g h = omega arith
  bisect_counts (suc n) low high f l g h =
      elim (cases_lt low high) [
        | inr e ↦ rw (le-ltb low high e) (omega arith)
        | inl e ↦
            rw (lt-ltb low high e, key_at k 0 (low + (high - low) / 2) rs u (omega arith))
            (elim (cases_lt (low + (high - low) / 2) (smaller k rs)) [
              | inl t ↦ rw (lt-ltb (low + (high - low) / 2) (smaller k rs) t) (bisect_counts n (low + (high - low) / 2 + 1) high (omega arith) (omega arith) g h)
              | inr t ↦ rw (le-ltb (low + (high - low) / 2) (smaller k rs) t) (bisect_counts n low (low + (high - low) / 2) (omega arith) l t (omega arith))
            ])
      ]

  pub position_counts : position k (flat rs) ≡ smaller k rs
  unfolding position
  position_counts =
      let e : length (flat rs) / 2 ≡ length rs = omega (arith, length_flat rs) in
      rw e (bisect_counts (length rs) 0 (length rs) (omega arith) (omega arith) (smaller_within k rs) (omega arith))

  pub found_has : search_finds k (flat rs) ≡ has_key k rs
  found_has =
      rw (position_counts, ← first_is_at (flat rs) (smaller k rs) k)
      (elim (split k rs u) [
        | inl h ↦ rw (behind_is rs h.before (h.row ∷ h.behind) _ h.rows_are h.smaller_is, h.has) (eq-eqb h.row.key k h.key_is)
        | inr h ↦ rw (behind_is rs h.before h.behind _ h.rows_are h.smaller_is, h.has) h.next_is
      ])
