-- Who sees more is told no less.
use Rattle.std.proofs.Common.{◌≡◌, ℕ, zero, suc, sym, ◌∙◌, map, ◌+◌, ◌≤◌, true, false, cond, ◌&&◌, eqb, List, [], ◌∷◌, ◌++◌, length, refl, ap, inl, inr, arith}
use Rattle.std.specs.Prelude.{Contains, nat_eq}
use Rattle.std.specs.List.{AllByRecursion, IsDistinct, sum_by}
use Rattle.std.proofs.lemmas.List.Sums.{sum_by-cons}
use Rattle.query.proofs.Sums.{sum_map}
use Rattle.std.proofs.lemmas.Bool.{cases_Bool, ne_eqb, eqb-true, eq-eqb, and_parts, or_cases, or_left, or_right, both_ways}
use Rattle.rows.specs.declared.Row.{Row}
use Rattle.rows.specs.declared.KeyRange.{KeyRange}
use Rattle.rows.specs.Rows.{rows_in, sum}
use Rattle.policy.specs.Rules.{has}
use Rattle.query.proofs.Views.{has_head, has_tail}
use Rattle.query.specs.declared.Query.TheVariants.{Rows, Total, Shared}
use Rattle.query.specs.Answers.{lists, total, list, answer, lists_of, count_all, sum_all}
use Rattle.query.specs.More.{MoreSeen, AnswersAppend}

-- one compartment less
abbrev remove : ℕ → List ℕ → List ℕ
remove c [] = []
remove c (d ∷ ds) = cond (eqb d c) ds (d ∷ remove c ds)

sum_remove : (f : ℕ → ℕ) (c : ℕ) (ds : List ℕ) → has ds c ≡ true → sum_by f ds ≡ f c + sum_by f (remove c ds)
sum_remove f c [] h = absurd (both_ways false refl h)
sum_remove f c (d ∷ ds) h = elim (cases_Bool (eqb d c)) [
  | inl e ↦ let g : f d ≡ f c = ap f (eqb-true d c e) in let a = sum_by-cons f d ds in rw e (omega arith)
  | inr e ↦
      let i = sum_remove f c ds (rw e at h) in
      let a = sum_by-cons f d ds in
      let b = sum_by-cons f d (remove c ds) in
      rw e (omega arith)
]

has_remove : (c d : ℕ) (ds : List ℕ) → (c ≡ d → ⊥) → has ds d ≡ true → has (remove c ds) d ≡ true
has_remove c d [] n h = h
has_remove c d (x ∷ ds) n h = elim (cases_Bool (eqb x c)) [
  | inl e ↦ let q = eqb-true x c e in let k = ne_eqb x d (λ (z : x ≡ d). n (rw q at z)) in rw e (rw k at h)
  | inr e ↦ rw e (elim (or_cases (eqb x d) (has ds d) h) [
    | inl k ↦ or_left (eqb x d) (has (remove c ds) d) k
    | inr k ↦ or_right (eqb x d) (has (remove c ds) d) (has_remove c d ds n k)
  ])
]

-- a compartment that is none of some others is not equal to one that is
apart : (c d : ℕ) (cs : List ℕ) → AllByRecursion (λ y. nat_eq c y ≡ false) cs → has cs d ≡ true → c ≡ d → ⊥
apart c d [] a h e = both_ways false refl h
apart c d (x ∷ xs) a h e = elim (or_cases (eqb x d) (has xs d) h) [
  | inl k ↦ both_ways (eqb c x) a.0 (eq-eqb c x (e ∙ sym (eqb-true x d k)))
  | inr k ↦ apart c d xs a.1 k e
]

sum_more : (f : ℕ → ℕ) (cs ds : List ℕ) → IsDistinct nat_eq cs → ((c : ℕ) → has cs c ≡ true → has ds c ≡ true) → sum_by f cs ≤ sum_by f ds
unfolding IsDistinct
sum_more f [] ds h sub = omega arith
sum_more f (c ∷ cs) ds h sub =
    let e = sum_remove f c ds (sub c (has_head c cs)) in
    let i = sum_more f cs (remove c ds) h.1
    (λ (d : ℕ) (k : has cs d ≡ true). has_remove c d ds (apart c d cs h.0 k) (sub d (has_tail c d cs k))) in
    let a = sum_by-cons f c cs in
    omega arith

-- the lists of a view are those of its compartments
module _ (f : ℕ → List Row) where
  map_contains : (cs : List ℕ) (l : List Row) → Contains (map f cs) l → (c : ℕ) × (has cs c ≡ true) × (f c ≡ l)
  map_contains [] l h = absurd (omega (arith, h.1))
  map_contains (c ∷ cs) l (zero, within, is) = (c, has_head c cs, is)
  map_contains (c ∷ cs) l (suc k, within, is) =
      let r = map_contains cs l (k, omega (arith, within), is) in
      (r.0, has_tail c r.0 cs r.1, r.2)

  contains_map : (c : ℕ) (cs : List ℕ) → has cs c ≡ true → Contains (map f cs) (f c)
  contains_map c [] h = absurd (both_ways false refl h)
  contains_map c (d ∷ cs) h = elim (or_cases (eqb d c) (has cs c) h) [
    | inl e ↦ (0, omega arith, ap f (eqb-true d c e))
    | inr e ↦ let r = contains_map c cs e in (suc r.0, omega (arith, r.1), r.2)
  ]

more_lists : (rows : ℕ → List Row) (range : KeyRange) (cs ds : List ℕ) → ((c : ℕ) → has cs c ≡ true → has ds c ≡ true) → (xs ys : List (List Row)) →
    answer cs rows (Rows range) ≡ lists xs → answer ds rows (Rows range) ≡ lists ys → (l : List Row) → Contains xs l → Contains ys l
more_lists rows range cs ds sub xs ys e f l a =
    let g : lists_of rows range cs ≡ xs = cc in
    let h : lists_of rows range ds ≡ ys = cc in
    let one = map_contains (λ (c : ℕ). rows_in range (rows c)) cs l (rw g a) in
    rw h at (rw one.2 at (contains_map (λ (c : ℕ). rows_in range (rows c)) one.0 ds (sub one.0 one.1)))

more_totals : (rows : ℕ → List Row) (range : KeyRange) (cs ds : List ℕ) → ((c : ℕ) → has cs c ≡ true → has ds c ≡ true) → IsDistinct nat_eq cs → (n m k o : ℕ) →
    answer cs rows (Total range) ≡ total n m → answer ds rows (Total range) ≡ total k o → (n ≤ k) × (m ≤ o)
more_totals rows range cs ds sub h n m k o e f =
    let g : count_all (lists_of rows range cs) ≡ n = cc in
    let i : count_all (lists_of rows range ds) ≡ k = cc in
    let j : sum_all (lists_of rows range cs) ≡ m = cc in
    let l : sum_all (lists_of rows range ds) ≡ o = cc in
    let counts = λ (c : ℕ). length (rows_in range (rows c)) in
    let sums = λ (c : ℕ). sum (rows_in range (rows c)) in
    let x = sum_more counts cs ds h sub in
    let y = sum_more sums cs ds h sub in
    let cn = sum_map (λ (l : List Row). length l) (λ (c : ℕ). rows_in range (rows c)) cs in
    let dn = sum_map (λ (l : List Row). length l) (λ (c : ℕ). rows_in range (rows c)) ds in
    let cm = sum_map (λ (l : List Row). sum l) (λ (c : ℕ). rows_in range (rows c)) cs in
    let dm = sum_map (λ (l : List Row). sum l) (λ (c : ℕ). rows_in range (rows c)) ds in
    (omega arith, omega arith)

more_shared : (rows : ℕ → List Row) (range : KeyRange) (cs ds : List ℕ) → ((c : ℕ) → has cs c ≡ true → has ds c ≡ true) → (a b : ℕ) (l : List Row) →
    answer cs rows (Shared a b range) ≡ list l → answer ds rows (Shared a b range) ≡ list l
more_shared rows range cs ds sub a b l e = elim (cases_Bool (has cs a && has cs b)) [
  | inl h ↦
      let parts = and_parts (has cs a) (has cs b) h in
      rw (sub a parts.0, sub b parts.1) (rw h at e)
  | inr h ↦ let g = rw h at e in absurd cc
]

pub more_seen : MoreSeen
more_seen cs ds sub rows range = record {
  rows_told = more_lists rows range cs ds sub;
  totals_told = more_totals rows range cs ds sub;
  shared_told = more_shared rows range cs ds sub;
}

lists_append : (cs more : List ℕ) (rows : ℕ → List Row) (range : KeyRange) → lists_of rows range (cs ++ more) ≡ lists_of rows range cs ++ lists_of rows range more
lists_append [] more rows range = refl
lists_append (c ∷ cs) more rows range = rw (lists_append cs more rows range)

pub answers_append : AnswersAppend
answers_append cs more rows range = rw (lists_append cs more rows range)
