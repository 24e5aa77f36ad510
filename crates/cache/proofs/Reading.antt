-- Reading back: numbers tell the query, the versions and what is kept.
use Rattle.std.proofs.Common.{◌≡◌, ℕ, true, ◌&&◌, eqb, List, [], ◌∷◌, ◌++◌, length, get_or, take, drop, Some, sym, refl, ap, ◌∙◌, inl, inr, arith}
use Rattle.std.proofs.lemmas.List.{take_at, drop_at, take-append-drop, length-drop, get_or-drop}
use Rattle.std.proofs.lemmas.Bool.{cases_Bool, and_parts, eqb-true}
use Rattle.rows.specs.declared.KeyRange.{KeyRange}
use Rattle.query.specs.declared.Query.{Query}
use Rattle.query.specs.declared.Query.TheVariants.{Rows as AskRows, Total as AskTotal, Shared as AskShared}
use Rattle.cache.specs.declared.CachedAnswer.{CachedAnswer}
use Rattle.cache.specs.declared.CachedAnswer.TheVariants.{Rows, Total, Shared, NotSeen}
use Rattle.cache.specs.CachePlaces.{query_numbers, sixteen_versions, key_numbers, answer_numbers, answer_from, same_numbers, read_place}
use Rattle.cache.proofs.Numbers.{same_decides}
use Rattle.cache.proofs.Stored.{length_query}

-- A QUERY

same_range : (r s : KeyRange) → r.from ≡ s.from → r.to ≡ s.to → r ≡ s
same_range r s f t = λ i. record { from = f i; to = t i }

at : (i : ℕ) {xs ys : List ℕ} → xs ≡ ys → get_or xs i 0 ≡ get_or ys i 0
at i e = ap (λ l. get_or l i 0) e

query_told : (query other : Query) → query_numbers query ≡ query_numbers other → query ≡ other
query_told (AskRows r) (AskRows s) e = ap AskRows (same_range r s (at 1 e) (at 2 e))
query_told (AskRows r) (AskTotal s) e = absurd (omega (arith, at 0 e))
query_told (AskRows r) (AskShared c d s) e = absurd (omega (arith, at 0 e))
query_told (AskTotal r) (AskRows s) e = absurd (omega (arith, at 0 e))
query_told (AskTotal r) (AskTotal s) e = ap AskTotal (same_range r s (at 1 e) (at 2 e))
query_told (AskTotal r) (AskShared c d s) e = absurd (omega (arith, at 0 e))
query_told (AskShared a b r) (AskRows s) e = absurd (omega (arith, at 0 e))
query_told (AskShared a b r) (AskTotal s) e = absurd (omega (arith, at 0 e))
query_told (AskShared a b r) (AskShared c d s) e = λ i. AskShared (at 3 e i) (at 4 e i) (same_range r s (at 1 e) (at 2 e) i)

pub key_told : (query other : Query) (versions others : List ℕ) → same_numbers (key_numbers query versions) (key_numbers other others) ≡ true →
    (query ≡ other) × (sixteen_versions versions ≡ sixteen_versions others)
key_told query other vs ws h =
    let e = (same_decides (key_numbers query vs) (key_numbers other ws)).0 h in (
      query_told query other
          (sym (take_at (query_numbers query) (sixteen_versions vs) 5 (length_query query)) ∙ ap (take 5) e ∙ take_at (query_numbers other) (sixteen_versions ws) 5 (length_query other)),
      sym (drop_at (query_numbers query) (sixteen_versions vs) 5 (length_query query)) ∙ ap (drop 5) e ∙ drop_at (query_numbers other) (sixteen_versions ws) 5 (length_query other),
    )

-- WHAT IS KEPT

three : (kind rows amount n : ℕ) → (eqb kind n && (eqb rows 0 && eqb amount 0)) ≡ true → kind ∷ rows ∷ amount ∷ [] ≡ n ∷ 0 ∷ 0 ∷ []
three kind rows amount n h =
    let a = and_parts (eqb kind n) (eqb rows 0 && eqb amount 0) h in
    let b = and_parts (eqb rows 0) (eqb amount 0) a.1 in
    let k = eqb-true kind n a.0 in
    let r = eqb-true rows 0 b.0 in
    let m = eqb-true amount 0 b.1 in
    cc

kept_told : (kind rows amount : ℕ) (kept : CachedAnswer) → answer_from kind rows amount ≡ Some kept → kind ∷ rows ∷ amount ∷ [] ≡ answer_numbers kept
kept_told kind rows amount kept h = elim (cases_Bool (eqb kind 1 && (eqb rows 0 && eqb amount 0))) [
  | inl a ↦ let e = rw a at h in let f : Rows ≡ kept = cc in three kind rows amount 1 a ∙ ap answer_numbers f
  | inr a ↦ let g = rw a at h in elim (cases_Bool (eqb kind 2)) [
    | inl b ↦ let e = rw b at g in let f : Total rows amount ≡ kept = cc in rw (eqb-true kind 2 b) (ap answer_numbers f)
    | inr b ↦ let i = rw b at g in elim (cases_Bool (eqb kind 3 && (eqb rows 0 && eqb amount 0))) [
      | inl c ↦ let e = rw c at i in let f : Shared ≡ kept = cc in three kind rows amount 3 c ∙ ap answer_numbers f
      | inr c ↦ let j = rw c at i in elim (cases_Bool (eqb kind 4 && (eqb rows 0 && eqb amount 0))) [
        | inl d ↦ let e = rw d at j in let f : NotSeen ≡ kept = cc in three kind rows amount 4 d ∙ ap answer_numbers f
        | inr d ↦ let e = rw d at j in absurd cc
      ]
    ]
  ]
]

three_left : (xs : List ℕ) → length xs ≡ 3 → xs ≡ get_or xs 0 0 ∷ get_or xs 1 0 ∷ get_or xs 2 0 ∷ []
three_left [] h = absurd (omega arith)
three_left (x ∷ []) h = absurd (omega arith)
three_left (x ∷ y ∷ []) h = absurd (omega arith)
three_left (x ∷ y ∷ z ∷ []) h = refl
three_left (x ∷ y ∷ z ∷ w ∷ xs) h = absurd (omega arith)

-- a place that keeps something has its numbers and no others
pub place_told : (key place : List ℕ) (kept : CachedAnswer) → length place ≡ 24 → read_place key place ≡ Some kept → place ≡ key ++ answer_numbers kept
place_told key place kept h e = elim (cases_Bool (same_numbers key (take 21 place))) [
  | inl t ↦
      let k = (same_decides key (take 21 place)).0 t in
      let o = kept_told (get_or place 21 0) (get_or place 22 0) (get_or place 23 0) kept (rw t at e) in
      let d : drop 21 place ≡ answer_numbers kept =
      three_left (drop 21 place) (omega (arith, length-drop 21 place)) ∙ rw (get_or-drop 21 place 0 0, get_or-drop 21 place 1 0, get_or-drop 21 place 2 0) o in
      sym (take-append-drop 21 place) ∙ rw (k, d)
  | inr t ↦ let f = rw t at e in absurd cc
]
