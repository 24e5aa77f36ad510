-- What a user's cache holds after any trace: entries that were right when they were kept, none of them newer than now.
use Rattle.std.proofs.Common.{◌≡◌, ℕ, suc, ◌<◌, ◌≤◌, true, false, ◌&&◌, eqb, List, [], ◌∷◌, map, is_some, Some, sum, sym, refl, ap, inl, inr, arith}
use Rattle.std.specs.List.{AllByRecursion}
use Rattle.std.proofs.ByRecursion.{All-weaker}
use Rattle.std.proofs.lemmas.Bool.{cases_Bool, and_parts, and_from, and_right, eqb-true, eq-eqb, ne_eqb, or_cases, cases_eq}
use Rattle.std.proofs.lemmas.List.Sums.{sum_by-cons}
use Rattle.rows.specs.declared.Row.{Row}
use Rattle.rows.specs.declared.KeyRange.{KeyRange}
use Rattle.policy.specs.Rules.{has}
use Rattle.query.specs.declared.Query.{Query}
use Rattle.query.specs.declared.Query.TheVariants.{Rows, Total, Shared}
use Rattle.query.specs.Answers.{Answer, lists, total, list, not_seen, answer, same_query, same_range}
use Rattle.model.specs.Model.{Entry, CachedAnswer, find, same_versions, keep, recall, with_at}
use Rattle.query.proofs.Seen.{SameOn, same_answer}

same_range_is : (r s : KeyRange) → same_range r s ≡ true → r ≡ s
same_range_is r s h =
    let e = and_parts (eqb r.from s.from) (eqb r.to s.to) h in
    let f = eqb-true r.from s.from e.0 in
    let g = eqb-true r.to s.to e.1 in
    λ i. record { from = f i; to = g i }

pub same_query_is : (q r : Query) → same_query q r ≡ true → q ≡ r
same_query_is (Rows r) (Rows s) h = ap Rows (same_range_is r s h)
same_query_is (Rows r) (Total s) h = absurd cc
same_query_is (Rows r) (Shared a b s) h = absurd cc
same_query_is (Total r) (Rows s) h = absurd cc
same_query_is (Total r) (Total s) h = ap Total (same_range_is r s h)
same_query_is (Total r) (Shared a b s) h = absurd cc
same_query_is (Shared c d r) (Rows s) h = absurd cc
same_query_is (Shared c d r) (Total s) h = absurd cc
same_query_is (Shared c d r) (Shared a b s) h =
    let e = and_parts (eqb c a) (eqb d b && same_range r s) h in
    let f = and_parts (eqb d b) (same_range r s) e.1 in
    let x = eqb-true c a e.0 in
    let y = eqb-true d b f.0 in
    let z = same_range_is r s f.1 in
    cc

same_range_refl : (r : KeyRange) → same_range r r ≡ true
same_range_refl r = and_from _ _ (eq-eqb r.from r.from refl) (eq-eqb r.to r.to refl)

pub same_query_refl : (q : Query) → same_query q q ≡ true
same_query_refl (Rows r) = same_range_refl r
same_query_refl (Total r) = same_range_refl r
same_query_refl (Shared a b r) = and_from (eqb a a) (eqb b b && same_range r r) (eq-eqb a a refl) (and_from (eqb b b) (same_range r r) (eq-eqb b b refl) (same_range_refl r))

same_versions_is : (ms ns : List ℕ) → same_versions ms ns ≡ true → ms ≡ ns
same_versions_is [] [] h = refl
same_versions_is [] (n ∷ ns) h = absurd cc
same_versions_is (m ∷ ms) [] h = absurd cc
same_versions_is (m ∷ ms) (n ∷ ns) h =
    let e = and_parts (eqb m n) (same_versions ms ns) h in
    let f = eqb-true m n e.0 in
    let i = same_versions_is ms ns e.1 in
    cc

pub same_versions_refl : (ns : List ℕ) → same_versions ns ns ≡ true
same_versions_refl [] = refl
same_versions_refl (n ∷ ns) = and_from (eqb n n) (same_versions ns ns) (eq-eqb n n refl) (same_versions_refl ns)

-- versions only grow: their sum tells old ones from new ones
older_differ : (ms ns : List ℕ) → sum ms < sum ns → same_versions ns ms ≡ false
older_differ ms ns h = elim (cases_Bool (same_versions ns ms)) [
  | inl e ↦ let f = ap sum (same_versions_is ns ms e) in absurd (omega arith)
  | inr e ↦ e
]

abbrev raised : (ℕ → ℕ) → ℕ → ℕ → ℕ
raised f c = with_at f c (suc (f c))

pub raised_no_less : (f : ℕ → ℕ) (c : ℕ) (cs : List ℕ) → sum (map f cs) ≤ sum (map (raised f c) cs)
raised_no_less f c [] = omega arith
raised_no_less f c (d ∷ ds) = let i = raised_no_less f c ds in rw (sum_by-cons (λ n. n) (f d) (map f ds), sum_by-cons (λ n. n) (raised f c d) (map (raised f c) ds)) (elim (cases_eq c d) [
  | inl e ↦ rw (eq-eqb c d e) (let g : f d ≡ f c = ap f (sym e) in omega arith)
  | inr e ↦ rw (ne_eqb c d e) (omega arith)
])

pub raised_more : (f : ℕ → ℕ) (c : ℕ) (cs : List ℕ) → has cs c ≡ true → sum (map f cs) < sum (map (raised f c) cs)
raised_more f c [] h = absurd cc
raised_more f c (d ∷ ds) h = rw (sum_by-cons (λ n. n) (f d) (map f ds), sum_by-cons (λ n. n) (raised f c d) (map (raised f c) ds)) (elim (cases_eq c d) [
  | inl e ↦ let i = raised_no_less f c ds in rw (eq-eqb c d e) (let g : f d ≡ f c = ap f (sym e) in omega arith)
  | inr e ↦ elim (or_cases (eqb d c) (has ds c) h) [
    | inl k ↦ absurd (e (sym (eqb-true d c k)))
    | inr k ↦ let i = raised_more f c ds k in rw (ne_eqb c d e) (omega arith)
  ]
])

-- an entry of a cache: not newer than now, and right if nothing that is seen was changed since
abbrev pub Fits : List ℕ → (ℕ → List Row) → List ℕ → Entry → Type 0
Fits view rows now e = (sum e.versions ≤ sum now) × (e.versions ≡ now → recall e.kept (answer view rows e.query) ≡ answer view rows e.query)

abbrev pub AllFit : List ℕ → (ℕ → List Row) → List ℕ → List Entry → Type 0
AllFit view rows now = AllByRecursion (Fits view rows now)

-- after a change of what is seen no entry is of now
pub fit_older : (view : List ℕ) (rows other : ℕ → List Row) (now later : List ℕ) (es : List Entry) → sum now < sum later →
    AllFit view rows now es → AllFit view other later es
fit_older view rows other now later es l h =
    All-weaker (Fits view rows now) (Fits view other later)
    (λ (e : Entry) (f : Fits view rows now e). (omega (arith, f.0), λ (k : e.versions ≡ later). absurd (omega (arith, f.0, ap sum k)))) es h

-- a change of what is not seen leaves all as it is
pub fit_same : (view : List ℕ) (rows other : ℕ → List Row) (now : List ℕ) (es : List Entry) → SameOn view rows other →
    AllFit view rows now es → AllFit view other now es
fit_same view rows other now es s h =
    All-weaker (Fits view rows now) (Fits view other now)
    (λ (e : Entry) (f : Fits view rows now e).
    (f.0, λ (k : e.versions ≡ now). let a = same_answer view rows other e.query s in let g = f.1 k in rw a at g)) es h

-- what was worked out is right when it is recalled
pub recall_keep : (a : Answer) → recall (keep a) a ≡ a
recall_keep (lists l) = refl
recall_keep (total n m) = refl
recall_keep (list l) = refl
recall_keep not_seen = refl

-- a kept answer that is found is right
pub found_right : (q : Query) (view : List ℕ) (rows : ℕ → List Row) (now : List ℕ) (es : List Entry) (k : CachedAnswer) → AllFit view rows now es →
    find q now es ≡ Some k → recall k (answer view rows q) ≡ answer view rows q
found_right q view rows now [] k h e = absurd cc
found_right q view rows now (x ∷ es) k h e = elim (cases_Bool (same_query q x.query && same_versions now x.versions)) [
  | inl t ↦
      let parts = and_parts (same_query q x.query) (same_versions now x.versions) t in
      let sq = same_query_is q x.query parts.0 in
      let sv = same_versions_is now x.versions parts.1 in
      let r = h.0.1 (sym sv) in
      let f = rw t at e in
      let g : x.kept ≡ k = cc in
      rw (← g, sq) r
  | inr t ↦ found_right q view rows now es k h.1 (rw t at e)
]

-- where all entries are older nothing is found
pub none_found : (q : Query) (view : List ℕ) (rows : ℕ → List Row) (now later : List ℕ) (es : List Entry) → sum now < sum later → AllFit view rows now es → is_some (find q later es) ≡ false
none_found q view rows now later [] l h = refl
none_found q view rows now later (x ∷ es) l h =
    let d = older_differ x.versions later (omega (arith, h.0.0)) in
    rw (and_right (same_query q x.query) (same_versions later x.versions) d) (none_found q view rows now later es l h.1)
