-- What the code tells on sorted rows is the model's answer, at the model's cost.
use Rattle.std.proofs.Common.{◌≡◌, ℕ, ◌+◌, ◌*◌, ◌/◌, ◌%◌, ◌^◌, ◌≤◌, true, false, ◌&&◌, eqb, leb, List, [], ◌∷◌, map, length, sym, refl, ap, inl, inr, arith}
use Rattle.std.proofs.lemmas.List.{length-map}
use Rattle.std.proofs.lemmas.Bool.{cases_Bool, and_parts, and_from, le-leb, or_cases, eqb-true, both_ways}
use Rattle.rows.specs.declared.Row.{Row}
use Rattle.rows.specs.declared.KeyRange.{KeyRange}
use Rattle.rows.specs.Rows.{SortedByKey, Small, in_range, rows_in, also_in, sum}
use Rattle.rows.specs.Halving.{flat, rows_of}
use Rattle.rows.specs.Numbers.{range_part}
use Rattle.rows.proofs.Places.{length_flat, flat_append, rows_of_flat}
use Rattle.rows.proofs.Images.{merged_also_in}
use Rattle.rows.proofs.Theorems.{range_is_rows_in, range_rises}
use Rattle.policy.specs.Rules.{has}
use Rattle.query.specs.declared.Query.TheVariants.{Rows, Total, Shared}
use Rattle.query.specs.Answers.{lists, list, lists_of, count_all, sum_all}
use Rattle.query.specs.Looks.{capacity_sum}
use Rattle.query.specs.AnswerRows.{count, counts, count_in, amount, amount_in, range_parts, common_rows, lengths, row_has_room, all_rows, rows_outcome, total_outcome, list_outcome, unseen_outcome}
use Rattle.query.specs.Laws.{SortedRows, parts_of, AnswersAsModel, NeverRefused, LentIsSeen, CostsAreRows}
use Rattle.query.proofs.Views.{has_head, has_tail}
use Rattle.query.proofs.Sums.{sum_same, sum_within, sum_few}
use Rattle.query.proofs.Back.{lists_back, list_back}

-- the part of one compartment
module _ (range : KeyRange) (rs : List Row) (u : SortedByKey rs) where
  count_is : count range (flat rs) ≡ length (rows_in range rs)
  count_is = let l = length_flat (rows_in range rs) in rw (range_is_rows_in range rs u) (omega arith)

  amount_is : sum (rows_of (range_part range (flat rs))) ≡ sum (rows_in range rs)
  amount_is = rw (range_is_rows_in range rs u, rows_of_flat (rows_in range rs)) refl

  common_is : (others : List Row) → SortedByKey others → common_rows (range_part range (flat rs)) (flat others) ≡ also_in (rows_in range rs) others
  common_is others v =
      rw (range_is_rows_in range rs u, rows_of_flat (rows_in range rs), rows_of_flat others)
      (merged_also_in 0 0 (rows_in range rs) others (range_rises range rs u) v)

small_sum : (range : KeyRange) (rs : List Row) → Small rs → sum (rows_in range rs) ≤ length rs * 2 ^ 32
small_sum range [] s = omega arith
small_sum range (x ∷ rs) s =
    let i = small_sum range rs s.1 in
    elim (cases_Bool (in_range range x)) [ inl e ↦ rw e (omega arith) | inr e ↦ rw e (omega arith) ]

-- the parts of some compartments
module _ (capacity : ℕ → ℕ) (rows : ℕ → List Row) (range : KeyRange) where
  Holds : List ℕ → Type 0
  Holds cs = (c : ℕ) → has cs c ≡ true → SortedRows (rows c) (capacity c)

  first : (c : ℕ) (cs : List ℕ) → Holds (c ∷ cs) → SortedRows (rows c) (capacity c)
  unfolding Holds
  first c cs k = k c (has_head c cs)

  others : (c : ℕ) (cs : List ℕ) → Holds (c ∷ cs) → Holds cs
  unfolding Holds
  others c cs k d h = k d (has_tail c d cs h)

  counts_are : (cs : List ℕ) → Holds cs → counts range (parts_of rows cs) ≡ map (λ l. length l) (lists_of rows range cs)
  counts_are [] k = refl
  counts_are (c ∷ cs) k = rw (count_is range (rows c) (first c cs k).rises, counts_are cs (others c cs k)) refl

  cut_is : (cs : List ℕ) → Holds cs → range_parts range (parts_of rows cs) ≡ flat (all_rows (lists_of rows range cs))
  cut_is [] k = refl
  cut_is (c ∷ cs) k =
      rw (range_is_rows_in range (rows c) (first c cs k).rises, cut_is cs (others c cs k))
      (sym (flat_append (rows_in range (rows c)) (all_rows (lists_of rows range cs))))

  count_in_is : (cs : List ℕ) → Holds cs → count_in range (parts_of rows cs) ≡ count_all (lists_of rows range cs)
  unfolding Holds
  count_in_is cs k =
      sum_same (count range) (λ (l : List Row). length l) (λ (c : ℕ). flat (rows c)) (λ (c : ℕ). rows_in range (rows c)) cs
      (λ c h. count_is range (rows c) (k c h).rises)

  amount_in_is : (cs : List ℕ) → Holds cs → amount_in range (parts_of rows cs) ≡ sum_all (lists_of rows range cs)
  unfolding Holds
  amount_in_is cs k =
      sum_same (amount range) (λ (l : List Row). sum l) (λ (c : ℕ). flat (rows c)) (λ (c : ℕ). rows_in range (rows c)) cs
      (λ c h. amount_is range (rows c) (k c h).rises)

  sum_all_small : (cs : List ℕ) → Holds cs → sum_all (lists_of rows range cs) ≤ length cs * 2 ^ 44
  unfolding Holds
  sum_all_small cs k =
      sum_few (λ (l : List Row). sum l) (λ (c : ℕ). rows_in range (rows c)) (2 ^ 44) cs (λ c h.
      let s = small_sum range (rows c) (k c h).small in
      let w = (k c h).within in
      let f = (k c h).few in
      omega arith)

fits_from : (ps : List (List ℕ)) (long : ℕ) → length ps ≤ 16 → 32 + lengths ps ≤ long → row_has_room ps long ≡ true
fits_from ps long h k = and_from (leb (length ps) 16) (leb (32 + lengths ps) long) (le-leb _ _ h) (le-leb _ _ k)

-- parts within their capacities fit into a row that is as long as needed
module _ (capacity : ℕ → ℕ) (part : ℕ → List ℕ) where
  lengths_small : (cs : List ℕ) → ((c : ℕ) → has cs c ≡ true → length (part c) ≤ 2 * capacity c) → lengths (map part cs) ≤ 2 * capacity_sum capacity cs
  lengths_small cs h = sum_within (λ (part : List ℕ). length part) capacity part 2 cs h

  all_fit : (cs : List ℕ) (long : ℕ) → length cs ≤ 16 → ((c : ℕ) → has cs c ≡ true → length (part c) ≤ 2 * capacity c) → 32 + 2 * capacity_sum capacity cs ≤ long
      → row_has_room (map part cs) long ≡ true
  all_fit cs long few h l =
      let n : length (map part cs) ≡ length cs = length-map cs part in
      let s = lengths_small cs h in
      fits_from (map part cs) long (omega arith) (omega arith)

  one_fits : (c long : ℕ) → length (part c) ≤ 2 * capacity c → 32 + 2 * capacity c ≤ long → row_has_room (part c ∷ []) long ≡ true
  one_fits c long h l = fits_from (part c ∷ []) long (omega arith) (omega arith)

pub never_refused : NeverRefused
never_refused capacity view part (Rows range) row few h l =
    (rows_outcome range (map part view), rw (all_fit capacity part view (length row) few h (l _ refl)) refl)
never_refused capacity view part (Total range) row few h l =
    (total_outcome range (map part view), rw (all_fit capacity part view (length row) few h (l _ refl)) refl)
never_refused capacity view part (Shared a b range) row few h l = elim (cases_Bool (has view a && has view b)) [
  | inl e ↦
      let seen = and_parts (has view a) (has view b) e in
      let f = one_fits capacity part a (length row) (h a seen.0) (l (32 + 2 * capacity a) (rw e refl)) in
      (list_outcome range (part a) (part b), rw (e, f) refl)
  | inr e ↦ (unseen_outcome, rw e refl)
]

within_twice : (capacity : ℕ) (rs : List Row) → SortedRows rs capacity → length (flat rs) ≤ 2 * capacity
within_twice capacity rs k = let l = length_flat rs in omega arith

pub answers_as_model : AnswersAsModel
unfolding Holds
answers_as_model capacity view rows (Rows range) row few kept long =
    let ps = parts_of rows view in
    let ls = lists_of rows range view in
    let f = all_fit capacity (λ c. flat (rows c)) view (length row) few (λ c h. within_twice (capacity c) (rows c) (kept c h)) (long _ refl) in
    let n : length ps ≡ length view = length-map view (λ c. flat (rows c)) in
    let k : length ls ≡ length view = length-map view (λ (c : ℕ). rows_in range (rows c)) in
    let c = counts_are capacity rows range view kept in
    let m : length (map (λ (l : List Row). length l) ls) ≡ length ls = length-map ls (λ (l : List Row). length l) in
    record {
      returned = rw (f, n, count_in_is capacity rows range view kept, k) refl;
      row = rw (f, c, cut_is capacity rows range view kept) refl;
      reading = ap lists (lists_back (map (λ (l : List Row). length l) ls) (flat (all_rows ls)) row (omega arith) ls (length ls) (sym m) refl refl);
    }
answers_as_model capacity view rows (Total range) row few kept long =
    let ps = parts_of rows view in
    let f = all_fit capacity (λ c. flat (rows c)) view (length row) few (λ c h. within_twice (capacity c) (rows c) (kept c h)) (long _ refl) in
    let c = count_in_is capacity rows range view kept in
    let b = sum_all_small capacity rows range view kept in
    let a = amount_in_is capacity rows range view kept in
    let e : amount_in range ps % 2 ^ 64 ≡ sum_all (lists_of rows range view) = omega arith in
    record { returned = rw (f, c, e) refl; row = rw f refl; reading = refl }
answers_as_model capacity view rows (Shared a b range) row few kept long = elim (cases_Bool (has view a && has view b)) [
  | inl e ↦
      let seen = and_parts (has view a) (has view b) e in
      let ka = kept a seen.0 in
      let kb = kept b seen.1 in
      let rs = also_in (rows_in range (rows a)) (rows b) in
      let common_rows = common_is range (rows a) ka.rises (rows b) kb.rises in
      let lb = length_flat (rows b) in
      let other : length (flat (rows b)) / 2 ≡ length (rows b) = omega arith in
      let f = one_fits capacity (λ c. flat (rows c)) a (length row) (within_twice (capacity a) (rows a) ka) (long (32 + 2 * capacity a) (rw e refl)) in
      let i = count_is range (rows a) ka.rises in
      record {
        returned = rw (e, f, common_rows, i, other) refl;
        row = rw (e, f, common_rows) refl;
        reading = rw e (ap list (list_back (length rs ∷ []) row rs (omega arith)));
      }
  | inr e ↦ record { returned = rw e refl; row = rw e refl; reading = rw e refl }
]

pub lent_is_seen : LentIsSeen
lent_is_seen view (Rows range) c h = h
lent_is_seen view (Total range) c h = h
lent_is_seen view (Shared a b range) c h = elim (cases_Bool (has view a && has view b)) [
  | inl e ↦
      let seen = and_parts (has view a) (has view b) e in
      elim (or_cases (eqb a c) (has (b ∷ []) c) (rw e at h)) [
        | inl i ↦ rw (eqb-true a c i) at seen.0
        | inr i ↦ elim (or_cases (eqb b c) false i) [
          | inl j ↦ rw (eqb-true b c j) at seen.1
          | inr j ↦ absurd (both_ways false refl j)
        ]
      ]
  | inr e ↦ absurd (both_ways false refl (rw e at h))
]

pub costs_are_rows : CostsAreRows
costs_are_rows view rows range = record {
  of_rows = λ ls e. let g : lists_of rows range view ≡ ls = cc in ap count_all g;
  of_total = λ n s e. cc;
  of_shared = λ a b h k. rw (h, k) refl;
  of_unseen = λ a b e. elim (cases_Bool (has view a && has view b)) [
    | inl h ↦ let g = rw h at e in cc
    | inr h ↦ rw h refl
  ];
}
