-- The laws of the calls on rows that rise.
use Rattle.std.proofs.Common.{◌≡◌, ℕ, zero, suc, ◌+◌, ◌-◌, ◌*◌, ◌/◌, ◌%◌, ◌^◌, ◌<◌, ◌≤◌, max, false, not, ◌||◌, eqb, ltb, leb, List, [], ◌∷◌, ◌++◌, length, drop, set, sym, refl, ap, ◌∙◌, inl, inr, arith}
use native.Mathlib.Nat.{two-pow-succ}
use Rattle.std.proofs.lemmas.Bool.Decides.{nat_tests}
use Rattle.std.proofs.lemmas.List.{length-append, length-drop}
use Rattle.std.proofs.lemmas.Bool.{cases_Bool, le-ltb}
use Rattle.rows.specs.declared.Row.{Row}
use Rattle.rows.specs.Rows.{SortedByKey, has_key, smaller, put, without, sum, Small}
use Rattle.rows.specs.Halving.{flat, bisect, position}
use Rattle.rows.specs.Numbers.{insert_row, remove_row, in_front}
use Rattle.rows.specs.Laws.{SearchCounts, SearchFinds, ProbesSuffice, fits, PutIsPut, PutSorted, DeleteIsWithout, DeleteSorted, RangeIsRowsIn, RangeSorted, SharedIsAlsoIn, SharedSorted, TotalIsSum, TotalIsExact}
use Rattle.rows.proofs.Orders.{up_put, up_without, up_rows_in, up_also_in, length_put, length_without}
use Rattle.rows.proofs.Splits.{split, Here, Away}
use Rattle.rows.proofs.Places.{length_flat, rows_of_flat, take_flat, drop_flat, position_counts, found_has, probes_suffice}
use Rattle.rows.proofs.Images.{set_flat, opened_flat, closed_flat, flat_take, flat_drop, between_is_rows_in, merged_also_in}

pub halving_counts : SearchCounts
halving_counts k rs rest u = rw (take_flat rs rest) (position_counts k rs u)

pub halving_finds : SearchFinds
halving_finds k rs u = rw (found_has k rs u, position_counts k rs u) refl

below_power : (n : ℕ) → n < 2 ^ n
below_power zero = omega arith
below_power (suc n) = omega (arith, two-pow-succ n, below_power n)

fewer_probes : (n key : ℕ) (rows : List ℕ) → length rows / 2 < 2 ^ n → position key rows ≡ bisect n 0 (length rows / 2) rows key
unfolding position
fewer_probes n key rows h = probes_suffice (length rows / 2) n 0 (length rows / 2) rows key (omega (arith, below_power (length rows / 2))) (omega arith)

pub probes_suffice_any : ProbesSuffice
probes_suffice_any = (fewer_probes, λ key rows h. fewer_probes 13 key rows (omega arith))

-- rows written in front of a memory that has room for them leave its length
pub length_in_front : (rs : List Row) (out : List ℕ) → 2 * length rs ≤ length out → length (in_front rs out) ≡ length out
length_in_front rs out h = simp (length-append, length-drop) (omega (arith, length_flat rs))

-- the memory that a call is lent: rows that rise, and more behind them
module _ (rs : List Row) (rest : List ℕ) (u : SortedByKey rs) where
  lent_length : length (flat rs ++ rest) ≡ 2 * length rs + length rest
  lent_length = length-append (flat rs) rest ∙ ap (λ n. n + length rest) (length_flat rs)

  same_front : in_front rs (flat rs ++ rest) ≡ flat rs ++ rest
  same_front = ap (λ l. flat rs ++ l) (drop_flat rs rest)

  no_less : ltb (length (flat rs ++ rest) / 2) (length rs) ≡ false
  no_less = le-ltb _ _ (omega (arith, lent_length))

  module _ (r : Row) where
    put_fits : fits (put r rs) (flat rs ++ rest) ≡ (has_key r.key rs || leb 2 (length rest))
    put_fits =
        let n = length_put r rs u in
        let m = lent_length in
        elim (cases_Bool (has_key r.key rs)) [
          | inl e ↦ let k = rw e at n in rw e (grind (arith, nat_tests))
          | inr e ↦ let k = rw e at n in rw e (grind (arith, nat_tests))
        ]

    put_here : Here r.key rs → set (flat rs ++ rest) (2 * smaller r.key rs + 1) r.amount ≡ in_front (put r rs) (flat rs ++ rest)
    put_here h =
        let n = rw h.has at (length_put r rs u) in
        rw (n, drop_flat rs rest, h.smaller_is, h.put_is r refl)
        (ap (λ l. set (flat l ++ rest) (2 * length h.before + 1) r.amount) h.rows_are ∙ set_flat h.before h.behind h.row r rest h.key_is)

    put_away : Away r.key rs → insert_row (smaller r.key rs) (length rs) r (flat rs ++ rest) ≡ in_front (put r rs) (flat rs ++ rest)
    put_away h =
        let m = rw h.has at (length_put r rs u) in
        let n : 2 * length (put r rs) ≡ 2 * length rs + 2 = omega arith in
        rw (n, h.smaller_is, h.put_is r refl, h.rows_are) (opened_flat h.before h.behind rest r)

  delete_here : (k : ℕ) → Here k rs → remove_row (smaller k rs) (length rs) (flat rs ++ rest) ≡ in_front (without k rs) (flat rs ++ rest)
  delete_here k h = rw (h.smaller_is, h.without_is, h.rows_are) (closed_flat h.before h.row h.behind rest)

pub put_is_put : PutIsPut
put_is_put r rs rest u =
    let len = lent_length rs rest u in
    let m = length_put r rs u in
    let f = put_fits rs rest u r in
    elim (split r.key rs u) [
      | inl h ↦
          let n = rw h.has at m in
          let g = rw h.has at f in (
            rw (no_less rs rest u, take_flat rs rest, found_has r.key rs u, h.has, g, n) refl,
            rw (no_less rs rest u, take_flat rs rest, found_has r.key rs u, h.has, g, position_counts r.key rs u) (put_here rs rest u r h),
            f,
          )
      | inr h ↦
          let n : length (put r rs) ≡ length rs + 1 = omega (arith, rw h.has at m) in
          let g = rw h.has at f in
          let full : eqb (length rs) (length (flat rs ++ rest) / 2) ≡ not (leb 2 (length rest)) = grind (arith, nat_tests) in
          elim (cases_Bool (leb 2 (length rest))) [
            | inl e ↦ (
              rw (no_less rs rest u, take_flat rs rest, found_has r.key rs u, h.has, full, g, e, n) refl,
              rw (no_less rs rest u, take_flat rs rest, found_has r.key rs u, h.has, full, g, e, position_counts r.key rs u) (put_away rs rest u r h),
              f,
            )
            | inr e ↦ (
              rw (no_less rs rest u, take_flat rs rest, found_has r.key rs u, h.has, full, g, e) refl,
              rw (no_less rs rest u, take_flat rs rest, found_has r.key rs u, h.has, full, g, e) refl,
              f,
            )
          ]
    ]

pub put_rises : PutSorted
put_rises r rs u = up_put 0 r rs (omega arith) u

pub delete_is_without : DeleteIsWithout
delete_is_without k rs rest u =
    elim (split k rs u) [
      | inl h ↦
          let n : length rs - 1 ≡ length (without k rs) = omega (arith, rw h.has at (length_without k rs)) in (
            rw (no_less rs rest u, take_flat rs rest, found_has k rs u, h.has, n) refl,
            rw (no_less rs rest u, take_flat rs rest, found_has k rs u, h.has, position_counts k rs u) (delete_here rs rest u k h),
          )
      | inr h ↦ (
        rw (no_less rs rest u, take_flat rs rest, found_has k rs u, h.has) refl,
        rw (no_less rs rest u, take_flat rs rest, found_has k rs u, h.has, h.without_is) (sym (same_front rs rest u)),
      )
    ]

pub delete_rises : DeleteSorted
delete_rises k rs u = up_without 0 k rs u

pub range_is_rows_in : RangeIsRowsIn
range_is_rows_in range rs u =
    let s = smaller range.from rs in
    let n : 2 * max s (smaller (range.to + 1) rs) - 2 * s ≡ 2 * (max s (smaller (range.to + 1) rs) - s) = omega arith in
    rw (
      position_counts range.from rs u,
      position_counts (range.to + 1) rs u,
      n,
      flat_drop s rs,
      flat_take (max s (smaller (range.to + 1) rs) - s) (drop s rs),
      between_is_rows_in range 0 rs u,
    ) refl

pub range_rises : RangeSorted
range_rises range rs u = up_rows_in 0 range rs u

pub shared_is_also_in : SharedIsAlsoIn
shared_is_also_in xs ys out u v =
    let l = length_flat xs in
    let t : ltb (length out / 2) (length (flat xs) / 2) ≡ not (fits xs out) = grind (arith, nat_tests) in
    elim (cases_Bool (fits xs out)) [
      | inl e ↦ (
        rw (t, e, rows_of_flat xs, rows_of_flat ys, merged_also_in 0 0 xs ys u v) refl,
        rw (t, e, rows_of_flat xs, rows_of_flat ys, merged_also_in 0 0 xs ys u v) refl,
      )
      | inr e ↦ (rw (t, e) refl, rw (t, e) refl)
    ]

pub shared_rises : SharedSorted
shared_rises xs ys u = up_also_in 0 xs ys u

pub total_is_sum : TotalIsSum
total_is_sum rs = let n : length (flat rs) / 2 ≡ length rs = omega (arith, length_flat rs) in rw (n, rows_of_flat rs) refl

small_sum : (rs : List Row) → Small rs → sum rs ≤ length rs * 2 ^ 32
small_sum [] s = omega arith
small_sum (x ∷ xs) s = let i = small_sum xs s.1 in omega arith

pub total_is_exact : TotalIsExact
total_is_exact rs s l =
    let n : sum rs % 2 ^ 64 ≡ sum rs = omega (arith, small_sum rs s) in
    rw (total_is_sum rs, n) refl
