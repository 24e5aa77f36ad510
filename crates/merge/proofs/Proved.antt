-- The laws.
use Rattle.std.proofs.Common.{◌≡◌, ℕ, ◌+◌, ◌-◌, ◌*◌, ◌/◌, ◌≤◌, true, false, leb, ltb, List, [], ◌∷◌, ◌++◌, length, take, drop, Some, sym, refl, ap, ◌∙◌, inl, inr, arith}
use Rattle.std.proofs.lemmas.Bool.Decides.{nat_tests}
use Rattle.std.proofs.lemmas.Bool.{cases_Bool, leb-true, lt-ltb, le-ltb, le-leb, leb-false}
use Rattle.std.proofs.lemmas.List.{append_assoc, length-append, length-drop, length-take-le, take-take, drop_at, drop-drop, take-append-le}
use Rattle.rows.specs.declared.Row.{Row}
use Rattle.rows.specs.declared.KeyRange.{KeyRange}
use Rattle.rows.specs.Rows.{SortedByKey, smaller, put_all, also_in, rows_in}
use Rattle.rows.specs.Halving.{flat}
use Rattle.rows.specs.Numbers.{in_front}
use Rattle.rows.proofs.Orders.{smaller_within, up_rows_in}
use Rattle.rows.proofs.Places.{length_flat, rows_of_flat, flat_append, take_flat, position_counts}
use Rattle.rows.proofs.Theorems.{range_is_rows_in}
use Rattle.rows.proofs.Images.{merged_also_in}
use Rattle.rows.proofs.Keys.{length_put_all}
use Rattle.merge.specs.Numbers.{new_keys, count_after, fits_in, spread, plan, merged_into}
use Rattle.merge.specs.declared.Copying.{Copying}
use Rattle.merge.specs.Laws.{NewKeysCounts, CountsAfter, Stands, rows_at, copying, rows_before, rows_above, copying_range, PlanIsRange, MergeIsPutAll, CopyIsPutAll}
use Rattle.merge.proofs.Orders.{also_in_range, no_fewer}
use Rattle.merge.proofs.Ranges.{three_parts, put_all_range}
use Rattle.merge.proofs.Parts.{Fronts, fronts_front, fronts_behind}
use Rattle.merge.proofs.Merges.{Ready, merges}

also_in_fewer : (xs ys : List Row) → length (also_in xs ys) ≤ length xs
also_in_fewer [] ys = omega arith
also_in_fewer (x ∷ xs) ys = let i = also_in_fewer xs ys in grind (arith, nat_tests)

new_keys_are : (ss ds : List Row) → SortedByKey ss → SortedByKey ds → new_keys (flat ss) (flat ds) ≡ length ss - length (also_in ss ds)
new_keys_are ss ds u v =
    let n : length (flat ss) / 2 ≡ length ss = omega (arith, length_flat ss) in
    rw (n, rows_of_flat ss, rows_of_flat ds, merged_also_in 0 0 ss ds u v) refl

pub new_keys_counts : NewKeysCounts
new_keys_counts ss ds u v = rw (new_keys_are ss ds u v) (omega (arith, length_put_all 0 ss ds u v, also_in_fewer ss ds))

pub counts_after : CountsAfter
counts_after range ss ds us ud =
    let copied = up_rows_in 0 range ss us in
    let n : length (flat ds) / 2 ≡ length ds = omega (arith, length_flat ds) in
    rw (n, range_is_rows_in range ds ud, new_keys_are (rows_in range ss) (rows_in range ds) copied (up_rows_in 0 range ds ud), also_in_range range ss ds)
    (omega (arith, length_put_all 0 (rows_in range ss) ds copied ud, also_in_fewer (rows_in range ss) ds))

-- the rows of a sorted list in front of a range, in it and behind it
module _ (range : KeyRange) (rs : List Row) (u : SortedByKey rs) where
  first_are : length (rows_before range rs) ≡ smaller range.from rs
  first_are = length-take-le (smaller range.from rs) rs (smaller_within range.from rs)

  three_are : length rs ≡ smaller range.from rs + (length (rows_in range rs) + length (rows_above range rs))
  three_are =
      omega (arith, first_are, ap length (three_parts range rs u), length-append (rows_before range rs) (rows_in range rs ++ rows_above range rs), length-append (rows_in range rs) (rows_above range rs))

pub plan_is_range : PlanIsRange
plan_is_range range ss ds us ud =
    let found = rows_in range ss in
    let kept = rows_in range ds in
    let bs = rows_above range ds in
    let three = three_are range ds ud in
    let first = first_are range ds ud in
    let count : length (flat kept) / 2 ≡ length kept = omega (arith, length_flat kept) in
    let behind : length (flat ds) / 2 - smaller range.from ds - length kept ≡ length bs = omega (arith, length_flat ds) in
    let total = new_keys_counts found kept (up_rows_in 0 range ss us) (up_rows_in 0 range ds ud) in
    let whole = ap length (put_all_range range ds ud ss) ∙ length-append (rows_before range ds) (put_all found kept ++ bs) in
    let rest = length-append (put_all found kept) bs in (
      range_is_rows_in range ss us,
      rw (range_is_rows_in range ds ud, position_counts range.from ds ud, count, total, behind) refl,
      omega arith,
    )

module _ (m : List ℕ) (start : ℕ) (ss ds bs : List Row) (us : SortedByKey ss) (ud : SortedByKey ds)
    (stands : Stands (ds ++ bs) start m) (within : start + 2 * length (put_all ss ds ++ bs) ≤ length m) where
  all_are : length (put_all ss ds ++ bs) ≡ length (put_all ss ds) + length bs
  all_are = length-append (put_all ss ds) bs

  it_fits : fits_in (copying start ss ds bs) (length m) ≡ true
  it_fits =
      let n = all_are in
      rw (
        le-leb (length ds) (length (put_all ss ds)) (no_fewer ss ds),
        le-leb (start + 2 * length (put_all ss ds) + 2 * length bs) (length m) (omega arith),
      ) refl

  -- the numbers from the start on
  abbrev among : List ℕ
  among = drop (start) m

  long : length among ≡ length m - start
  long = length-drop (start) m

  abbrev gap : List ℕ
  gap = take (2 * length (put_all ss ds)) among

  gap_is : length gap ≡ 2 * length (put_all ss ds)
  gap_is = length-take-le (2 * length (put_all ss ds)) among (omega (arith, long, all_are, within))

  abbrev rest : List ℕ
  rest = flat bs ++ drop (2 * length (put_all ss ds) + 2 * length bs) among

  -- the rows behind stand where they will
  spread_is : spread (copying start ss ds bs) among ≡ gap ++ rest
  spread_is =
      let n : 2 * length ds + 2 * length bs - 2 * length ds ≡ 2 * length bs = omega arith in
      rw (n, fronts_behind ds bs among stands) (append_assoc gap (flat bs) (drop (2 * length (put_all ss ds) + 2 * length bs) among))

  ready : Ready (length (put_all ss ds)) (gap ++ rest) ss ds
  ready = record {
    source_sorted = us;
    destination_sorted = ud;
    count_is = refl;
    fronts =
        let f = no_fewer ss ds in
        take-append-le (2 * length ds) gap rest (omega (arith, gap_is))
        ∙ (take-take (2 * length ds) (2 * length (put_all ss ds)) among (omega arith) ∙ fronts_front ds bs among stands);
    room = omega (arith, gap_is, length-append gap rest);
  }

  it_merges : merged_into (flat ss) (copying start ss ds bs) m ≡ rows_at start (put_all ss ds ++ bs) m
  it_merges =
      let n = all_are in
      let all : start + 2 * length (put_all ss ds ++ bs) ≡ start + (2 * length (put_all ss ds) + 2 * length bs) = omega arith in
      let behind : drop (2 * length (put_all ss ds) + 2 * length bs) among ≡ drop (start + 2 * length (put_all ss ds ++ bs)) m =
      drop-drop (2 * length (put_all ss ds) + 2 * length bs) (start) m ∙ ap (λ n. drop n m) (sym all) in
      let front : drop (2 * length (put_all ss ds)) (gap ++ rest) ≡ rest = drop_at gap rest (2 * length (put_all ss ds)) gap_is in
      rw (it_fits, rows_of_flat ss, spread_is)
      (ap (λ l. take (start) m ++ l)
      (merges (length (put_all ss ds)) (gap ++ rest) ss ds ready
      ∙ (ap (λ l. flat (put_all ss ds) ++ l) (front ∙ ap (λ l. flat bs ++ l) behind)
      ∙ (sym (append_assoc (flat (put_all ss ds)) (flat bs) (drop (start + 2 * length (put_all ss ds ++ bs)) m))
      ∙ ap (λ l. l ++ drop (start + 2 * length (put_all ss ds ++ bs)) m) (sym (flat_append (put_all ss ds) bs))))))

pub merge_is_put_all : MergeIsPutAll
merge_is_put_all m start ss ds bs us ud stands within = (it_fits m start ss ds bs us ud stands within, it_merges m start ss ds bs us ud stands within)

-- rows of a range come among those of that range alone
module _ (range : KeyRange) (ss ds : List Row) (rest : List ℕ) (us : SortedByKey ss) (ud : SortedByKey ds)
    (room : 2 * length (put_all (rows_in range ss) ds) ≤ length (flat ds ++ rest)) where
  abbrev memory : List ℕ
  memory = flat ds ++ rest

  abbrev new : List Row
  new = put_all (rows_in range ss) (rows_in range ds) ++ rows_above range ds

  whole : put_all (rows_in range ss) ds ≡ rows_before range ds ++ new
  whole = put_all_range range ds ud ss

  first : length (rows_before range ds) ≡ smaller range.from ds
  first = first_are range ds ud

  all : length (put_all (rows_in range ss) ds) ≡ smaller range.from ds + length new
  all = ap length whole ∙ (length-append (rows_before range ds) new ∙ ap (λ n. n + length new) first)

  in_parts : Fronts (rows_before range ds ++ (rows_in range ds ++ rows_above range ds)) memory
  in_parts = rw (← three_parts range ds ud) (take_flat ds rest)

  copies_range : merged_into (flat (rows_in range ss)) (copying_range range ss ds) memory ≡ in_front (put_all (rows_in range ss) ds) memory
  copies_range =
      let stands = rw first at (fronts_behind (rows_before range ds) (rows_in range ds ++ rows_above range ds) memory in_parts) in
      let before = rw first at (fronts_front (rows_before range ds) (rows_in range ds ++ rows_above range ds) memory in_parts) in
      let n : 2 * smaller range.from ds + 2 * length new ≡ 2 * length (put_all (rows_in range ss) ds) = omega (arith, all) in
      it_merges memory (2 * smaller range.from ds) (rows_in range ss) (rows_in range ds) (rows_above range ds)
      (up_rows_in 0 range ss us) (up_rows_in 0 range ds ud) stands (omega arith)
      ∙ rw (before, n)
      (sym (append_assoc (flat (rows_before range ds)) (flat new) (drop (2 * length (put_all (rows_in range ss) ds)) memory))
      ∙ ap (λ l. l ++ drop (2 * length (put_all (rows_in range ss) ds)) memory) (sym (ap flat whole ∙ flat_append (rows_before range ds) new)))

pub copy_is_put_all : CopyIsPutAll
copy_is_put_all range ss ds others us ud =
    let copied = rows_in range ss in
    let m = flat ds ++ others in
    let long = length-append (flat ds) others in
    let flat_long = length_flat ds in
    let enough : ltb (length m / 2) (length ds) ≡ false = le-ltb (length m / 2) (length ds) (omega arith) in
    let count : count_after (flat copied) range (take (2 * length ds) m) ≡ length (put_all copied ds) =
    ap (count_after (flat copied) range) (take_flat ds others) ∙ counts_after range ss ds us ud in
    let planned : plan (flat copied) range (take (2 * length ds) m) ≡ copying_range range ss ds =
    ap (plan (flat copied) range) (take_flat ds others) ∙ (plan_is_range range ss ds us ud).1 in
    elim (cases_Bool (leb (2 * length (put_all copied ds)) (length m))) [
      | inl e ↦
          let room = leb-true (2 * length (put_all copied ds)) (length m) e in
          let fits : ltb (length m / 2) (length (put_all copied ds)) ≡ false = le-ltb (length m / 2) (length (put_all copied ds)) (omega arith) in
          rw (enough, count, fits, e)
          (ap (λ (rows : List ℕ). record { count = Some (length (put_all copied ds)); rows = rows })
          (ap (λ (c : Copying). merged_into (flat copied) c m) planned ∙ copies_range range ss ds others us ud room))
      | inr e ↦
          let over = leb-false (2 * length (put_all copied ds)) (length m) e in
          let full : ltb (length m / 2) (length (put_all copied ds)) ≡ true = lt-ltb (length m / 2) (length (put_all copied ds)) (omega arith) in
          rw (enough, count, full, e) refl
    ]
