-- What the calls do to a part that holds a version and rows.
use Rattle.std.proofs.Common.{◌≡◌, ℕ, suc, ◌+◌, ◌*◌, ◌/◌, ◌<◌, ◌≤◌, Bool, true, false, cond, ltb, leb, List, ◌∷◌, ◌++◌, length, get_or, take, drop, replicate, is_ok, Some, None, Ok, Err, Option, Result, sym, refl, ap, ◌∙◌, inl, inr, add-one, arith}
use Rattle.std.proofs.lemmas.Bool.Decides.{nat_tests}
use Rattle.std.proofs.lemmas.List.{length-replicate}
use Rattle.std.proofs.lemmas.Bool.{cases_Bool, true≢false, false≢true, ltb-true, leb-true, lt-ltb, le-leb, cond-true}
use Rattle.std.specs.List.{AllByRecursion}
use Rattle.rows.specs.declared.Row.{Row}
use Rattle.rows.specs.Rows.{SortedByKey, put, put_all, without, has_key, rows_in}
use Rattle.rows.specs.Halving.{flat}
use Rattle.rows.specs.Laws.{fits}
use Rattle.rows.specs.Numbers.{in_front}
use Rattle.rows.proofs.Orders.{length_without, all_put, all_put_all, all_without, all_rows_in, rising_put_all}
use Rattle.rows.proofs.Places.{take_flat, drop_flat}
use Rattle.rows.proofs.Theorems.{length_in_front, put_is_put, put_rises, delete_is_without, delete_rises, range_is_rows_in}
use Rattle.std.specs.Prelude.{ok_or}
use Rattle.merge.specs.Numbers.{merge_result}
use Rattle.merge.proofs.Proved.{copy_is_put_all}
use Rattle.base.specs.declared.refusal.Refusal.{Refusal}
use Rattle.base.specs.declared.refusal.Refusal.TheVariants.{LastVersion}
use Rattle.compartment.specs.declared.copying.Copying.{Copying}
use Rattle.compartment.specs.ChangeResult.{ChangeResult, refused_change, change_unless_refused}
use Rattle.compartment.specs.Changes.{RowsChange, put_change, delete_change, copy_change, refill_change, no_change}
use Rattle.compartment.specs.Parts.{limit, capacity, in_bounds, count_told, rows_part, with_heading, counts_of, change_rows, copy_part, rows_to_copy}
use Rattle.compartment.specs.Holding.{FitsU32s, PartHolds, BothHold, version_check, EmptyHolds, CheckCounts, RowsAreFlat, RefusedChangeLeaves, WriteTells, WriteHolds, DeleteTells, DeleteHolds, CopyTells, CopyHolds, RefusedCopyLeaves, RefillTells, RefillLeaves, RefillHolds, RefilledHolds, RaiseTells, RaiseHolds}

pub empty_holds : EmptyHolds
empty_holds c =
    let two : 2 + 2 * c ≡ suc (suc (2 * c)) = omega arith in
    record {
      rest = replicate (2 * c) 0;
      is = rw two refl;
      long = length-replicate (2 + 2 * c) 0;
      sorted = tt;
      small = tt;
      fits = omega arith;
      bounded = omega arith;
    }

-- what is told of a change, and what memory holds where it is done
abbrev outcome : Bool → Bool → Refusal → Refusal → List ℕ → List ℕ → ChangeResult
outcome can lasts why last new part = cond can (cond lasts (record { told = Ok tt; memory = new }) (refused_change part last)) (refused_change part why)

outcome_told : (can lasts : Bool) (why last : Refusal) (new part : List ℕ) → (outcome can lasts why last new part).told ≡ cond can (cond lasts (Ok tt) (Err last)) (Err why)
outcome_told true true why last new part = refl
outcome_told true false why last new part = refl
outcome_told false lasts why last new part = refl

outcome_done : (can lasts : Bool) (why last : Refusal) (new part : List ℕ) → (outcome can lasts why last new part).told ≡ Ok tt
    → (can ≡ true) × (lasts ≡ true) × ((outcome can lasts why last new part).memory ≡ new)
outcome_done true true why last new part e = (refl, refl, refl)
outcome_done true false why last new part e = absurd (false≢true (ap is_ok e))
outcome_done false lasts why last new part e = absurd (false≢true (ap is_ok e))

module _ (c version : ℕ) (rows : List Row) (part : List ℕ) (h : PartHolds c version rows part) where
  behind : length (flat rows ++ h.rest) ≡ 2 * c
  behind = omega (arith, ap length h.is, h.long)

  sound_is : in_bounds part ≡ true
  sound_is =
      let v : get_or part 0 0 ≡ version = rw h.is refl in
      let n : get_or part 1 0 ≡ length rows = rw h.is refl in
      rw (le-leb 2 (length part) (omega (arith, h.long)), lt-ltb (get_or part 0 0) limit (omega (arith, h.bounded)), le-leb (get_or part 1 0) (capacity part) (omega (arith, h.long, h.fits))) refl

  counts : ((start : ℕ) → count_told start part ≡ Ok (length rows)) × (get_or part 0 0 ≡ version)
  counts = (λ start. cond-true (in_bounds part) _ _ sound_is ∙ ap (λ n. Ok n) (rw h.is refl), rw h.is refl)

  flat_rows : rows_part (length rows) part ≡ flat rows
  flat_rows =
      cond-true (leb (2 + 2 * length rows) (length part)) _ _ (le-leb (2 + 2 * length rows) (length part) (omega (arith, h.long, h.fits)))
      ∙ rw h.is (take_flat rows h.rest)

  -- a part with other rows in front, one version on
  refilled : (new : List Row) → SortedByKey new → AllByRecursion FitsU32s new → length new ≤ c → suc version < limit
      → PartHolds c (suc version) new (suc version ∷ length new ∷ in_front new (flat rows ++ h.rest))
  refilled new u a f b =
      let len = behind in
      record {
        rest = drop (2 * length new) (flat rows ++ h.rest);
        is = refl;
        long = omega (arith, length_in_front new (flat rows ++ h.rest) (omega arith));
        sorted = u;
        small = a;
        fits = f;
        bounded = b;
      }

  -- the part after a change that leads to so many rows
  abbrev changed : RowsChange → ℕ → List ℕ
  changed change n = suc version ∷ n ∷ change.rows (length rows) (flat rows ++ h.rest)

  -- what the change does, unless it is refused
  module _ (compartment : ℕ) (change : RowsChange) (can : Bool) (n : ℕ)
      (count : change.count (length rows) (flat rows ++ h.rest) ≡ cond can (Some n) None) where
    change_is : change_rows compartment change (length rows) part
        ≡ outcome can (ltb (suc version) limit) (change.refusal c) (LastVersion compartment) (changed change n) part
    change_is =
        let room : capacity part ≡ c = omega (arith, h.long) in
        elim (cases_Bool can) [
          | inl t ↦ let e = rw t at count in rw (t, room, h.is, e, add-one version) refl
          | inr t ↦ let e = rw t at count in rw (t, room, h.is, e) refl
        ]

    change_tells : (change_rows compartment change (length rows) part).told ≡ cond can (version_check compartment version) (Err (change.refusal c))
    change_tells = ap (λ (r : ChangeResult). r.told) change_is ∙ outcome_told can (ltb (suc version) limit) _ _ _ part

    change_done : (change_rows compartment change (length rows) part).told ≡ Ok tt
        → (can ≡ true) × (ltb (suc version) limit ≡ true) × ((change_rows compartment change (length rows) part).memory ≡ changed change n)
    change_done e =
        let d = outcome_done can (ltb (suc version) limit) (change.refusal c) (LastVersion compartment) (changed change n) part
        (ap (λ (r : ChangeResult). r.told) (sym change_is) ∙ e) in
        (d.0, d.1, ap (λ (r : ChangeResult). r.memory) change_is ∙ d.2)

  -- and one that leads to these rows
  module _ (compartment : ℕ) (change : RowsChange) (can : Bool) (new : List Row)
      (count : change.count (length rows) (flat rows ++ h.rest) ≡ cond can (Some (length new)) None) where
    change_holds : (can ≡ true → change.rows (length rows) (flat rows ++ h.rest) ≡ in_front new (flat rows ++ h.rest)) → (can ≡ true → length new ≤ c)
        → SortedByKey new → AllByRecursion FitsU32s new → (change_rows compartment change (length rows) part).told ≡ Ok tt
        → PartHolds c (suc version) new (change_rows compartment change (length rows) part).memory
    change_holds are few u a e =
        let d = change_done compartment change can (length new) count e in
        rw (d.2, are d.0) (refilled new u a (few d.0) (ltb-true (suc version) limit d.1))

  same_fit : (new : List Row) → fits new (flat rows ++ h.rest) ≡ leb (length new) c
  same_fit new = let len = behind in grind (arith, nat_tests)

  put_count_is : (row : Row) → (put_change row).count (length rows) (flat rows ++ h.rest) ≡ cond (leb (length (put row rows)) c) (Some (length (put row rows))) None
  put_count_is row = (put_is_put row rows h.rest h.sorted).0 ∙ ap (λ b. cond b (Some (length (put row rows))) None) (same_fit (put row rows))

  delete_count_is : (key : ℕ) → (delete_change key).count (length rows) (flat rows ++ h.rest) ≡ cond (has_key key rows) (Some (length (without key rows))) None
  delete_count_is key = (delete_is_without key rows h.rest h.sorted).0

  refill_count_is : (count : ℕ) → (refill_change count).count (length rows) (flat rows ++ h.rest) ≡ cond (leb count c) (Some count) None
  refill_count_is count =
      let len = behind in
      let room : length (flat rows ++ h.rest) / 2 ≡ c = omega arith in
      rw room refl

  -- of these rows all or some are copied
  module _ (copy : Copying) (source_rows : List Row) (us : SortedByKey source_rows) where
    abbrev copied : List Row
    copied = rows_in copy.range source_rows

    copy_is : merge_result (flat copied) copy.range (length rows) (flat rows ++ h.rest)
        ≡ cond (leb (length (put_all copied rows)) c)
        (record { count = Some (length (put_all copied rows)); rows = in_front (put_all copied rows) (flat rows ++ h.rest) })
        (record { count = None; rows = flat rows ++ h.rest })
    copy_is = rw (copy_is_put_all copy.range source_rows rows h.rest us h.sorted, same_fit (put_all copied rows)) refl

    copy_count_is : (copy_change (flat copied) copy.range).count (length rows) (flat rows ++ h.rest) ≡ cond (leb (length (put_all copied rows)) c) (Some (length (put_all copied rows))) None
    copy_count_is = rw copy_is (elim (cases_Bool (leb (length (put_all copied rows)) c)) [ inl e ↦ rw e refl | inr e ↦ rw e refl ])

    copy_rows_are : leb (length (put_all copied rows)) c ≡ true → (copy_change (flat copied) copy.range).rows (length rows) (flat rows ++ h.rest) ≡ in_front (put_all copied rows) (flat rows ++ h.rest)
    copy_rows_are e = rw (copy_is, e) refl

pub check_counts : CheckCounts
check_counts = counts

pub rows_are_flat : RowsAreFlat
rows_are_flat = flat_rows

pub write_tells : WriteTells
write_tells c version w row rows part h =
    rw ((counts c version rows part h).0 w.place.start)
    (change_tells c version rows part h w.compartment (put_change row) (leb (length (put row rows)) c) (length (put row rows)) (put_count_is c version rows part h row))

pub write_holds : WriteHolds
write_holds c version w row rows part h small =
    rw ((counts c version rows part h).0 w.place.start)
    (change_holds c version rows part h w.compartment (put_change row) (leb (length (put row rows)) c) (put row rows) (put_count_is c version rows part h row)
    (λ e. (put_is_put row rows h.rest h.sorted).1 ∙ cond-true (fits (put row rows) (flat rows ++ h.rest)) _ _ (same_fit c version rows part h (put row rows) ∙ e))
    (λ e. leb-true (length (put row rows)) c e) (put_rises row rows h.sorted) (all_put FitsU32s row rows small h.small))

pub delete_tells : DeleteTells
delete_tells c version w key rows part h =
    rw ((counts c version rows part h).0 w.place.start)
    (change_tells c version rows part h w.compartment (delete_change key) (has_key key rows) (length (without key rows)) (delete_count_is c version rows part h key))

pub delete_holds : DeleteHolds
delete_holds c version w key rows part h =
    rw ((counts c version rows part h).0 w.place.start)
    (change_holds c version rows part h w.compartment (delete_change key) (has_key key rows) (without key rows) (delete_count_is c version rows part h key)
    (λ e. (delete_is_without key rows h.rest h.sorted).1)
    (λ e. omega (arith, rw e at (length_without key rows), h.fits)) (delete_rises key rows h.sorted) (all_without FitsU32s key rows h.small))

module _ (copy : Copying) (c version : ℕ) (source_rows rows : List Row) (source part : List ℕ) (b : BothHold source_rows rows c version source part) where
  source_is : rows_to_copy copy.range (length source_rows) source ≡ flat (rows_in copy.range source_rows)
  source_is =
      let e : take (2 * length source_rows) (drop 2 source) ≡ flat source_rows = rw b.source_holds.is (take_flat source_rows b.source_holds.rest) in
      rw e (range_is_rows_in copy.range source_rows b.source_holds.sorted)

  copy_part_is : copy_part copy source part ≡ change_rows copy.written.compartment (copy_change (flat (rows_in copy.range source_rows)) copy.range) (length rows) part
  copy_part_is =
      rw (
        (counts b.source_capacity b.source_version source_rows source b.source_holds).0 copy.from.start,
        (counts c version rows part b.holds).0 copy.written.place.start,
        source_is,
      ) refl

pub copy_tells : CopyTells
copy_tells copy c version source_rows rows source part b =
    let new = put_all (rows_in copy.range source_rows) rows in
    let u = b.source_holds.sorted in
    rw (copy_part_is copy c version source_rows rows source part b)
    (change_tells c version rows part b.holds copy.written.compartment (copy_change (flat (rows_in copy.range source_rows)) copy.range) (leb (length new) c) (length new)
    (copy_count_is c version rows part b.holds copy source_rows u))

pub copy_holds : CopyHolds
copy_holds copy c version source_rows rows source part b =
    let new = put_all (rows_in copy.range source_rows) rows in
    let u = b.source_holds.sorted in
    rw (copy_part_is copy c version source_rows rows source part b)
    (change_holds c version rows part b.holds copy.written.compartment (copy_change (flat (rows_in copy.range source_rows)) copy.range) (leb (length new) c) new
    (copy_count_is c version rows part b.holds copy source_rows u) (copy_rows_are c version rows part b.holds copy source_rows u)
    (λ e. leb-true (length new) c e) (rising_put_all (rows_in copy.range source_rows) rows b.holds.sorted)
    (all_put_all FitsU32s (rows_in copy.range source_rows) rows (all_rows_in FitsU32s copy.range source_rows b.source_holds.small) b.holds.small))

pub refill_tells : RefillTells
refill_tells c version w count rows part h =
    rw ((counts c version rows part h).0 w.place.start)
    (change_tells c version rows part h w.compartment (refill_change count) (leb count c) count (refill_count_is c version rows part h count))

pub refill_leaves : RefillLeaves
refill_leaves c version w count rows part h =
    rw ((counts c version rows part h).0 w.place.start)
    (λ e. (change_done c version rows part h w.compartment (refill_change count) (leb count c) count (refill_count_is c version rows part h count) e).2
    ∙ ap (λ l. suc version ∷ count ∷ drop 2 l) (sym h.is))

pub refill_holds : RefillHolds
refill_holds c version w rows part h =
    rw ((counts c version rows part h).0 w.place.start)
    (change_holds c version rows part h w.compartment (refill_change (length rows)) (leb (length rows) c) rows (refill_count_is c version rows part h (length rows))
    (λ e. ap (λ l. flat rows ++ l) (sym (drop_flat rows h.rest))) (λ e. h.fits) h.sorted h.small)

pub refilled_holds : RefilledHolds
refilled_holds c version rows new part after h u a f b e = rw (e, h.is) (refilled c version rows part h new u a f b)

pub raise_tells : RaiseTells
raise_tells c version w rows part h =
    rw ((counts c version rows part h).0 w.place.start) (change_tells c version rows part h w.compartment no_change true (length rows) refl)

pub raise_holds : RaiseHolds
raise_holds c version w rows part h =
    rw ((counts c version rows part h).0 w.place.start)
    (change_holds c version rows part h w.compartment no_change true rows refl
    (λ e. ap (λ l. flat rows ++ l) (sym (drop_flat rows h.rest))) (λ e. h.fits) h.sorted h.small)

-- a change of the first rows that is refused
refused_rows : (compartment : ℕ) (change : RowsChange) (count : ℕ) (part : List ℕ) → is_ok (change_rows compartment change count part).told ≡ false
    → (change_rows compartment change count part).memory ≡ part
refused_rows compartment change count part e = by (change.count count (drop 2 part)) (ltb (get_or part 0 0 + 1) limit) e
  where
    by : (o : Option ℕ) (lasts : Bool)
        → is_ok (change_unless_refused part (ok_or o (change.refusal (capacity part))) (λ new. cond lasts (record { told = Ok tt; memory = with_heading (get_or part 0 0 + 1) new (take 2 part ++ change.rows count (drop 2 part)) }) (refused_change part (LastVersion compartment)))).told ≡ false
        → (change_unless_refused part (ok_or o (change.refusal (capacity part))) (λ new. cond lasts (record { told = Ok tt; memory = with_heading (get_or part 0 0 + 1) new (take 2 part ++ change.rows count (drop 2 part)) }) (refused_change part (LastVersion compartment)))).memory ≡ part
    by None lasts e = refl
    by (Some n) true e = absurd (true≢false e)
    by (Some n) false e = refl

-- and one that a check comes before
refused_after : {A : Type 0} (part : List ℕ) (check : Result A Refusal) (next : A → ChangeResult)
    → ((a : A) → is_ok (next a).told ≡ false → (next a).memory ≡ part)
    → is_ok (change_unless_refused part check next).told ≡ false → (change_unless_refused part check next).memory ≡ part
refused_after part (Err refusal) next leaves e = refl
refused_after part (Ok a) next leaves e = leaves a e

pub refusal_leaves : RefusedChangeLeaves
refusal_leaves w change part = refused_after part (count_told w.place.start part) _ (λ count. refused_rows w.compartment change count part)

pub copy_refused : RefusedCopyLeaves
copy_refused copy source part = refused_after part (counts_of copy source part) _ (λ counts. refused_rows copy.written.compartment (copy_change (rows_to_copy copy.range counts.source source) copy.range) counts.destination part)
