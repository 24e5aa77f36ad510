-- The merge from behind, on sorted rows, is put after put.
use Rattle.std.proofs.Common.{◌≡◌, ℕ, zero, suc, ◌-◌, ◌*◌, ◌<◌, ◌≤◌, true, false, eqb, ltb, List, [], ◌∷◌, ◌++◌, length, reverse, drop, sym, refl, ap, ◌∙◌, inl, inr, arith}
use Rattle.std.proofs.lemmas.List.{length-append, length-set, nil_from_length, reverse-append}
use Rattle.std.proofs.ByRecursion.{All-weaker, All-push}
use Rattle.std.proofs.lemmas.Bool.{cases_order, lt-ltb, le-ltb, eq-eqb, ne_eqb}
use Rattle.rows.specs.declared.Row.{Row}
use Rattle.rows.specs.Rows.{SortedByKey, put_all}
use Rattle.rows.specs.Halving.{flat}
use Rattle.merge.specs.Numbers.{row_written, keeps, replaces, stepped, written, merging}
use Rattle.merge.specs.declared.Left.{Left}
use Rattle.merge.proofs.Orders.{Ends, none, one_more, ends, Below, up_front, below_last, last_kept, last_added, last_replaced, no_fewer}
use Rattle.merge.proofs.Turns.{keeps_more, copies_more, merging_none, merging_full}
use Rattle.merge.proofs.Parts.{Fronts, same_rows, fronts_kept, fronts_front, last_key, last_row, written_behind}

abbrev pub left_of : ℕ → ℕ → Left
left_of count total = record { count = count; total = total }

-- rows that are sorted on both sides, and room for all of them
pub record Ready (places : ℕ) (m : List ℕ) (ss ds : List Row) : Type 0 where
  pub source_sorted : SortedByKey ss
  pub destination_sorted : SortedByKey ds
  pub count_is : places ≡ length (put_all ss ds)
  pub fronts : Fronts ds m
  pub room : 2 * places ≤ length m

abbrev pub Merged : ℕ → List ℕ → List Row → List Row → Type 0
Merged places m ss ds =
    merging places (reverse ss) (left_of (length ds) places) m ≡ flat (put_all ss ds) ++ drop (2 * length (put_all ss ds)) m

-- after a turn that wrote the row `r`, with `ss` and `ds` left of `ss'` and `ds'`
module _ (places : ℕ) (m : List ℕ) (ss' ds' ss ds : List Row) (r : Row) (ready : Ready (suc places) m ss' ds') (is : put_all ss' ds' ≡ put_all ss ds ++ (r ∷ [])) where
  places_are : places ≡ length (put_all ss ds)
  places_are = omega (arith, ready.count_is, ap length is, length-append (put_all ss ds) (r ∷ []))

  still_ready : SortedByKey ss → SortedByKey ds → Fronts ds m → Ready places (row_written places r m) ss ds
  still_ready us ud fronts = record {
    source_sorted = us;
    destination_sorted = ud;
    count_is = places_are;
    fronts = fronts_kept ds m fronts places r (omega (arith, places_are, no_fewer ss ds));
    room = let h = ready.room in simp length-set (omega arith);
  }

  finish : Merged places (row_written places r m) ss ds
      → merging places (reverse ss) (left_of (length ds) places) (row_written places r m) ≡ flat (put_all ss' ds') ++ drop (2 * length (put_all ss' ds')) m
  finish i =
      let h = ready.room in
      let e = places_are in
      i ∙ rw (is, e) (written_behind (put_all ss ds) r m (omega arith))

length_more : (xs : List Row) (x : Row) → length (xs ++ (x ∷ [])) ≡ suc (length xs)
length_more xs x = omega (arith, length-append xs (x ∷ []))

last_first : (ss : List Row) (s : Row) → reverse (ss ++ (s ∷ [])) ≡ s ∷ reverse ss
last_first ss s = reverse-append ss (s ∷ [])

module _ (places : ℕ) (m : List ℕ) (again : (m : List ℕ) (ss ds : List Row) → Ready places m ss ds → Merged places m ss ds) (ss : List Row) (s : Row) where
  -- the row to copy is written, and `ds` are left of `ds'`
  copies : (ds' ds : List Row) → Ready (suc places) m (ss ++ (s ∷ [])) ds' → SortedByKey ds → Fronts ds m
      → put_all (ss ++ (s ∷ [])) ds' ≡ put_all ss ds ++ (s ∷ [])
      → merging places (reverse ss) (left_of (length ds) places) (row_written places s m)
      ≡ flat (put_all (ss ++ (s ∷ [])) ds') ++ drop (2 * length (put_all (ss ++ (s ∷ [])) ds')) m
  copies ds' ds ready ud fronts is =
      let next = still_ready places m (ss ++ (s ∷ [])) ds' ss ds s ready is (up_front 0 ss (s ∷ []) ready.source_sorted) ud fronts in
      finish places m (ss ++ (s ∷ [])) ds' ss ds s ready is (again _ ss ds next)

  below_source : (ds : List Row) → Ready (suc places) m (ss ++ (s ∷ [])) ds → Below s.key ss
  below_source ds ready = below_last 0 ss s ready.source_sorted

  -- a turn that copies, by what it leaves
  module _ (ds' ds : List Row) (ready : Ready (suc places) m (ss ++ (s ∷ [])) ds') (ud : SortedByKey ds) (fronts : Fronts ds m)
      (is : put_all (ss ++ (s ∷ [])) ds' ≡ put_all ss ds ++ (s ∷ []))
      (next : stepped s.key (left_of (length ds') (suc places)) m ≡ left_of (length ds) places)
      (greater : keeps s.key (left_of (length ds') (suc places)) m ≡ false) where
    turn_copies : Merged (suc places) m (ss ++ (s ∷ [])) ds'
    turn_copies =
        let p : suc places - 1 ≡ places = omega arith in
        let w : written s (left_of (length ds') (suc places)) m ≡ row_written places s m = rw (greater, p) refl in
        rw (last_first ss s)
        (copies_more s (left_of (length ds') (suc places)) m (reverse ss) (omega arith) greater ∙ rw (next, w) (copies ds' ds ready ud fronts is))

  -- no row of the destination is left
  adds_first : Ready (suc places) m (ss ++ (s ∷ [])) [] → Merged (suc places) m (ss ++ (s ∷ [])) []
  adds_first ready =
      let p : suc places - 1 ≡ places = omega arith in
      turn_copies [] [] ready tt ready.fronts (last_added ss s [] (below_source [] ready) tt) (rw p refl) refl

  module _ (ds : List Row) (d : Row) (ready : Ready (suc places) m (ss ++ (s ∷ [])) (ds ++ (d ∷ []))) where
    abbrev left : Left
    left = left_of (length (ds ++ (d ∷ []))) (suc places)

    last_is : length (ds ++ (d ∷ [])) - 1 ≡ length ds
    last_is = let e = length_more ds d in omega arith

    some : ltb 0 (length (ds ++ (d ∷ []))) ≡ true
    some = lt-ltb 0 (length (ds ++ (d ∷ []))) (omega (arith, length_more ds d))

    keeps_is : keeps s.key left m ≡ ltb s.key d.key
    keeps_is = rw (some, last_is, last_key ds d m ready.fronts) refl

    replaces_is : replaces s.key left m ≡ eqb s.key d.key
    replaces_is = rw (some, last_is, last_key ds d m ready.fronts) refl

    one_less : suc places - 1 ≡ places
    one_less = omega arith

    below_s : Below s.key ss
    below_s = below_source (ds ++ (d ∷ [])) ready

    below_d : Below d.key ds
    below_d = below_last 0 ds d ready.destination_sorted

    front_sorted : SortedByKey ds
    front_sorted = up_front 0 ds (d ∷ []) ready.destination_sorted

    front_fronts : Fronts ds m
    front_fronts = fronts_front ds (d ∷ []) m ready.fronts

    row_kept : s.key < d.key → Merged (suc places) m (ss ++ (s ∷ [])) (ds ++ (d ∷ []))
    row_kept l =
        let below = All-push (λ x. x.key < d.key) ss s (All-weaker (λ x. x.key < s.key) (λ x. x.key < d.key) (λ x h. omega arith) ss below_s) l in
        let is = last_kept (ss ++ (s ∷ [])) ds d below in
        let k : keeps s.key left m ≡ true = keeps_is ∙ lt-ltb s.key d.key l in
        let next : stepped s.key left m ≡ left_of (length ds) places = rw (k, last_is, one_less) refl in
        let w : written s left m ≡ row_written places d m = rw (k, last_is, one_less) (ap (λ r. row_written places r m) (last_row ds d m ready.fronts)) in
        let ready_next = still_ready places m (ss ++ (s ∷ [])) (ds ++ (d ∷ [])) (ss ++ (s ∷ [])) ds d ready is ready.source_sorted front_sorted front_fronts in
        let rest = finish places m (ss ++ (s ∷ [])) (ds ++ (d ∷ [])) (ss ++ (s ∷ [])) ds d ready is (again _ (ss ++ (s ∷ [])) ds ready_next) in
        rw (last_first ss s)
        (keeps_more s left m (reverse ss) (omega arith) k ∙ rw (next, w, ← last_first ss s) rest)

    row_replaced : s.key ≡ d.key → Merged (suc places) m (ss ++ (s ∷ [])) (ds ++ (d ∷ []))
    row_replaced e =
        let k : keeps s.key left m ≡ false = keeps_is ∙ le-ltb s.key d.key (omega arith) in
        let r : replaces s.key left m ≡ true = replaces_is ∙ eq-eqb s.key d.key e in
        turn_copies (ds ++ (d ∷ [])) ds ready front_sorted front_fronts (last_replaced ss s ds below_s (rw (sym e) at below_d) d e)
        (rw (k, r, last_is, one_less) refl) k

    row_added : d.key < s.key → Merged (suc places) m (ss ++ (s ∷ [])) (ds ++ (d ∷ []))
    row_added l =
        let below = All-push (λ x. x.key < s.key) ds d (All-weaker (λ x. x.key < d.key) (λ x. x.key < s.key) (λ x h. omega arith) ds below_d) l in
        let k : keeps s.key left m ≡ false = keeps_is ∙ le-ltb s.key d.key (omega arith) in
        let r : replaces s.key left m ≡ false = replaces_is ∙ ne_eqb s.key d.key (λ e. omega arith) in
        turn_copies (ds ++ (d ∷ [])) (ds ++ (d ∷ [])) ready ready.destination_sorted ready.fronts (last_added ss s (ds ++ (d ∷ [])) below_s below)
        (rw (k, r, one_less) refl) k

step : (places : ℕ) (m : List ℕ) → ((m : List ℕ) (ss ds : List Row) → Ready places m ss ds → Merged places m ss ds)
    → {ss ds : List Row} → Ends ss → Ends ds → Ready (suc places) m ss ds → Merged (suc places) m ss ds
step places m again {ds = ds} none e ready = merging_none (suc places) (left_of (length ds) (suc places)) m ∙ sym (same_rows ds m ready.fronts)
step places m again (one_more ss s) none ready = adds_first places m again ss s ready
step places m again (one_more ss s) (one_more ds d) ready =
    elim (cases_order s.key d.key) [
      | inl e ↦ row_replaced places m again ss s ds d ready e
      | inr (inl l) ↦ row_kept places m again ss s ds d ready l
      | inr (inr l) ↦ row_added places m again ss s ds d ready l
    ]

pub merges : (places : ℕ) (m : List ℕ) (ss ds : List Row) → Ready places m ss ds → Merged places m ss ds
merges zero m ss ds ready =
    let e = nil_from_length (put_all ss ds) (sym ready.count_is) in
    merging_full 0 (reverse ss) (left_of (length ds) 0) m refl ∙ rw e refl
merges (suc places) m ss ds ready = step places m (merges places) (ends ss) (ends ds) ready
