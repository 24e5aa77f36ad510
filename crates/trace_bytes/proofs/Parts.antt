-- Two parts of a slice are filled one after the other: the whole is filled.
use Rattle.std.proofs.Common.{◌≡◌, ℕ, zero, suc, ◌+◌, ◌-◌, ◌≤◌, List, [], ◌∷◌, ◌++◌, length, take, drop, sym, refl, ap, ◌∙◌, append_assoc, arith, length-drop, length-take, drop-drop}
use borrow.Rule.Slice.PartMut.{post_of}
use Rattle.std.proofs.lemmas.List.{take-append-drop, take_at, drop_at, take_rest}
use Rattle.trace_bytes.specs.declared.layout.Layout.{Layout}
use Rattle.trace_bytes.specs.Bytes.{numbers_each, numbers_in}
use Rattle.trace_bytes.proofs.Filling.{words_most}

-- what a part keeps behind its front, and what lies behind the part
behind : (s n : ℕ) (xs : List ℕ) → s ≤ n → drop s (take n xs) ++ drop n xs ≡ drop s xs
behind zero n xs h = take-append-drop n xs
behind (suc s) zero xs h = absurd (omega arith)
behind (suc s) (suc n) [] h = refl
behind (suc s) (suc n) (x ∷ xs) h = behind s n xs (omega arith)

-- a part that begins with the slice is filled from its front
part_filled : (new old : List ℕ) (s n : ℕ) → s ≤ n → (new ++ drop s (take n old)) ++ drop n old ≡ new ++ drop s old
part_filled new old s n h = append_assoc new (drop s (take n old)) (drop n old) ∙ ap (λ (xs : List ℕ). new ++ xs) (behind s n old h)

module _ (layout : Layout) (bytes old first second : List ℕ) (s t : ℕ) (fits : layout.single + layout.wide ≤ length old) where
  abbrev part : List ℕ
  part = take layout.single old

  -- the slice after the first
  abbrev middle : List ℕ
  middle = first ++ drop layout.single old

  abbrev next : List ℕ
  next = take (s + layout.wide - s) (drop s middle)

  abbrev left : List ℕ
  left = take (length bytes - s) (drop s bytes)

  module _
      (s_is : s ≡ length (numbers_each 1 (length part) bytes)) (first_is : first ≡ numbers_each 1 (length part) bytes ++ drop s part)
      (t_is : t ≡ length (numbers_each layout.width (length next) left)) (second_is : second ≡ numbers_each layout.width (length next) left ++ drop t next) where
    abbrev singles : List ℕ
    singles = numbers_each 1 layout.single bytes

    abbrev wides : List ℕ
    wides = numbers_each layout.width layout.wide (drop s bytes)

    part_long : length part ≡ layout.single
    part_long = simp length-take (omega arith)

    s_singles : s ≡ length singles
    s_singles = rw part_long at s_is

    s_most : s ≤ layout.single
    s_most = let most = words_most 1 layout.single bytes in omega (arith, s_singles)

    middle_is : middle ≡ singles ++ drop s old
    middle_is =
        rw (first_is, part_long) (part_filled singles old s layout.single s_most)

    drop_middle : drop s middle ≡ drop s old
    drop_middle = rw middle_is (drop_at singles (drop s old) s (sym s_singles))

    next_is : next ≡ take layout.wide (drop s old)
    next_is = let wide : s + layout.wide - s ≡ layout.wide = omega arith in rw (drop_middle, wide)

    next_long : length next ≡ layout.wide
    next_long = rw next_is (simp (length-take, length-drop) (omega (arith, s_most)))

    wides_are : numbers_each layout.width (length next) left ≡ wides
    wides_are = rw (next_long, take_rest bytes s)

    t_wides : t ≡ length wides
    t_wides = rw wides_are at t_is

    t_most : t ≤ layout.wide
    t_most = let most = words_most layout.width layout.wide (drop s bytes) in omega (arith, t_wides)

    all_are : numbers_in layout bytes ≡ singles ++ wides
    all_are = rw s_singles

    pub both_after : take s middle ++ (second ++ post_of s (s + layout.wide - s) middle) ≡ numbers_in layout bytes ++ drop (s + t) old
    both_after =
        let wide : s + layout.wide - s ≡ layout.wide = omega arith in
        let front : take s middle ≡ singles = rw middle_is (take_at singles (drop s old) s (sym s_singles)) in
        let back : second ++ drop layout.wide (drop s old) ≡ wides ++ drop t (drop s old) =
        rw (second_is, wides_are, next_is) (part_filled wides (drop s old) t layout.wide t_most) in
        rw (all_are, append_assoc, ← drop-drop t s old) (rw (front, wide, drop_middle, back))
