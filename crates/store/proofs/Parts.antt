-- A part of a list after another part was changed: the same part, and one that lies apart.
use Rattle.std.proofs.Common.{◌≡◌, ℕ, ◌+◌, ◌≤◌, ◌⊎◌, List, ◌++◌, length, take, drop, sym, ap, ◌∙◌, inl, inr, arith}
use borrow.Rule.Slice.PartMut.{put_mid}
use Rattle.std.proofs.lemmas.List.{drop-take, take_at, drop_at, length-append, length-drop, length-take, length-take-le}
use Rattle.std.proofs.lemmas.Slice.{take-put_mid_below, drop-put_mid}

module _ (xs ys : List ℕ) (a n : ℕ) (fits : a + n ≤ length xs) (long : length ys ≡ n) where
  pub part_here : take n (drop a (take a xs ++ (ys ++ drop n (drop a xs)))) ≡ ys
  part_here = rw (drop_at (take a xs) (ys ++ drop n (drop a xs)) a (length-take-le a xs (omega arith))) (take_at ys (drop n (drop a xs)) n long)

  pub kept_length : length (take a xs ++ (ys ++ drop n (drop a xs))) ≡ length xs
  kept_length = simp (length-append, length-take, length-drop) (omega (arith, long, fits))

  pub part_apart : (b m : ℕ) → (b + m ≤ a) ⊎ (a + n ≤ b) → take m (drop b (take a xs ++ (ys ++ drop n (drop a xs)))) ≡ take m (drop b xs)
  part_apart b m (inl h) =
      sym (drop-take b m (put_mid a n xs ys)) ∙ (ap (drop b) (take-put_mid_below a n xs ys (b + m) h (omega arith)) ∙ drop-take b m xs)
  part_apart b m (inr h) = ap (take m) (drop-put_mid a n xs ys b h (omega arith) long)
