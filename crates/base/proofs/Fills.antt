-- A part of an array is filled from a list, as far as there is room.
use Rattle.std.proofs.Common.{◌≡◌, ℕ, ◌+◌, ◌≤◌, min, List, ◌++◌, length, take, sym, ap, ◌∙◌, inl, inr, arith}
use Rattle.std.proofs.Math.Seq.{take-append-add}
use Rattle.std.proofs.lemmas.Bool.{cases_lt}
use Rattle.std.proofs.lemmas.List.{take_all, length-take-le}
use Rattle.std.proofs.lemmas.Slice.{take-put_mid}
use borrow.Rule.Slice.PartMut.{put_mid}

module _ {X : Type 0} (start room : ℕ) (xs items : List X) (here : start ≤ length xs) where
  -- as many items as there is room for are all that matter
  enough : (m : ℕ) → m ≡ min (length items) room → take m items ≡ take room items
  enough m e = elim (cases_lt room (length items)) [
    | inl h ↦ let full : m ≡ room = omega arith in ap (λ n. take n items) full
    | inr h ↦ let all : m ≡ length items = omega arith in take_all m items (omega arith) ∙ sym (take_all room items h)
  ]

  pub filled : (m k most : ℕ) (part : List X) → m ≡ min (length items) room → k ≡ m → part ≡ take k items → most ≡ start + room
      → take (start + m) (put_mid start k xs part) ≡ take most (take start xs ++ items)
  filled m k most part few same taken all =
      let long = length-take-le m items (omega arith) in
      let at : most ≡ length (take start xs) + room = omega (arith, length-take-le start xs here) in
      rw (taken, same, at)
      (take-put_mid start m xs (take m items) (start + m) (omega arith) here
      ∙ (ap (λ (ys : List X). take start xs ++ ys) (enough m few) ∙ sym (take-append-add (take start xs) items room)))
