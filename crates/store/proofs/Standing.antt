-- Rows of a compartment where they stand in memory.
use Rattle.std.proofs.Common.{◌≡◌, ℕ, ◌+◌, ◌-◌, ◌*◌, List, length, get_or, take, drop, sym, ap, ◌∙◌, arith}
use Rattle.compartment.specs.Holding as compartment
use Rattle.policy.specs.declared.place.Place.{Place}
use Rattle.rows.specs.declared.KeyRange.{KeyRange}
use Rattle.rows.specs.declared.Row.{Row}
use Rattle.rows.specs.Halving.{flat}
use Rattle.rows.specs.Rows.{SortedByKey, put_all, rows_in}
use Rattle.rows.proofs.Copied.{amount_of_copied}
use Rattle.rows.proofs.Keys.{same_rows}
use Rattle.rows.proofs.Orders.{rising_put_all}
use Rattle.rows.proofs.Places.{take_flat}
use Rattle.std.proofs.lemmas.List.{drop-take, drop-drop, take-take, get_or-take, get_or-drop}
use Rattle.std.proofs.lemmas.Bool.Decides.{nat_tests}
use Rattle.store.specs.Memory.{end, part}

module _ (q : Place) (memory : List ℕ) (v : ℕ) (rs : List Row) (k : compartment.PartHolds q.capacity v rs (part q memory)) where
  -- the first rows of a compartment, by its part and by their place in memory
  in_part : take (2 * length rs) (drop 2 (part q memory)) ≡ take (2 * length rs) (drop (q.start + 2) memory)
  in_part =
      let long : end q - q.start ≡ 2 + 2 * q.capacity = omega arith in
      let few = k.fits in
      rw (long, drop-take 2 (2 * q.capacity) (drop q.start memory), drop-drop 2 q.start memory)
      (take-take (2 * length rs) (2 * q.capacity) (drop (q.start + 2) memory) (omega arith))

  pub stands_in : take (2 * length rs) (drop (q.start + 2) memory) ≡ flat rs
  stands_in = sym in_part ∙ (ap (λ xs. take (2 * length rs) (drop 2 xs)) k.is ∙ take_flat rs k.rest)

  -- the number of rows, by its place in memory
  pub count_in : get_or memory (q.start + 1) 0 ≡ length rs
  count_in =
      sym (get_or-take (end q - q.start) (drop q.start memory) 1 0 (omega arith) ∙ get_or-drop q.start memory 1 0) ∙ ap (λ xs. get_or xs 1 0) k.is

  -- and the version
  pub version_in : get_or memory q.start 0 ≡ v
  version_in =
      let at : q.start + 0 ≡ q.start = omega arith in
      sym (get_or-take (end q - q.start) (drop q.start memory) 0 0 (omega arith) ∙ (get_or-drop q.start memory 0 0 ∙ ap (λ (i : ℕ). get_or memory i 0) at)) ∙ ap (λ xs. get_or xs 0 0) k.is

-- a copy of rows among themselves changes none
pub copy_itself : (range : KeyRange) (rs : List Row) → SortedByKey rs → put_all (rows_in range rs) rs ≡ rs
copy_itself range rs up =
    same_rows 0 (put_all (rows_in range rs) rs) rs (rising_put_all (rows_in range rs) rs up) up (λ k. let e = amount_of_copied k range rs rs up in grind (arith, nat_tests))
