-- What the code does to numbers is what the definitions say.
use Rattle.std.proofs.Common.{◌≡◌, eqb, ℕ, zero, suc, ◌+◌, ◌-◌, ◌*◌, ◌/◌, ◌≤◌, min, Bool, List, ◌++◌, length, take, drop, replicate, Decides, sym, refl, ap, ◌∙◌, inl, inr, arith, rules}
use borrow.Rule.Slice.PartMut.{put_mid}
use lib.Seq.{paste, take-append-add}
use Rattle.std.specs.Cmp.Lexicographic.{pointwise}
use Rattle.std.proofs.lemmas.Slice.Eq.{slice_eq-Decides, compares_Decides}
use Rattle.std.proofs.lemmas.List.{append-nil, append_assoc, take_all, take_at, take-append-le, take-replicate, drop_at, drop-drop, drop-replicate, length-take-le}
use Rattle.std.proofs.lemmas.Bool.{cases_lt}
use Rattle.std.proofs.lemmas.Bool.Decides.{same_from_decides, Decides-eqb}
use Rattle.std.specs.Option.{option_or}
use Rattle.std.specs.Simd.{first_chunks}
use Rattle.query.specs.declared.Query.{Query}
use Rattle.query.specs.declared.Query.TheVariants.{Rows as AskRows, Total as AskTotal, Shared as AskShared}
use Rattle.cache.specs.declared.CachedAnswer.{CachedAnswer}
use Rattle.cache.specs.CachePlaces.{query_numbers, key_numbers, answer_numbers, sixteen_versions, same_numbers, read_place, find_in, put_first}
use Rattle.cache.proofs.FirstFound.{first_found}

pub same_decides : (xs ys : List ℕ) → Decides (same_numbers xs ys) (xs ≡ ys)
same_decides = compares_Decides same_numbers (search rules)

-- `==` on slices
pub same_if_equal : (xs ys : List ℕ) (r : Bool) → r ≡ pointwise (λ a b. eqb a b) xs ys → same_numbers xs ys ≡ r
same_if_equal xs ys r m = same_from_decides (same_numbers xs ys) r (same_decides xs ys) (slice_eq-Decides Decides-eqb xs ys r m)

-- versions over zeros
pub sixteen_is : (vs : List ℕ) (n : ℕ) → n ≡ min (length vs) 16 → take n vs ++ drop n (replicate 16 0) ≡ sixteen_versions vs
sixteen_is vs n e = elim (cases_lt 16 (length vs)) [
  | inl h ↦ let f : n ≡ 16 = omega arith in rw f (append-nil (take 16 vs) ∙ sym (take-append-le 16 vs (replicate 16 0) (omega arith)))
  | inr h ↦
      let f : n ≡ length vs = omega arith in
      let g : 16 ≡ length vs + (16 - length vs) = omega arith in
      let t : take 16 (vs ++ replicate 16 0) ≡ vs ++ take (16 - length vs) (replicate 16 0) =
      ap (λ m. take m (vs ++ replicate 16 0)) g ∙ take-append-add vs (replicate 16 0) (16 - length vs) in
      rw (f, t, take_all (length vs) vs (omega arith), drop-replicate {X = ℕ} (length vs) 16 0, take-replicate {X = ℕ} (16 - length vs) 16 0 (omega arith))
]

pub key_made : (query : Query) (vs q ys : List ℕ) (n : ℕ) → q ≡ query_numbers query → ys ≡ take n vs → n ≡ min (length vs) 16 →
    put_mid 5 (5 + n - 5) (q ++ replicate 16 0) ys ≡ key_numbers query vs
key_made query vs q ys n e f g = rw (e, f) (made query)
  where
    made : (query : Query) → put_mid 5 (5 + n - 5) (query_numbers query ++ replicate 16 0) (take n vs) ≡ key_numbers query vs
    made (AskRows range) = let h : 5 + n - 5 ≡ n = omega arith in rw (h, sixteen_is vs n g)
    made (AskTotal range) = let h : 5 + n - 5 ≡ n = omega arith in rw (h, sixteen_is vs n g)
    made (AskShared a b range) = let h : 5 + n - 5 ≡ n = omega arith in rw (h, sixteen_is vs n g)

-- a move and two writes
pub first_put : (xs key : List ℕ) (kept : CachedAnswer) (n : ℕ) → 24 ≤ length xs → length key ≡ 21 → n ≡ length xs / 24 * 24 - 24 →
    put_mid 21 3 (put_mid 0 21 (paste xs 24 xs n) key) (answer_numbers kept) ≡ put_first (length xs / 24 * 24) (key ++ answer_numbers kept) xs
first_put xs key kept n h e g =
    let own = answer_numbers kept in
    let all = length xs / 24 * 24 in
    let rest = take n xs ++ drop (24 + n) xs in
    let moved : paste xs 24 xs n ≡ take 24 xs ++ rest = append_assoc (take 24 xs) (take n xs) (drop (24 + n) xs) in
    let back : drop 24 (take 24 xs ++ rest) ≡ rest = drop_at (take 24 xs) rest 24 (length-take-le 24 xs h) in
    let a : 24 + n ≡ all = omega arith in
    rw (moved, take_at key (drop 21 (take 24 xs ++ rest)) 21 e, drop_at key (drop 21 (take 24 xs ++ rest)) 21 e, drop-drop 3 21 (take 24 xs ++ rest), back, a, g)
    (sym (append_assoc key own (take (all - 24) xs ++ drop all xs)))

-- the first of some places, place after place
pub found_in_chunks : (n : ℕ) (key xs : List ℕ) → first_found (read_place key) (first_chunks 24 n xs) ≡ find_in n key xs
found_in_chunks zero key xs = refl
found_in_chunks (suc n) key xs = ap (option_or (read_place key (take 24 xs))) (found_in_chunks n key (drop 24 xs))
