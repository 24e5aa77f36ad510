-- An answer row keeps its length, whatever the parts hold.
use Rattle.std.proofs.Common.{◌≡◌, ℕ, ◌+◌, ◌-◌, ◌*◌, ◌≤◌, max, true, leb, List, [], ◌∷◌, length, drop, refl, inl, inr, arith}
use Rattle.std.proofs.lemmas.List.{length-append, length-drop, length-map, length-replicate, length-take}
use Rattle.std.proofs.lemmas.Bool.{cases_Bool, and_parts, leb-true}
use Rattle.std.proofs.lemmas.List.Sums.{sum_by-cons}
use Rattle.rows.specs.declared.KeyRange.{KeyRange}
use Rattle.rows.specs.Halving.{flat, position}
use Rattle.rows.specs.Numbers.{range_part}
use Rattle.rows.proofs.Passes.{length_shared}
use Rattle.rows.proofs.Places.{length_flat}
use Rattle.query.specs.declared.Query.{Query}
use Rattle.query.specs.declared.Query.TheVariants.{Rows, Total, Shared}
use Rattle.query.specs.AnswerRows.{count, counts, range_parts, common_rows, lengths, row_has_room, written_row, answer_result, shared_result}

range_short : (range : KeyRange) (part : List ℕ) → length (range_part range part) ≤ length part
range_short range part =
    let from = 2 * position range.from part in
    let n = 2 * max (position range.from part) (position (range.to + 1) part) - from in
    omega (arith, length-take n (drop from part), length-drop from part)

range_parts_short : (range : KeyRange) (parts : List (List ℕ)) → length (range_parts range parts) ≤ lengths parts
range_parts_short range [] = omega arith
range_parts_short range (p ∷ ps) =
    let sums = sum_by-cons (λ (part : List ℕ). length part) p ps in
    omega (arith, sums, length-append (range_part range p) (range_parts range ps), range_short range p, range_parts_short range ps)

written_long : (heads rows row : List ℕ) → length heads ≤ 32 → 32 + length rows ≤ length row → length (written_row heads rows row) ≡ length row
written_long heads rows row h k = simp (length-append, length-drop, length-replicate) (omega arith)

fitting : (parts : List (List ℕ)) (long : ℕ) → row_has_room parts long ≡ true → (length parts ≤ 16) × (32 + lengths parts ≤ long)
fitting parts long e =
    let both = and_parts (leb (length parts) 16) (leb (32 + lengths parts) long) e in
    (leb-true (length parts) 16 both.0, leb-true (32 + lengths parts) long both.1)

shared_keeps : (range : KeyRange) (parts : List (List ℕ)) (row : List ℕ) → length (shared_result range parts row).row ≡ length row
shared_keeps range [] row = refl
shared_keeps range (a ∷ []) row = refl
shared_keeps range (a ∷ b ∷ []) row = elim (cases_Bool (row_has_room (a ∷ []) (length row))) [
  | inl e ↦
      let f = (fitting (a ∷ []) (length row) e).1 in
      let rs = common_rows (range_part range a) b in
      rw e (written_long (length rs ∷ []) (flat rs) row (omega arith)
      (omega (arith, length_flat rs, length_shared (range_part range a) b, range_short range a)))
  | inr e ↦ rw e refl
]
shared_keeps range (a ∷ b ∷ c ∷ ps) row = refl

pub row_keeps_length : (query : Query) (parts : List (List ℕ)) (row : List ℕ) → length (answer_result query parts row).row ≡ length row
row_keeps_length (Rows range) parts row = elim (cases_Bool (row_has_room parts (length row))) [
  | inl e ↦
      let f = fitting parts (length row) e in
      let n : length (counts range parts) ≡ length parts = length-map parts (count range) in
      rw e (written_long (counts range parts) (range_parts range parts) row (omega arith) (omega (arith, range_parts_short range parts)))
  | inr e ↦ rw e refl
]
row_keeps_length (Total range) parts row = elim (cases_Bool (row_has_room parts (length row))) [
  | inl e ↦ rw e refl
  | inr e ↦ rw e refl
]
row_keeps_length (Shared a b range) parts row = shared_keeps range parts row
