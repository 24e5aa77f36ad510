-- One item, and then those that follow.
use Rattle.std.proofs.Common.{◌≡◌, ◌≢◌, ℕ, zero, suc, ◌-◌, ◌<◌, ◌≤◌, eqb, ltb, List, [], ◌∷◌, length, drop, Result, refl, ◌∙◌, inl, inr, arith}
use Rattle.trace_items.specs.Items.{first_by, outcomes, outcomes_by, outcomes_in}
use Rattle.trace_items.specs.declared.items.Item.{Item}
use Rattle.base.specs.declared.refusal.Refusal.{Refusal}
use Rattle.std.proofs.lemmas.Bool.{cases_Bool, cond-true, cond-false, eq-eqb, ne_eqb, ltb-false, ltb-true}
use Rattle.std.proofs.lemmas.List.{drop_all, length-drop}
use Rattle.trace_bytes.specs.NextRequest.{next_in, Takes}
use Rattle.trace_bytes.proofs.Wholes.{next_takes}
use Rattle.trace_bytes.specs.declared.item.Next.{Next}
use Rattle.trace_bytes.specs.declared.item.Next.TheVariants as next

by_same : (f g : List ℕ → List (Result Item Refusal)) (bytes : List ℕ) (x : Next) → Takes (length bytes) x →
    ((rest : List ℕ) → length rest < length bytes → f rest ≡ g rest) → outcomes_by f bytes x ≡ outcomes_by g bytes x
by_same f g bytes (next.Request r k) t e = let s = e (drop k bytes) (simp length-drop (omega arith)) in cc
by_same f g bytes (next.Fault user place k) t e = let s = e (drop k bytes) (simp length-drop (omega arith)) in cc
by_same f g bytes (next.End place) t e = refl

more : (n : ℕ) (bytes : List ℕ) → 0 < length bytes → outcomes (suc n) bytes ≡ outcomes_by (outcomes n) bytes (next_in bytes)
more n bytes h = cond-false (eqb (length bytes) 0) _ _ (ne_eqb (length bytes) 0 (λ z. omega arith))

none : (n : ℕ) (bytes : List ℕ) → length bytes ≡ 0 → outcomes n bytes ≡ []
none zero bytes e = refl
none (suc n) bytes e = cond-true (eqb (length bytes) 0) _ _ (eq-eqb (length bytes) 0 e)

enough : (n m : ℕ) (bytes : List ℕ) → length bytes ≤ n → length bytes ≤ m → outcomes n bytes ≡ outcomes m bytes
enough zero m bytes h k = rw (none m bytes (omega arith)) refl
enough (suc n) zero bytes h k = none (suc n) bytes (omega arith)
enough (suc n) (suc m) bytes h k = elim (cases_Bool (ltb 0 (length bytes))) [
  | inl e ↦
      let some : 0 < length bytes = ltb-true 0 (length bytes) e in
      rw (more n bytes some, more m bytes some)
      (by_same (outcomes n) (outcomes m) bytes (next_in bytes) (next_takes bytes) (λ rest s. enough n m rest (omega arith) (omega arith)))
  | inr e ↦ let z : length bytes ≡ 0 = omega (arith, ltb-false 0 (length bytes) e) in rw (none (suc n) bytes z, none (suc m) bytes z) refl
]

one_on : (n : ℕ) (bytes : List ℕ) → length bytes ≡ suc n → outcomes (length bytes) bytes ≡ outcomes_by outcomes_in bytes (next_in bytes)
one_on n bytes e =
    enough (length bytes) (suc n) bytes (omega arith) (omega arith)
    ∙ (more n bytes (omega arith)
    ∙ by_same (outcomes n) outcomes_in bytes (next_in bytes) (next_takes bytes) (λ rest s. enough n (length rest) rest (omega arith) (omega arith)))

-- one comes, and what it takes is gone
by_first : (bytes : List ℕ) (x : Next) → outcomes_by outcomes_in bytes x ≡ (first_by x (length bytes)).0 ∷ outcomes_in (drop (first_by x (length bytes)).1 bytes)
by_first bytes (next.Request r k) = refl
by_first bytes (next.Fault user place k) = refl
by_first bytes (next.End place) = rw (drop_all (length bytes) bytes (omega arith)) refl

pub first_on : (bytes : List ℕ) → length bytes ≢ 0 →
    outcomes (length bytes) bytes ≡ (first_by (next_in bytes) (length bytes)).0 ∷ outcomes_in (drop (first_by (next_in bytes) (length bytes)).1 bytes)
first_on bytes h = one_on (length bytes - 1) bytes (omega arith) ∙ by_first bytes (next_in bytes)
